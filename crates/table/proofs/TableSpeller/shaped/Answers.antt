-- Each numeral of a checked dump is that of its double.
use Rattle.table.proofs.Laws.{rows_shaped}
use Rattle.table.proofs.TableSpeller.shaped.Goals as goal

pub returns : goal.returns
returns c = rows_shaped c.args.self.now.rows
