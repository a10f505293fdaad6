-- No digits stand twice in a checked dump.
use Rattle.table.proofs.Laws.{rows_distinct}
use Rattle.table.proofs.TableSpeller.distinct.Goals as goal

pub returns : goal.returns
returns c = rows_distinct c.args.self.now.rows
