-- The section of numerals has as many rows as the heap has numerals.
use Rattle.std.proofs.Common.{sym}
use Rattle.heap_check.proofs.Held.{numerals_are}
use Rattle.heap_check.proofs.checked.Checked.numerals.Goals as goal

pub returns : goal.returns
returns c = sym (numerals_are c.args.self.now)
