-- A row of the section is that of its numeral.
use Rattle.std.proofs.Common.{sym, ap, ◌∙◌}
use Rattle.dump.specs.Heaps.{Numeral}
use Rattle.heap_check.proofs.Held.{a_numeral, numeral_at}
use Rattle.heap_check.proofs.checked.Checked.numeral_bits.Goals as goal

pub numeral_bits-requires : goal.numeral_bits-requires
numeral_bits-requires c = a_numeral c.args.self.now c.args.i c.requires

pub returns : goal.returns
returns c = c.numeral_bits.ensures ∙ sym (ap (λ (n : Numeral). n.bits) (numeral_at c.args.self.now c.args.i c.requires))
