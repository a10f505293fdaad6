-- A numeral names a text that there is.
use Rattle.std.proofs.Common.{refl, sym, ap}
use Rattle.dump.specs.Heaps.{Numeral}
use Rattle.dump.specs.Places.{numeral_text}
use Rattle.reads.proofs.Sound.{text_fits, numeral_placed}
use Rattle.heap_check.specs.Heaps.{dump_of}
use Rattle.heap_check.proofs.Held.{passed, a_numeral, numeral_at}
use Rattle.heap_check.proofs.checked.Checked.numeral_digits.Goals as goal

pub numeral_text-requires : goal.numeral_text-requires
numeral_text-requires c = a_numeral c.args.self.now c.args.i c.requires

pub text-requires : goal.text-requires
text-requires c =
    let h = c.args.self.now in
    rw (c.sound_texts.ensures, c.numeral_text.ensures.0) (numeral_placed (dump_of h) h.raw.layout c.args.i (passed h) (a_numeral h c.args.i c.requires))

pub returns-clause-is : goal.returns-clause-is
returns-clause-is c =
    rw (c.text.ensures, c.sound_texts.ensures, c.numeral_text.ensures.0)
    (sym (ap (λ (n : Numeral). n.digits) (numeral_at c.args.self.now c.args.i c.requires)))

pub returns-clause-fits : goal.returns-clause-fits
returns-clause-fits c =
    let h = c.args.self.now in
    let there = numeral_placed (dump_of h) h.raw.layout c.args.i (passed h) (a_numeral h c.args.i c.requires) in
    text_fits (dump_of h) h.raw.layout (numeral_text (dump_of h) h.raw.layout c.args.i) c.text.result (passed h).texts h.raw.units there
    (rw (c.text.ensures, c.sound_texts.ensures, c.numeral_text.ensures.0) refl)
