-- The root names a text or an object that there is.
use Rattle.reads.proofs.Sound.{root_placed}
use Rattle.heap_check.specs.Heaps.{dump_of}
use Rattle.heap_check.proofs.Held.{passed, objects_are}
use Rattle.heap_check.proofs.checked.Checked.root.Goals as goal

pub value_of-requires : goal.value_of-requires
value_of-requires c =
    let h = c.args.self.now in
    rw (c.sound_texts.ensures, c.root.ensures) (root_placed (dump_of h) h.raw.layout (passed h))

pub returns-clause-fits : goal.returns-clause-fits
returns-clause-fits c = rw c.sound_texts.ensures at c.value_of.ensures.fits

pub returns-clause-there : goal.returns-clause-there
returns-clause-there c = rw (objects_are, ← c.sound_texts.ensures) c.value_of.ensures.there
