-- A row of the heap is that of its object, and so are its parts.
use Rattle.std.proofs.Common.{List, get_or, ap}
use Rattle.dump.specs.Heaps.{Part, no_part}
use Rattle.heap_check.proofs.Held.{objects_are, an_object, parts_at, part_there}
use Rattle.heap_check.proofs.checked.Checked.part.Goals as goal

pub row-requires : goal.row-requires
row-requires c = an_object c.args.self.now c.args.i c.requires.object

pub part_of-requires : goal.part_of-requires
part_of-requires c =
    let part = part_there c.args.self.now c.args.i c.requires.object c.row.result c.row.ensures c.args.k c.requires.part in
    rw c.sound_texts.ensures (record { below = part.under; on = part.on; placed = part.placed })

pub returns-clause-is : goal.returns-clause-is
returns-clause-is c =
    rw (c.part_of.ensures.is, c.sound_texts.ensures)
    (ap (λ (ps : List Part). get_or ps c.args.k no_part) (parts_at c.args.self.now c.args.i c.requires.object c.row.result c.row.ensures))

pub returns-clause-fits : goal.returns-clause-fits
returns-clause-fits c = rw c.sound_texts.ensures at c.part_of.ensures.fits

pub returns-clause-there : goal.returns-clause-there
returns-clause-there c = rw (objects_are, ← c.sound_texts.ensures) c.part_of.ensures.there
