-- A row of the heap is that of its object.
use Rattle.heap_check.proofs.Held.{an_object, kind_at_lem, row_at_lem}
use Rattle.heap_check.proofs.checked.Checked.kind.Goals as goal

pub row-requires : goal.row-requires
row-requires c = an_object c.args.self.now c.args.i c.requires

pub kind_of-requires : goal.kind_of-requires
kind_of-requires c =
    let row = row_at_lem c.args.self.now c.args.i c.requires c.row.result c.row.ensures in
    rw c.sound_texts.ensures (record { placed = row.numbers; known = row.known; within = row.within })

pub returns-clause-is : goal.returns-clause-is
returns-clause-is c = rw (c.kind_of.ensures.is, c.sound_texts.ensures) (kind_at_lem c.args.self.now c.args.i c.requires c.row.result c.row.ensures)

pub returns-clause-fits : goal.returns-clause-fits
returns-clause-fits c = rw c.sound_texts.ensures at c.kind_of.ensures.fits
