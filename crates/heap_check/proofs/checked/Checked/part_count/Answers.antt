-- A row of the heap is that of its object.
use Rattle.std.proofs.Common.{◌∙◌}
use Rattle.heap_check.proofs.Held.{an_object, count_at}
use Rattle.heap_check.proofs.checked.Checked.part_count.Goals as goal

pub row-requires : goal.row-requires
row-requires c = an_object c.args.self.now c.args.i c.requires

pub returns : goal.returns
returns c = c.part_count.ensures ∙ count_at c.args.self.now c.args.i c.requires c.row.result c.row.ensures
