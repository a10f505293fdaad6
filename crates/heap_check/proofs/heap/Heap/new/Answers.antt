use Rattle.std.proofs.Common.{refl}
use Rattle.dump.specs.Bytes.{word}
use Rattle.dump.specs.Layouts.{section_at}
use Rattle.dump.specs.Places.{cell_at}
use Rattle.heap_check.proofs.heap.Heap.new.Goals as goal

pub invariant_of-result : goal.invariant_of-result
unfolding word section_at cell_at
invariant_of-result c = record { bytes = refl; laid = refl; sound = refl }

pub returns : goal.returns
unfolding word section_at cell_at
returns c = refl
