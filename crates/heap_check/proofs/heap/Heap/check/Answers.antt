use Rattle.heap_check.proofs.Kept.{exactly, formed}
use Rattle.heap_check.proofs.heap.Heap.check.Goals as goal

pub returns : goal.returns
returns c = record { told = c.fill.ensures; exactly = exactly _ _ _ _ c.fill.ensures; formed = formed c.fill.new.self.checked }
