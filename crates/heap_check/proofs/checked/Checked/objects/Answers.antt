-- The section of objects has as many rows as the heap has objects.
use Rattle.std.proofs.Common.{sym}
use Rattle.heap_check.proofs.Held.{objects_are}
use Rattle.heap_check.proofs.checked.Checked.objects.Goals as goal

pub returns : goal.returns
returns c = sym (objects_are c.args.self.now)
