use Rattle.heap_check.proofs.Kept.{formed}
use Rattle.heap_check.proofs.checked.Checked.stands.Goals as goal

pub returns-clause-formed : goal.returns-clause-formed
returns-clause-formed c = formed c.args.self.now
