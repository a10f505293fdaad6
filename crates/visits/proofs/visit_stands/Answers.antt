use Rattle.visits.proofs.Stand.{stands}
use Rattle.visits.proofs.visit_stands.Goals as goal

pub returns : goal.returns
returns c = stands
