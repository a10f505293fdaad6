use Rattle.formed.proofs.Heaps as heaps
use Rattle.formed.proofs.Verdict as verdict
use Rattle.formed.proofs.verdict_stands.Goals as goal

pub returns : goal.returns
returns c = record { sound = verdict.every; formed = heaps.every }
