use Rattle.speller.proofs.Wholes.{distinct}
use Rattle.speller.proofs.whole.WholeSpeller.distinct.Goals as goal

pub returns : goal.returns
returns c = distinct
