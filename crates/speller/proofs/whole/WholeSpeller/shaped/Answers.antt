use Rattle.speller.proofs.Wholes.{shaped}
use Rattle.speller.proofs.whole.WholeSpeller.shaped.Goals as goal

pub returns : goal.returns
returns c = shaped
