use Rattle.faithful.proofs.Main.{faithful, accepted_faithful}
use Rattle.faithful.proofs.Dumps.{own_numerals_faithful}
use Rattle.faithful.proofs.faithful_stands.Goals as goal

pub returns : goal.returns
returns c = record { heaps = faithful; dumps = accepted_faithful; alone = own_numerals_faithful }
