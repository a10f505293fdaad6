-- By computing.
use Rattle.std.proofs.Common.{◌≡◌, true, is_ok, refl}
use Rattle.dump.specs.Rules.{refuse}
use Rattle.planner.specs.Lines.{repl, planned}
use Rattle.samples.specs.Scripts.{no_numerals}
use Rattle.samples.specs.Deep.{chain}

pub passes : is_ok (planned no_numerals (chain 128) repl) ≡ true
passes = refl

pub refused : planned no_numerals (chain 129) repl ≡ refuse 12 0 0
refused = refl
