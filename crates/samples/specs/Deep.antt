-- Nested objects: 128 pass, and 129 are refused.
use Rattle.std.specs.Prelude.{◌≡◌, ℕ, zero, suc, true, List, [], ◌∷◌, is_ok, codes}
use Rattle.dump.specs.Heaps.{Heap, Object, object, name, plain, property}
use Rattle.dump.specs.Rules.{refuse}
use Rattle.planner.specs.Lines.{repl, planned}
use Rattle.samples.specs.Scripts.{no_numerals}

-- n objects from the number i on, each in the one before it
abbrev pub chain_from : ℕ → ℕ → List Object
chain_from i zero = []
chain_from i (suc zero) = record { kind = plain; parts = [] } ∷ []
chain_from i (suc (suc n)) = record { kind = plain; parts = property (name (codes "a")) (object (suc i)) ∷ [] } ∷ chain_from (suc i) (suc n)

abbrev pub chain : ℕ → Heap
chain n = record { objects = chain_from 0 n; numerals = []; root = object 0 }

abbrev pub DeepStands : Type 0
DeepStands = (is_ok (planned no_numerals (chain 128) repl) ≡ true) × (planned no_numerals (chain 129) repl ≡ refuse 12 0 0)
