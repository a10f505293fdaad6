-- How many bytes of a space a number took, by its numeral.
use Rattle.std.specs.Prelude.{◌≡◌, ℕ, ◌<◌, ◌≤◌, List, length, Some, None, Ok, Err, Option, Result}
use Rattle.speller.specs.declared.fault.SpellFault.TheVariants.{Short, Unspelled}
use Rattle.numbers.specs.declared.fault.NumberFault.{NumberFault}
use Rattle.numbers.specs.declared.fault.NumberFault.TheVariants.{Sinking, Spelling}

abbrev pub Counted : Option (List ℕ) → ℕ → Result ℕ NumberFault → Type 0
Counted (Some t) space (Ok n) = (n ≡ length t) × (n ≤ space)
Counted (Some t) space (Err (Sinking f)) = space < length t
Counted (Some t) space (Err (Spelling f)) = ⊥
Counted None space (Ok n) = ⊥
Counted None space (Err (Sinking f)) = ⊥
Counted None space (Err (Spelling Short)) = ⊥
Counted None space (Err (Spelling Unspelled)) = Unit {0}
