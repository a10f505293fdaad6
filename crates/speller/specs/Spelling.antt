-- What a speller means, and what it answers.
use Rattle.std.specs.Prelude.{◌≡◌, ℕ, ◌≤◌, true, List, ◌++◌, length, drop, IsSomeAnd, Some, None, Ok, Err, Option, Result}
use Rattle.numeral.specs.Numerals.{is_pair}
use Rattle.speller.specs.declared.fault.SpellFault.{SpellFault}
use Rattle.speller.specs.Faults.{refusal}

-- The numeral of the bits, if they have one, and the length of the longest; the buffer before, the answer, the buffer after.
-- A numeral stands at the front, and the rest is as it was. A refusal writes nothing.
abbrev pub Spells : Option (List ℕ) → ℕ → List ℕ → Result ℕ SpellFault → List ℕ → Type 0
Spells numeral longest before (Ok n) after = (longest ≤ length before) × (n ≤ longest) × IsSomeAnd numeral (λ t. (n ≡ length t) × (after ≡ t ++ drop n before))
Spells numeral longest before (Err fault) after = (refusal fault).due numeral longest (length before) × (after ≡ before)

-- The same in a buffer that has room for every numeral: the answer is the length of the numeral.
abbrev pub Found : Option (List ℕ) → List ℕ → Option ℕ → List ℕ → Type 0
Found None before r after = (r ≡ None) × (after ≡ before)
Found (Some t) before r after = (r ≡ Some (length t)) × (after ≡ t ++ drop (length t) before)

-- no two doubles have one numeral
abbrev pub Distinct : (ℕ → Option (List ℕ)) → Type 0
Distinct f = (a b : ℕ) (t : List ℕ) → f a ≡ Some t → f b ≡ Some t → a ≡ b

-- each numeral may be given for its double
abbrev pub Shaped : (ℕ → Option (List ℕ)) → Type 0
Shaped f = (bits : ℕ) (t : List ℕ) → f bits ≡ Some t → is_pair bits t ≡ true

-- what every speller keeps
pub record Lawful (f : ℕ → Option (List ℕ)) : Type 0 where
  pub distinct : Distinct f
  pub shaped : Shaped f
