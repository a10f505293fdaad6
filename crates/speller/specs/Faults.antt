-- The refusals of a speller.
use Rattle.std.specs.Prelude.{◌≡◌, ℕ, ◌<◌, ◌≤◌, List, [], ◌∷◌, None, Option}
use Rattle.speller.specs.declared.fault.SpellFault.{SpellFault}
use Rattle.speller.specs.declared.fault.SpellFault.TheVariants.{Short, Unspelled}

-- A refusal has a number and values, by the bits that were to be spelled.
-- It is due by their numeral, if they have one, the length of the longest numeral, and the length of the buffer.
pub record Refusal : Type 1 where
  pub number : ℕ
  pub values : ℕ → List ℕ
  pub due : Option (List ℕ) → ℕ → ℕ → Type 0

abbrev pub refusal : SpellFault → Refusal
refusal Short = record { number = 24; values = λ bits. []; due = λ numeral longest room. room < longest }
refusal Unspelled = record { number = 11; values = λ bits. bits ∷ []; due = λ numeral longest room. (longest ≤ room) × (numeral ≡ None) }
