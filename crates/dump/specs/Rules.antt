-- Rules with their numbers: a record is refused by the first rule that fails, a list of records by its first such record.
use Rattle.std.specs.Prelude.{◌≡◌, ℕ, zero, suc, Bool, true, false, cond, List, [], ◌∷◌, Ok, Err, Result}
use Rattle.dump.specs.declared.refusal.Refusal.{Refusal}

abbrev pub Verdict : Type 0
Verdict = Result (Unit {0}) Refusal

abbrev pub refuse : {A : Type 0} → ℕ → ℕ → ℕ → Result A Refusal
refuse k s i = Err (record { number = k; section = s; «record» = i })

abbrev pub and_then : {A B : Type 0} → Result A Refusal → (A → Result B Refusal) → Result B Refusal
and_then (Ok x) f = f x
and_then (Err e) f = Err e

-- a number, and what must hold, or the record is refused with it
pub data Rule : Type 0 where
  rule : ℕ → Bool → Rule

-- the record i of the section s, under its rules in their order
abbrev pub judge : ℕ → ℕ → List Rule → Verdict
judge s i [] = Ok tt
judge s i (rule k holds ∷ rules) = cond holds (judge s i rules) (refuse k s i)

-- every rule holds
abbrev pub Hold : List Rule → Type 0
Hold [] = Unit {0}
Hold (rule k holds ∷ rules) = (holds ≡ true) × Hold rules

-- the first refusal among the records below n
abbrev pub each : (ℕ → Verdict) → ℕ → Verdict
each f zero = Ok tt
each f (suc n) = and_then (each f n) (λ _. f n)

-- some k below n passes the test
abbrev pub any_below : (ℕ → Bool) → ℕ → Bool
any_below p zero = false
any_below p (suc n) = cond (any_below p n) true (p n)
