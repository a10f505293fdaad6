-- What a sink can mean.
use Rattle.std.specs.Prelude.{ℕ, List, [], ◌∷◌}

-- A sink K means a state, a rule for the state after one more byte, and a space in bytes.
-- Its place is what no byte changes: of a sink over lent memory, which memory that is.
pub record Meaning (K : Type 0) : Type 1 where
  pub State : Type 0
  pub state : K → State
  pub rule : State → ℕ → State
  pub space : K → ℕ
  pub Place : Type 0
  pub place : K → Place

-- the state after some bytes, in their order
abbrev pub run : {S : Type 0} → (S → ℕ → S) → S → List ℕ → S
run rule s [] = s
run rule s (b ∷ bs) = run rule (rule s b) bs
