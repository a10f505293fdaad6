-- Rows judged in turn.
use Rattle.std.specs.Prelude.{ℕ, ◌<◌, Ok, Err, MatchResult}
use Rattle.dump.specs.Rules.{Verdict}

-- no row below n was refused, or r is the refusal of the first that was
pub record Judged (post : ℕ → Verdict → Type 0) (n : ℕ) (r : Verdict) : Type 0 where
  pub cases : MatchResult r (λ _. (i : ℕ) → i < n → post i (Ok tt)) (λ e. (i : ℕ) × (i < n) × post i (Err e) × ((k : ℕ) → k < i → post k (Ok tt)))
