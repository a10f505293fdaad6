-- What is left of a repetition.
use Rattle.std.proofs.Common.{◌≡◌, ℕ, suc, ◌+◌, ◌-◌, ◌<◌, ◌≤◌, List, [], ◌++◌, ap, arith}
use Rattle.sink_tests.specs.Repeated.{repeated}

pub repeat_next : (n i : ℕ) (bs : List ℕ) → i < n → repeated (n - i) bs ≡ bs ++ repeated (n - (i + 1)) bs
unfolding repeated
repeat_next n i bs h = let e : n - i ≡ suc (n - (i + 1)) = omega arith in ap (λ k. repeated k bs) e

pub repeat_end : (n i : ℕ) (bs : List ℕ) → n ≤ i → repeated (n - i) bs ≡ []
unfolding repeated
repeat_end n i bs h = let e : n - i ≡ 0 = omega arith in ap (λ k. repeated k bs) e
