-- Lists made from a range of numbers: what holds of each element, and of each with every later one.
use Rattle.std.proofs.Common.{◌≡◌, ℕ, zero, suc, ◌+◌, ◌<◌, map, subst, arith}
use Rattle.std.specs.List.{range_with_len, AllByRecursion as All}
use Rattle.formed.specs.Formed.{Pairwise}

module _ {X : Type 0} (P : X → Type 0) (f : ℕ → X) where
  pub all_counting : (a n : ℕ) → ((k : ℕ) → k < n → P (f (a + k))) → All P (map f (range_with_len a n))
  all_counting a zero h = tt
  all_counting a (suc n) h =
      let e : a + 0 ≡ a = omega arith in (
        subst (λ i. P (f i)) e (h 0 (omega arith)),
        all_counting (a + 1) n (λ k g. let m : a + suc k ≡ a + 1 + k = omega arith in subst (λ i. P (f i)) m (h (suc k) (omega arith))),
      )

module _ {X : Type 0} (R : X → X → Type 0) (f : ℕ → X) where
  pub pairwise_counting : (a n : ℕ) → ((i j : ℕ) → i < j → j < n → R (f (a + i)) (f (a + j))) → Pairwise R (map f (range_with_len a n))
  pairwise_counting a zero h = tt
  pairwise_counting a (suc n) h =
      let e : a + 0 ≡ a = omega arith in (
        all_counting (R (f a)) f (a + 1) n (λ k g.
            let m : a + suc k ≡ a + 1 + k = omega arith in
            subst (λ i. R (f a) (f i)) m (subst (λ i. R (f i) (f (a + suc k))) e (h 0 (suc k) (omega arith) (omega arith)))),
        pairwise_counting (a + 1) n (λ i j g k.
            let m : a + suc i ≡ a + 1 + i = omega arith in
            let o : a + suc j ≡ a + 1 + j = omega arith in
            subst (λ x. R (f (a + 1 + i)) (f x)) o (subst (λ x. R (f x) (f (a + suc j))) m (h (suc i) (suc j) (omega arith) (omega arith)))),
      )
