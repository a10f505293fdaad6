-- States after bytes in a row.
use Rattle.std.proofs.Common.{◌≡◌, ℕ, zero, suc, ◌+◌, ◌-◌, ◌%◌, ◌^◌, ◌<◌, List, [], ◌∷◌, ◌++◌, length, take, sym, refl, ap, ◌∙◌, append_assoc, append-nil, mod-eq_of_lt, arith, take_all}
use Rattle.sink.specs.Meanings.{run}

pub run_append : {S : Type 0} (rule : S → ℕ → S) (s : S) (xs ys : List ℕ) → run rule s (xs ++ ys) ≡ run rule (run rule s xs) ys
run_append rule s [] ys = refl
run_append rule s (x ∷ xs) ys = run_append rule (rule s x) xs ys

-- what a page holds
pub run_keeps : (s xs : List ℕ) → run (λ s b. s ++ b ∷ []) s xs ≡ s ++ xs
run_keeps s [] = sym (append-nil s)
run_keeps s (x ∷ xs) = run_keeps (s ++ x ∷ []) xs ∙ append_assoc s (x ∷ []) xs

-- what a counter tells
pub run_counts : (n : ℕ) (xs : List ℕ) → run (λ k _. k + 1) n xs ≡ n + length xs
run_counts n [] = omega arith
run_counts n (x ∷ xs) = run_counts (n + 1) xs ∙ omega arith

-- what a tally's sink holds
pub run_tally_state : {S : Type 0} (rule : S → ℕ → S) (s : S) (n : ℕ) (xs : List ℕ) → (run {S = S × ℕ} (λ x b. (rule x.0 b, (x.1 + 1) % 2 ^ 64)) (s, n) xs).0 ≡ run rule s xs
run_tally_state rule s n [] = refl
run_tally_state rule s n (x ∷ xs) = run_tally_state rule (rule s x) ((n + 1) % 2 ^ 64) xs

-- what the tally counts
pub run_tally_count : {S : Type 0} (rule : S → ℕ → S) (s : S) (n : ℕ) (xs : List ℕ) → n + length xs < 2 ^ 64 → (run {S = S × ℕ} (λ x b. (rule x.0 b, (x.1 + 1) % 2 ^ 64)) (s, n) xs).1 ≡ n + length xs
run_tally_count rule s n [] h = omega arith
run_tally_count rule s n (x ∷ xs) h =
    let l : n + 1 < 2 ^ 64 = omega arith in
    let e : (n + 1) % 2 ^ 64 ≡ n + 1 = mod-eq_of_lt l in
    run_tally_count rule (rule s x) ((n + 1) % 2 ^ 64) xs (rw e (omega arith)) ∙ ap (λ k. k + length xs) e ∙ omega arith

-- the front of two lists in a row
pub take-append : (n : ℕ) (xs ys : List ℕ) → take n (xs ++ ys) ≡ take n xs ++ take (n - length xs) ys
take-append n [] ys =
    let e : n ≡ n - 0 = omega arith in
    ap (λ k. take k ys) e ∙ ap (λ (r : List ℕ). r ++ take (n - 0) ys) (sym (take_all n [] (omega arith)))
take-append zero (x ∷ xs) ys = let e : 0 - suc (length xs) ≡ 0 = omega arith in sym (ap (λ k. take k ys) e)
take-append (suc n) (x ∷ xs) ys =
    let e : n - length xs ≡ suc n - suc (length xs) = omega arith in
    ap (λ (r : List ℕ). x ∷ r) (take-append n xs ys ∙ ap (λ k. take n xs ++ take k ys) e)
