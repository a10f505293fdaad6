-- Looking bits up in a list of numerals.
use Rattle.std.proofs.Common.{◌≡◌, ℕ, zero, suc, ◌+◌, ◌<◌, ◌≤◌, cond, eqb, List, length, get_or, drop, Some, None, Option, refl, sym, ap, ◌∙◌, arith}
use Rattle.std.specs.Option.{MatchOption}
use Rattle.std.proofs.lemmas.List.{drop_more, drop_all}
use Rattle.std.proofs.lemmas.Bool.{eq-eqb, ne_eqb, cond-true, cond-false}
use Rattle.dump.specs.Heaps.{Numeral, empty_numeral}
use Rattle.table.specs.Tables.{numeral_in, Finds}

-- a search from the first numeral on, at place i
module _ (ns : List Numeral) (bits i : ℕ) (left : numeral_in ns bits ≡ numeral_in (drop i ns) bits) where
  module _ (there : i < length ns) where
    here : numeral_in ns bits ≡ cond (eqb (get_or ns i empty_numeral).bits bits) (Some (get_or ns i empty_numeral).digits) (numeral_in (drop (i + 1) ns) bits)
    here = left ∙ ap (λ l. numeral_in l bits) (drop_more ns i empty_numeral there)

    pub found : (get_or ns i empty_numeral).bits ≡ bits → numeral_in ns bits ≡ Some (get_or ns i empty_numeral).digits
    found e = here ∙ cond-true (eqb (get_or ns i empty_numeral).bits bits) _ _ (eq-eqb _ _ e)

    pub passed : ((get_or ns i empty_numeral).bits ≡ bits → ⊥) → numeral_in ns bits ≡ numeral_in (drop (i + 1) ns) bits
    passed e = here ∙ cond-false (eqb (get_or ns i empty_numeral).bits bits) _ _ (ne_eqb _ _ e)

  pub nowhere : length ns ≤ i → numeral_in ns bits ≡ None
  nowhere end = left ∙ ap (λ l. numeral_in l bits) (drop_all i ns end)

-- no numeral before place i has the bits
pub skipped : (ns : List Numeral) (bits i : ℕ) → i ≤ length ns → ((k : ℕ) → k < i → (get_or ns k empty_numeral).bits ≡ bits → ⊥) → numeral_in ns bits ≡ numeral_in (drop i ns) bits
skipped ns bits zero fits other = refl
skipped ns bits (suc i) fits other =
    let e : suc i ≡ i + 1 = omega arith in
    passed ns bits i (skipped ns bits i (omega arith) (λ k h. other k (omega arith))) (omega arith) (other i (omega arith)) ∙ ap (λ n. numeral_in (drop n ns) bits) (sym e)

-- what a search over all places gives
pub finds : (ns : List Numeral) (bits n : ℕ) (r : Option ℕ) → n ≡ length ns
    → MatchOption r ((k : ℕ) → 0 ≤ k → k < n → (get_or ns k empty_numeral).bits ≡ bits → ⊥) (λ i. (0 ≤ i) × (i < n) × ((get_or ns i empty_numeral).bits ≡ bits) × ((k : ℕ) → 0 ≤ k → k < i → (get_or ns k empty_numeral).bits ≡ bits → ⊥))
    → Finds ns bits r
finds ns bits n None all h = nowhere ns bits n (skipped ns bits n (omega arith) (λ k l. h k (omega arith) l)) (omega arith)
finds ns bits n (Some i) all h =
    let there : i < length ns = omega (arith, h.1) in
    (there, found ns bits i (skipped ns bits i (omega arith) (λ k l. h.3 k (omega arith) l)) there h.2)
