-- No text of a sound dump occurs twice.
use Rattle.std.proofs.Common.{◌≡◌, ℕ, zero, suc, ◌+◌, ◌-◌, ◌<◌, true, false, eqb, List, sym, subst, ⊎_elim, arith}
use Rattle.std.proofs.lemmas.Bool.{cases_order, ne_eqb}
use Rattle.dump.specs.declared.layout.Layout.{Layout}
use Rattle.dump.specs.Places.{text_of}
use Rattle.numeral.specs.Order.{before}
use Rattle.numeral.proofs.Laws.{before_apart, before_transitive}
use Rattle.formed.specs.Sound.{Sound}

module _ (b : List ℕ) (l : Layout) (s : Sound b l) where
  next : (i : ℕ) → i + 1 < l.texts.count → before (text_of b l i) (text_of b l (i + 1)) ≡ true
  next i h =
      let t = (s.texts (i + 1) h).1.0 in
      let n : eqb (i + 1) 0 ≡ false = ne_eqb (i + 1) 0 (λ e. omega arith) in
      let e : i + 1 - 1 ≡ i = omega arith in
      let u : before (text_of b l (i + 1 - 1)) (text_of b l (i + 1)) ≡ true = rw n at t in
      subst (λ k. before (text_of b l k) (text_of b l (i + 1)) ≡ true) e u

  later : (i d : ℕ) → i + (d + 1) < l.texts.count → before (text_of b l i) (text_of b l (i + (d + 1))) ≡ true
  later i zero h = next i h
  later i (suc d) h =
      let e : i + (d + 1) + 1 ≡ i + (suc d + 1) = omega arith in
      let n = next (i + (d + 1)) (omega arith) in
      subst (λ k. before (text_of b l i) (text_of b l k) ≡ true) e
      (before_transitive (text_of b l i) (text_of b l (i + (d + 1))) (text_of b l (i + (d + 1) + 1)) (later i d (omega arith)) n)

  below_apart : (i j : ℕ) → i < j → j < l.texts.count → text_of b l i ≡ text_of b l j → ⊥
  below_apart i j h g e =
      let f : i + ((j - (i + 1)) + 1) ≡ j = omega arith in
      let o = later i (j - (i + 1)) (omega arith) in
      before_apart (text_of b l i) (text_of b l j) (subst (λ k. before (text_of b l i) (text_of b l k) ≡ true) f o) e

  pub same_text : (i j : ℕ) → i < l.texts.count → j < l.texts.count → text_of b l i ≡ text_of b l j → i ≡ j
  same_text i j h g e =
      ⊎_elim (λ (p : i ≡ j). p)
      (λ q. ⊎_elim (λ (p : i < j). absurd (below_apart i j p g e)) (λ (p : j < i). absurd (below_apart j i p h (sym e))) q)
      (cases_order i j)
