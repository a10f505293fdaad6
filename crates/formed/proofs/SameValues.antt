-- SameValueZero on values is symmetric, and on those of a sound dump it is the test that check makes.
use Rattle.std.proofs.Common.{◌≡◌, ℕ, ◌+◌, ◌*◌, ◌<◌, ◌≤◌, Bool, true, false, cond, ◌&&◌, ◌||◌, eqb, leb, List, Some, None, sym, refl, ap, ◌∙◌, subst, inl, inr, arith}
use mathlib.Core.Bool.{beq}
use lib.Ieee as Ieee
use lib.Ieee.{Float, nan, inf, fin, level, up, down}
use Rattle.std.proofs.lemmas.Bool.{and_from, eq-eqb, ltb-true}
use Rattle.std.proofs.lemmas.Bool.Decides.{nat_tests}
use Rattle.dump.specs.declared.layout.Layout.{Layout}
use Rattle.dump.specs.declared.row.Cell.{Cell}
use Rattle.dump.specs.Heaps.{Value, undefined, null, hole, boolean, whole, double, bigint, text, object}
use Rattle.dump.specs.Meaning.{value_of, joined}
use Rattle.dump.specs.Places.{text_of}
use Rattle.shapes.specs.Cells.{is_number, number_of, same_number, same_zero, minus_zero}
use Rattle.formed.specs.Sound.{Sound}
use Rattle.formed.specs.Formed.{number_in, SameValueZero}
use Rattle.formed.proofs.Texts.{same_text}
use Rattle.formed.proofs.Values.{upto9, tag_small, Placed}

level_sym : (s : Bool) (a : ℕ) (t : Bool) (n : ℕ) → level s a t n ≡ level t n s a
level_sym true a true n = grind (arith, nat_tests)
level_sym true a false n = grind (arith, nat_tests)
level_sym false a true n = grind (arith, nat_tests)
level_sym false a false n = grind (arith, nat_tests)

beq_sym : (s t : Bool) → beq s t ≡ beq t s
beq_sym true true = refl
beq_sym true false = refl
beq_sym false true = refl
beq_sym false false = refl

eq_sym : (x y : Float) → Ieee.eq x y ≡ Ieee.eq y x
unfolding Ieee.eq
eq_sym nan nan = refl
eq_sym nan (inf t) = refl
eq_sym nan (fin t n d) = refl
eq_sym (inf s) nan = refl
eq_sym (inf s) (inf t) = beq_sym s t
eq_sym (inf s) (fin t n d) = refl
eq_sym (fin s m e) nan = refl
eq_sym (fin s m e) (inf t) = refl
eq_sym (fin s m e) (fin t n d) = level_sym s (m * up e * down d) t (n * up d * down e)

same_number_sym : (x y : Float) → same_number x y ≡ same_number y x
same_number_sym x y = join (Ieee.eq x y) (Ieee.eq y x) (Ieee.is_nan x) (Ieee.is_nan y) (eq_sym x y)
  where
    join : (a b c d : Bool) → a ≡ b → (a || (c && d)) ≡ (b || (d && c))
    join a b true true h = rw h refl
    join a b true false h = rw h refl
    join a b false true h = rw h refl
    join a b false false h = rw h refl

pub same_value_sym : (v w : Value) → SameValueZero v w → SameValueZero w v
same_value_sym v w (inl s) = inl (s.1, s.0, s.3, s.2, same_number_sym s.1 s.0 ∙ s.4)
same_value_sym v w (inr s) = inr (subst (λ x. number_in x ≡ None) s.1 s.0, sym s.1)

-- the tag of a value, 3 for whole numbers of either
abbrev tag_no : Value → ℕ
tag_no undefined = 0
tag_no null = 1
tag_no hole = 9
tag_no (boolean v) = 2
tag_no (whole z) = 3
tag_no (double bits) = 5
tag_no (bigint t) = 6
tag_no (text t) = 7
tag_no (object o) = 8

own_tag : (a t k : ℕ) → a ≡ t → (t ≡ 4 → ⊥) → k ≡ cond (eqb a 4) 3 a → k ≡ t
own_tag a t k e f h = grind (arith, nat_tests)

back_tag : (a t k : ℕ) → k ≡ t → (t ≡ 3 → ⊥) → k ≡ cond (eqb a 4) 3 a → a ≡ t
back_tag a t k e f h = grind (arith, nat_tests)

both_zero : (x y u w : ℕ) → (eqb x 0 && eqb y 0) ≡ true → (eqb u 0 && eqb w 0) ≡ true → (x ≡ u) × (y ≡ w)
both_zero x y u w h g = (grind (arith, nat_tests), grind (arith, nat_tests))

same_bit : (x y u w : ℕ) → (leb x 1 && eqb y 0) ≡ true → (leb u 1 && eqb w 0) ≡ true → eqb x 1 ≡ eqb u 1 → (x ≡ u) × (y ≡ w)
same_bit x y u w h g e = (grind (arith, nat_tests), grind (arith, nat_tests))

zero_both : (x y : ℕ) → eqb x 0 ≡ true → eqb y 0 ≡ true → x ≡ y
zero_both x y h g = grind (arith, nat_tests)

module _ (b : List ℕ) (l : Layout) where
  tag_no_lem : (v : Cell) → v.tag ≤ 9 → tag_no (value_of b l v) ≡ cond (eqb v.tag 4) 3 v.tag
  tag_no_lem v h =
      upto9 (λ t. v.tag ≡ t → tag_no (value_of b l v) ≡ cond (eqb v.tag 4) 3 v.tag)
      (λ e. rw e refl) (λ e. rw e refl) (λ e. rw e refl) (λ e. rw e refl) (λ e. rw e refl)
      (λ e. rw e refl) (λ e. rw e refl) (λ e. rw e refl) (λ e. rw e refl) (λ e. rw e refl)
      v.tag h refl

  number_in_lem : (v : Cell) (x : Float) → v.tag ≤ 9 → number_in (value_of b l v) ≡ Some x → (is_number v ≡ true) × (number_of v ≡ x)
  number_in_lem v x h =
      upto9 (λ t. v.tag ≡ t → number_in (value_of b l v) ≡ Some x → (is_number v ≡ true) × (number_of v ≡ x))
      (λ e g. none (rw e at g)) (λ e g. none (rw e at g)) (λ e g. none (rw e at g))
      (λ e g. rw e (refl, (let k = rw e at g in cc)))
      (λ e g. rw e (refl, (let k = rw e at g in cc)))
      (λ e g. rw e (refl, (let k = rw e at g in cc)))
      (λ e g. none (rw e at g)) (λ e g. none (rw e at g)) (λ e g. none (rw e at g)) (λ e g. none (rw e at g))
      v.tag h refl
    where
      none : {P : Type 0} → None ≡ Some x → P
      none h = absurd (let z : ◌≡◌ {A = ℕ} 0 1 = cc in omega arith)

  -- the words of two values that are equal and no numbers
  module _ (s : Sound b l) (v w : Cell) (p : Placed b l false v) (q : Placed b l false w) (same : value_of b l v ≡ value_of b l w) where
    tag_is : (t : ℕ) → v.tag ≡ t → (t ≡ 3 → ⊥) → (t ≡ 4 → ⊥) → w.tag ≡ t
    tag_is t e f g =
        let k = own_tag v.tag t (tag_no (value_of b l v)) e g (tag_no_lem v (tag_small false v p.tag)) in
        back_tag w.tag t (tag_no (value_of b l w)) (sym (ap tag_no same) ∙ k) f (tag_no_lem w (tag_small false w q.tag))

    -- with equal words the test holds
    words : (t : ℕ) → v.tag ≡ t → w.tag ≡ t → is_number v ≡ false → v.low ≡ w.low → v.high ≡ w.high → same_zero v w ≡ true
    words t e f n lo hi = rw n (and_from _ _ (eq-eqb v.tag w.tag (e ∙ sym f)) (and_from _ _ (eq-eqb v.low w.low lo) (eq-eqb v.high w.high hi)))

    pub same_words : number_in (value_of b l v) ≡ None → same_zero v w ≡ true
    same_words =
        upto9 (λ t. v.tag ≡ t → number_in (value_of b l v) ≡ None → same_zero v w ≡ true)
        (λ e n. let f = tag_is 0 e (λ i. omega arith) (λ i. omega arith) in
        let z = both_zero v.low v.high w.low w.high (rw e at p.tag) (rw f at q.tag) in
        words 0 e f (rw e refl) z.0 z.1)
        (λ e n. let f = tag_is 1 e (λ i. omega arith) (λ i. omega arith) in
        let z = both_zero v.low v.high w.low w.high (rw e at p.tag) (rw f at q.tag) in
        words 1 e f (rw e refl) z.0 z.1)
        (λ e n. let f = tag_is 2 e (λ i. omega arith) (λ i. omega arith) in
        let k : boolean (eqb v.low 1) ≡ boolean (eqb w.low 1) = rw (e, f) at same in
        let m : eqb v.low 1 ≡ eqb w.low 1 = cc in
        let z = same_bit v.low v.high w.low w.high (rw e at p.tag) (rw f at q.tag) m in
        words 2 e f (rw e refl) z.0 z.1)
        (λ e n. some (rw e at n))
        (λ e n. some (rw e at n))
        (λ e n. some (rw e at n))
        (λ e n. let f = tag_is 6 e (λ i. omega arith) (λ i. omega arith) in
        let k : bigint (text_of b l v.low) ≡ bigint (text_of b l w.low) = rw (e, f) at same in
        let m : text_of b l v.low ≡ text_of b l w.low = cc in
        words 6 e f (rw e refl) (texts_same 6 (ltb-true _ _ (rw e at p.place)) (ltb-true _ _ (rw f at q.place)) m) (high_zero (rw e at p.tag) (rw f at q.tag)))
        (λ e n. let f = tag_is 7 e (λ i. omega arith) (λ i. omega arith) in
        let k : text (text_of b l v.low) ≡ text (text_of b l w.low) = rw (e, f) at same in
        let m : text_of b l v.low ≡ text_of b l w.low = cc in
        words 7 e f (rw e refl) (texts_same 7 (ltb-true _ _ (rw e at p.place)) (ltb-true _ _ (rw f at q.place)) m) (high_zero (rw e at p.tag) (rw f at q.tag)))
        (λ e n. let f = tag_is 8 e (λ i. omega arith) (λ i. omega arith) in
        let k : object v.low ≡ object w.low = rw (e, f) at same in
        words 8 e f (rw e refl) (let m : v.low ≡ w.low = cc in m) (high_zero (rw e at p.tag) (rw f at q.tag)))
        (λ e n. absurd (let z : false ≡ true = rw e at p.tag in let y : ◌≡◌ {A = ℕ} 0 1 = cc in omega arith))
        v.tag (tag_small false v p.tag) refl
      where
        some : {P : Type 0} {x : Float} → Some x ≡ None → P
        some h = absurd (let z : ◌≡◌ {A = ℕ} 0 1 = cc in omega arith)

        texts_same : (t : ℕ) → v.low < l.texts.count → w.low < l.texts.count → text_of b l v.low ≡ text_of b l w.low → v.low ≡ w.low
        texts_same t h g m = same_text b l s v.low w.low h g m

        high_zero : eqb v.high 0 ≡ true → eqb w.high 0 ≡ true → v.high ≡ w.high
        high_zero h g = zero_both v.high w.high h g

  -- the value minus zero has the words of minus zero
  pub is_minus_zero : (v : Cell) → Placed b l false v → value_of b l v ≡ double 9223372036854775808 → minus_zero v ≡ true
  is_minus_zero v p h =
      let t = back_tag v.tag 5 (tag_no (value_of b l v)) (ap tag_no h) (λ i. omega arith) (tag_no_lem v (tag_small false v p.tag)) in
      let k : double (joined v.low v.high) ≡ double 9223372036854775808 = rw t at h in
      let m : joined v.low v.high ≡ 9223372036854775808 = cc in
      words_of v.tag v.low v.high t p.low m
    where
      words_of : (t low high : ℕ) → t ≡ 5 → low < 4294967296 → low + high * 4294967296 ≡ 9223372036854775808 → (eqb t 5 && (eqb low 0 && eqb high 2147483648)) ≡ true
      words_of t low high e f g = and_from _ _ (eq-eqb t 5 e) (and_from _ _ (eq-eqb low 0 (omega arith)) (eq-eqb high 2147483648 (omega arith)))

  -- what SameValueZero joins, the test finds
  pub same_found : Sound b l → (v w : Cell) → Placed b l false v → Placed b l false w → SameValueZero (value_of b l v) (value_of b l w) → same_zero v w ≡ true
  same_found s v w p q (inl m) =
      let x = number_in_lem v m.0 (tag_small false v p.tag) m.2 in
      let y = number_in_lem w m.1 (tag_small false w q.tag) m.3 in
      rw (x.0, y.0, x.1, y.1) m.4
  same_found s v w p q (inr m) = same_words s v w p q m.1 m.0
