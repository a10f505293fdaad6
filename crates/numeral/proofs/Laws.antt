-- What follows from the definitions for the texts that pass.
use Rattle.std.proofs.Common.{◌≡◌, ℕ, ◌<◌, ◌≤◌, Bool, true, false, cond, ◌&&◌, eqb, ltb, leb, ◌⊎◌, List, [], ◌∷◌, length, Some, Decides, sym, refl, ap, ◌∙◌, inl, inr, ⊎_elim, arith, rules}
use Rattle.std.specs.List.{AllByRecursion as All}
use Rattle.std.proofs.ByRecursion.{All-weaker}
use Rattle.std.proofs.lemmas.Slice.Eq.{compares_Decides}
use Rattle.std.proofs.lemmas.Bool.{not-true, and_parts, or_cases, or_left, or_right, eqb-true, leb-true}
use Rattle.std.proofs.lemmas.Bool.Decides.{nat_tests}
use Rattle.numeral.specs.Words.{same_units}
use Rattle.numeral.specs.Order.{before}
use Rattle.numeral.specs.Digits.{are_digits, is_zero, positive_digits, whole_digits}
use Rattle.numeral.specs.Numerals.{minus, body, before_point, after_point, is_fraction, is_numeral, is_big_int, whole_of, whole_bits, finite, signed, same, is_double, is_pair}

pub same_units_lem : (xs ys : List ℕ) → Decides (same_units xs ys) (xs ≡ ys)
same_units_lem = compares_Decides same_units (search rules)

-- the order of texts
pub before_irreflexive : (xs : List ℕ) → before xs xs ≡ false
before_irreflexive [] = refl
before_irreflexive (x ∷ xs) = let h = before_irreflexive xs in grind (arith, nat_tests)

pub before_apart : (xs ys : List ℕ) → before xs ys ≡ true → xs ≡ ys → ⊥
before_apart xs ys h e =
    let z : ◌≡◌ {A = Bool} true false = sym h ∙ ap (before xs) (sym e) ∙ before_irreflexive xs in
    let n : ◌≡◌ {A = ℕ} 0 1 = cc in omega arith

pub before_transitive : (xs ys zs : List ℕ) → before xs ys ≡ true → before ys zs ≡ true → before xs zs ≡ true
before_transitive [] [] zs h g = g
before_transitive [] (y ∷ ys) [] h g = g
before_transitive [] (y ∷ ys) (z ∷ zs) h g = refl
before_transitive (x ∷ xs) [] zs h g = absurd (let n : ◌≡◌ {A = ℕ} 0 1 = cc in omega arith)
before_transitive (x ∷ xs) (y ∷ ys) [] h g = g
before_transitive (x ∷ xs) (y ∷ ys) (z ∷ zs) h g = let t = before_transitive xs ys zs in grind (arith, nat_tests)

five_parts : (v w x y z : Bool) → (v && (w && (x && (y && z)))) ≡ true → (v ≡ true) × (w ≡ true) × (x ≡ true) × (y ≡ true) × (z ≡ true)
five_parts v w x y z h = (grind arith, grind arith, grind arith, grind arith, grind arith)

-- the parts of a pair, for the crates above
module _ (bits : ℕ) (t : List ℕ) (h : is_pair bits t ≡ true) where
  parts : (finite bits ≡ true) × (leb (length t) 400 ≡ true) × (is_numeral t ≡ true) × (same (minus t) (signed bits) ≡ true) × (is_double (minus t) (whole_of t) bits ≡ true)
  parts = five_parts (finite bits) (leb (length t) 400) (is_numeral t) (same (minus t) (signed bits)) (is_double (minus t) (whole_of t) bits) h

  pub pair_finite : finite bits ≡ true
  pair_finite = parts.0

  pub pair_short : length t ≤ 400
  pair_short = leb-true (length t) 400 parts.1

  pub pair_numeral : is_numeral t ≡ true
  pair_numeral = parts.2

  pub pair_sign : minus t ≡ signed bits
  pair_sign = are_same (minus t) (signed bits) parts.3
    where
      are_same : (x y : Bool) → same x y ≡ true → x ≡ y
      are_same true y e = sym e
      are_same false y e = sym (not-true y e)

  pub pair_whole : (n : ℕ) → whole_of t ≡ Some n → bits ≡ whole_bits (minus t) n
  pair_whole n e = eqb-true bits (whole_bits (minus t) n) (sym (ap (λ o. is_double (minus t) o bits) e) ∙ parts.4)

-- a minus, a point or a digit
abbrev pub NumeralUnit : ℕ → Type 0
NumeralUnit c = (c ≡ 45) ⊎ ((c ≡ 46) ⊎ ((48 ≤ c) × (c ≤ 57)))

digit_units : (t : List ℕ) → are_digits t ≡ true → All NumeralUnit t
digit_units [] h = tt
digit_units (c ∷ cs) h =
    let p = and_parts (leb 48 c && leb c 57) (are_digits cs) h in
    let q = and_parts (leb 48 c) (leb c 57) p.0 in
    (inr (inr (leb-true 48 c q.0, leb-true c 57 q.1)), digit_units cs p.1)

pub whole_digits_lem : (t : List ℕ) → whole_digits t ≡ true → are_digits t ≡ true
whole_digits_lem [] h = refl
whole_digits_lem (c ∷ []) h = grind (arith, nat_tests)
whole_digits_lem (c ∷ d ∷ ds) h = grind (arith, nat_tests)

-- a point, if there is one, and digits behind it
point_units : (t : List ℕ) → All NumeralUnit (before_point t) → is_fraction (after_point t) ≡ true → All NumeralUnit t
point_units [] h g = tt
point_units (c ∷ cs) h g =
    elim (eqb c 46) as (λ x. eqb c 46 ≡ x → All NumeralUnit (cond x [] (c ∷ before_point cs)) → is_fraction (cond x (Some cs) (after_point cs)) ≡ true → All NumeralUnit (c ∷ cs))
    [ true ↦ λ e _ g. (inr (inl (eqb-true c 46 e)), digit_units cs (and_parts (ltb 0 (length cs)) (are_digits cs) g).1) | false ↦ λ _ h g. (h.0, point_units cs h.1 g) ]
    refl h g

-- a minus, if there is one
body_units : (t : List ℕ) → All NumeralUnit (body t) → All NumeralUnit t
body_units [] h = tt
body_units (c ∷ cs) h =
    elim (eqb c 45) as (λ x. eqb c 45 ≡ x → All NumeralUnit (cond x cs (c ∷ cs)) → All NumeralUnit (c ∷ cs))
    [ true ↦ λ e h. (inl (eqb-true c 45 e), h) | false ↦ λ _ h. h ]
    refl h

pub numeral_units : (t : List ℕ) → is_numeral t ≡ true → All NumeralUnit t
numeral_units t h =
    let p = and_parts (whole_digits (before_point (body t))) (is_fraction (after_point (body t))) h in
    body_units t (point_units (body t) (digit_units (before_point (body t)) (whole_digits_lem (before_point (body t)) p.0)) p.1)

pub bigint_units : (t : List ℕ) → is_big_int t ≡ true → All NumeralUnit t
bigint_units t h =
    ⊎_elim
    (λ (e : is_zero t ≡ true). digit_units t (whole_digits_lem t (or_left (is_zero t) (positive_digits t) e)))
    (λ (e : positive_digits (body t) ≡ true). body_units t (digit_units (body t) (whole_digits_lem (body t) (or_right (is_zero (body t)) (positive_digits (body t)) e))))
    (or_cases (is_zero t) (positive_digits (body t)) h)

pub ascii_units : (t : List ℕ) → All NumeralUnit t → All (λ c. c < 128) t
ascii_units = All-weaker NumeralUnit (λ c. c < 128) (λ c h. omega (arith, h))
