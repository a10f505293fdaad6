-- The doubles that are whole numbers below 2^53, and their bits.
use Rattle.std.proofs.Common.{◌≡◌, ℕ, zero, suc, ◌+◌, ◌-◌, ◌*◌, ◌/◌, ◌%◌, ◌^◌, ◌<◌, ◌≤◌, Bool, true, false, cond, not, T, eqb, pos, sym, refl, ap, ◌∙◌, subst, mul-one, mul_right_comm, mul-div_cancel, arith, lit≤, le→leb, shl_lt}
use native.Mathlib.Nat.{eq_of_mul-eq-mul_right}
use lib.Ieee.{Float, nan, inf, fin, binary64, up, down, size, odd, eq, of_int, to_unsigned, is_nan, in_float, ones, hid, top, of_fields, of_bits, to_bits}
use lib.Ieee.Back.{round_whole, unsigned_back, whole_unique}
use lib.Ieee.Bits.{of_bits-to_bits, of_bits-fits, to_bits-of_bits}
use lib.Ieee.Digits.{size-le}
use lib.Ieee.Exact.{HasValue}
use lib.Ieee.Fits.{down_pos, kept-lt, of_int-fits}
use Rattle.std.proofs.lemmas.Bool.{true≢false, false≢true, and_from, and_parts, eqb-true, eq-eqb, lt-leb}
use Rattle.std.proofs.lemmas.Bool.Decides.{same_from_decides, Decides-eqb}

-- the double that is n
abbrev pub double : ℕ → Float
double n = of_int binary64 (pos n)

-- its bits
abbrev pub bits_of : ℕ → ℕ
bits_of n = to_bits binary64 (double n)

double_value : (n : ℕ) → n ≤ 9007199254740991 → HasValue (double n) false n 1
unfolding of_int
double_value n h = round_whole binary64 false n (omega arith)

-- the double has no minus, nor has NaN
abbrev Plain : Float → Type 0
Plain nan = Unit {0}
Plain (inf s) = s ≡ false
Plain (fin s m e) = s ≡ false

odd_plain : (d q k l : ℕ) → Plain (odd d false q k l)
unfolding odd
odd_plain d zero k l = refl
odd_plain d (suc q) k l = refl

fields_plain : (x t : ℕ) → Plain (of_fields binary64 false x t)
unfolding of_fields
fields_plain zero t = odd_plain 53 t 0 1074
fields_plain (suc x) t =
    elim (eqb (suc x) (ones binary64)) as (λ p. Plain (cond p (cond (eqb t 0) (inf false) nan) (odd 53 false (hid binary64 + t) x 1074)))
    [ true ↦ elim (eqb t 0) as (λ p. Plain (cond p (inf false) nan)) [ true ↦ refl | false ↦ tt ] | false ↦ odd_plain 53 (hid binary64 + t) x 1074 ]

bits_plain : (b : ℕ) → b < 9223372036854775808 → Plain (of_bits binary64 b)
unfolding of_bits
bits_plain b h =
    subst (λ (s : Bool). Plain (of_fields binary64 s (b % top binary64 / hid binary64) (b % hid binary64))) (sym (lt-leb (top binary64) b h))
    (fields_plain (b % top binary64 / hid binary64) (b % hid binary64))

-- what equals a double that is n is n
equal_value : (y x : Float) (n : ℕ) → HasValue y false n 1 → Plain x → eq y x ≡ true → HasValue x false n 1
unfolding eq
equal_value (fin s m e) (fin t k d) n v p h =
    let a : m * up e * down d ≡ k * up d * down e = eqb-true (m * up e * down d) (k * up d * down e) (and_parts (eqb (m * up e * down d) (k * up d * down e)) _ h).0 in
    let c : m * up e ≡ n * down e = sym (mul-one (m * up e)) ∙ v.1 in
    let f : k * up d * down e ≡ n * down d * down e = sym a ∙ ap (λ (z : ℕ). z * down d) c ∙ mul_right_comm n (down e) (down d) in
    (p, mul-one (k * up d) ∙ eq_of_mul-eq-mul_right (down e) (down_pos e) (k * up d) (n * down d) f)
equal_value (fin s m e) nan n v p h = absurd (false≢true h)
equal_value (fin s m e) (inf t) n v p h = absurd (false≢true h)
equal_value nan x n v p h = absurd v
equal_value (inf s) x n v p h = absurd v

-- a double that equals itself
equals_itself : (y : Float) (n : ℕ) → HasValue y false n 1 → eq y y ≡ true
unfolding eq
equals_itself (fin true m e) n v = absurd (true≢false v.0)
equals_itself (fin false m e) n v = and_from _ true (eq-eqb (m * up e * down e) (m * up e * down e) refl) refl
equals_itself nan n v = absurd v
equals_itself (inf s) n v = absurd v

not_nan : (y : Float) (n : ℕ) → HasValue y false n 1 → T (not (is_nan y))
unfolding is_nan
not_nan (fin s m e) n v = tt
not_nan nan n v = absurd v
not_nan (inf s) n v = absurd v

module _ (n : ℕ) (small : n ≤ 9007199254740991) where
  pub read_back : of_bits binary64 (bits_of n) ≡ double n
  read_back = of_bits-to_bits binary64 (double n) (of_int-fits binary64 (pos n))

  pub cut_back : to_unsigned 64 (of_bits binary64 (bits_of n)) ≡ n
  unfolding in_float
  cut_back = ap (to_unsigned 64) read_back ∙ (unsigned_back binary64 64 n (le→leb n (2 ^ 53) (omega arith)) (omega arith)).1

  -- two doubles without a minus are compared by their bits
  pub equal_bits : (b : ℕ) → b < 9223372036854775808 → eq (double n) (of_bits binary64 b) ≡ eqb b (bits_of n)
  equal_bits b h = same_from_decides _ _ (to, from) (Decides-eqb b (bits_of n))
    where
      to : eq (double n) (of_bits binary64 b) ≡ true → b ≡ bits_of n
      to e =
          let v = equal_value (double n) (of_bits binary64 b) n (double_value n small) (bits_plain b h) e in
          let s = whole_unique binary64 (of_bits binary64 b) (double n) false n (of_bits-fits binary64 b) (of_int-fits binary64 (pos n)) v (double_value n small) in
          sym (to_bits-of_bits binary64 b (omega arith) (not_nan (of_bits binary64 b) n v)) ∙ ap (to_bits binary64) s

      from : b ≡ bits_of n → eq (double n) (of_bits binary64 b) ≡ true
      from e = ap (λ z. eq (double n) (of_bits binary64 z)) e ∙ ap (eq (double n)) read_back ∙ equals_itself (double n) n (double_value n small)

-- the exponent stays far below that of an infinity
field_below : (w j : ℕ) → w < 2 ^ (53 + j) → j ≤ 1074 → 0 + (size w - 53) * 4503599627370496 + w / 2 ^ (size w - 53) < 9218868437227405312
field_below w j h g = omega (arith, size-le w (53 + j) h, kept-lt 53 w)

scaled : (a b n p : ℕ) → 0 < b → a * 1 ≡ n * b → a * p / b ≡ n * p
scaled a b n p h e = ap (λ z. z * p / b) (sym (mul-one a) ∙ e) ∙ ap (λ z. z / b) (mul_right_comm n b p) ∙ mul-div_cancel (n * p) h

value_below : (y : Float) (n : ℕ) → n ≤ 9007199254740991 → HasValue y false n 1 → to_bits binary64 y < 9218868437227405312
unfolding to_bits
value_below (fin true m e) n h v = absurd (true≢false v.0)
value_below (fin false m e) n h v =
    field_below (m * up e * 2 ^ 1074 / down e) 1074
    (subst (λ z. z < 2 ^ (53 + 1074)) (sym (scaled (m * up e) (down e) n (2 ^ 1074) (down_pos e) v.1)) (shl_lt 53 1074 (omega arith)))
    (lit≤ tt)
value_below nan n h v = absurd v
value_below (inf s) n h v = absurd v

pub bits_below : (n : ℕ) → n ≤ 9007199254740991 → bits_of n < 9218868437227405312
bits_below n h = value_below (double n) n h (double_value n h)
