-- The double of a whole number by its bits, below zero too; all NaN are one.
use Rattle.std.proofs.Common.{◌≡◌, ℕ, zero, suc, ◌+◌, ◌-◌, ◌*◌, ◌/◌, ◌%◌, ◌^◌, Bool, true, false, cond, not, ◌&&◌, eqb, ltb, ℤ, pos, negsuc, sym, refl, ap, ◌∙◌, ⊎_elim, arith}
use Prim.Native.Nat.{compare}
use lib.Ieee as Ieee
use lib.Ieee.{Float, nan, inf, fin, binary64, prec, low, emax, odd, units, round, size, nearest, of_int, of_bits, to_bits, nan_bits, top, hid, ones, up, down}
use lib.Ieee.Bits.{of_bits-to_bits, nan_bits_is}
use lib.Ieee.Fits.{of_int-fits}
use Rattle.std.proofs.lemmas.Bool.{false≢true, and_from, eq-eqb, and_parts, or_cases, eqb-true}
use Rattle.numeral.specs.Numerals.{finite}
use Rattle.evaluator.specs.Isomorphic.{is_nan, same_value, whole_double}

-- the sign is the highest bit

odd_minus : (d q k l : ℕ) → to_bits binary64 (odd d true q k l) ≡ to_bits binary64 (odd d false q k l) + 9223372036854775808
unfolding odd to_bits
odd_minus d zero k l = omega arith
odd_minus d (suc q) k l = omega arith

units_minus : (q k : ℕ) → to_bits binary64 (units binary64 true q k) ≡ to_bits binary64 (units binary64 false q k) + 9223372036854775808
unfolding units to_bits
units_minus q k = go (ltb (q * 2 ^ k) (2 ^ (low binary64 + suc (emax binary64))))
  where
    go : (b : Bool) → to_bits binary64 (cond b (odd (suc (prec binary64)) true q k (low binary64)) (inf true)) ≡ to_bits binary64 (cond b (odd (suc (prec binary64)) false q k (low binary64)) (inf false)) + 9223372036854775808
    go true = odd_minus (suc (prec binary64)) q k (low binary64)
    go false = omega arith

round_minus : (num den : ℕ) → to_bits binary64 (round binary64 true num den) ≡ to_bits binary64 (round binary64 false num den) + 9223372036854775808
unfolding round
round_minus num den =
    let n = num * 2 ^ low binary64 in
    let k = size (n / den) - prec binary64 in
    let u = den * 2 ^ k in
    units_minus (nearest (n / u) (compare (n % u * 2) u)) k

int_minus : (n : ℕ) → to_bits binary64 (of_int binary64 (negsuc n)) ≡ to_bits binary64 (of_int binary64 (pos (suc n))) + 9223372036854775808
unfolding of_int
int_minus n = round_minus (suc n) 1

pub whole_bits_lem : (z : ℤ) → to_bits binary64 (of_int binary64 z) ≡ whole_double z
whole_bits_lem (pos n) = omega arith
whole_bits_lem (negsuc n) = int_minus n

-- the bits of a whole number are those of its double
pub whole_double_lem : (z : ℤ) → of_bits binary64 (whole_double z) ≡ of_int binary64 z
whole_double_lem z = ap (of_bits binary64) (sym (whole_bits_lem z)) ∙ of_bits-to_bits binary64 (of_int binary64 z) (of_int-fits binary64 z)

nan_only : (x : Float) → Ieee.is_nan x ≡ true → x ≡ nan
unfolding Ieee.is_nan
nan_only nan e = refl
nan_only (inf s) e = absurd (false≢true e)
nan_only (fin s m e) d = absurd (false≢true d)

nan_fields : (b : ℕ) → is_nan b ≡ true → nan_bits binary64 b ≡ true
unfolding nan_bits
nan_fields b e = let p = and_parts (not (finite b)) (not (eqb (b % 2 ^ 52) 0)) e in let q = eqb-true (b / 2 ^ 52 % 2 ^ 11) 2047 (not_not (eqb (b / 2 ^ 52 % 2 ^ 11) 2047) p.0) in and_from _ _ (eq-eqb (b % 9223372036854775808 / 4503599627370496) 2047 (omega arith)) p.1
  where
    not_not : (t : Bool) → not (not t) ≡ true → t ≡ true
    not_not true e = refl
    not_not false e = e

pub nan_double : (b : ℕ) → is_nan b ≡ true → of_bits binary64 b ≡ nan
nan_double b e = nan_only (of_bits binary64 b) (sym (nan_bits_is binary64 b) ∙ nan_fields b e)

-- the same value is the same double
pub same_double_lem : (a b : ℕ) → same_value a b ≡ true → of_bits binary64 a ≡ of_bits binary64 b
same_double_lem a b e =
    ⊎_elim (λ (d : eqb a b ≡ true). ap (of_bits binary64) (eqb-true a b d))
    (λ (d : (is_nan a && is_nan b) ≡ true). let p = and_parts (is_nan a) (is_nan b) d in nan_double a p.0 ∙ sym (nan_double b p.1))
    (or_cases (eqb a b) (is_nan a && is_nan b) e)
