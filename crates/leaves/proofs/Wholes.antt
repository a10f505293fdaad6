-- Whole numbers below 2^53 in size: what the evaluator reads of their doubles.
use Rattle.std.proofs.Common.{◌≡◌, ℕ, zero, suc, ◌-◌, ◌<◌, ◌≤◌, Bool, true, false, cond, ◌&&◌, eqb, leb, ℤ, pos, negsuc, Some, None, decimal, refl, ap, ◌∙◌, arith}
use lib.Ieee.{to_unsigned, of_bits, binary64}
use Rattle.std.proofs.lemmas.Bool.{and_from, le-leb, lt-ltb, eq-eqb}
use Rattle.numeral.specs.Numerals.{whole_bits, finite}
use Rattle.numeral.proofs.Laws.{pair_finite}
use Rattle.formed.specs.Formed.{TimeFits}
use Rattle.speller.specs.Whole.{numeral_of}
use Rattle.speller.proofs.Floats.{bits_of, cut_back}
use Rattle.speller.proofs.Wholes.{signed_is, wholes, shaped}
use Rattle.evaluator.specs.Options.{and_then, when}
use Rattle.evaluator.specs.Makes.{size_bits, cut_to, integer, whole_in, natural, index_in, key_in, within, time_in}
use Rattle.evaluator.specs.Isomorphic.{whole_double}
use Rattle.effects.specs.Effects.{count}

-- a number below zero
pub integer_minus : (n : ℕ) → 0 < n → integer true n ≡ negsuc (n - 1)
integer_minus zero h = absurd (omega arith)
integer_minus (suc n) h = ap negsuc (omega arith)

-- the double that is n, or minus n
module _ (negative : Bool) (n : ℕ) (small : n ≤ 9007199254740991) where
  pub whole_finite : finite (whole_bits negative n) ≡ true
  whole_finite = pair_finite (whole_bits negative n) (numeral_of negative n) (shaped (whole_bits negative n) (numeral_of negative n) (wholes.all negative n small))

  size_bits_lem : size_bits (whole_bits negative n) ≡ bits_of n
  size_bits_lem = ap (λ s. cond s (whole_bits negative n - 9223372036854775808) (whole_bits negative n)) (signed_is n small negative) ∙ without negative
    where
      without : (s : Bool) → cond s (whole_bits s n - 9223372036854775808) (whole_bits s n) ≡ bits_of n
      without true = omega arith
      without false = omega arith

  cut_to_lem : cut_to (whole_bits negative n) ≡ n
  cut_to_lem = ap (λ b. to_unsigned 64 (of_bits binary64 b)) size_bits_lem ∙ cut_back n small

  pub whole_in_lem : whole_in (whole_bits negative n) ≡ Some (integer negative n)
  whole_in_lem =
      (λ i. when (leb (cut_to_lem i) 9007199254740991 && eqb (whole_bits negative n) (whole_bits (signed_is n small negative i) (cut_to_lem i))) (Some (integer (signed_is n small negative i) (cut_to_lem i))))
      ∙ ap (λ b. when b (Some (integer negative n))) (and_from _ _ (le-leb n 9007199254740991 small) (eq-eqb (whole_bits negative n) (whole_bits negative n) refl))

-- an index, and the key that it is
module _ (n : ℕ) (small : n ≤ 9007199254740991) where
  pub index_in_lem : index_in (count n) ≡ Some n
  index_in_lem = ap (λ o. and_then o natural) (whole_in_lem false n small)

  pub key_in_lem : key_in (count n) ≡ Some (decimal n)
  key_in_lem = ap (λ o. and_then o (λ m. Some (decimal m))) index_in_lem

-- a time in range
in_time : (bits : ℕ) (z : ℤ) → finite bits ≡ true → whole_in bits ≡ Some z → within z ≡ true → time_in bits ≡ Some (Some z)
in_time bits z f w t =
    (λ i. cond (f i) (and_then (w i) (λ y. Some (cond (within y) (Some y) None))) (Some None)) ∙ ap (λ b. Some (cond b (Some z) None)) t

pub time_in_lem : (z : ℤ) → TimeFits (Some z) → time_in (whole_double z) ≡ Some (Some z)
time_in_lem (pos n) fits = in_time (whole_bits false n) (pos n) (whole_finite false n (omega arith)) (whole_in_lem false n (omega arith)) (le-leb n 8640000000000000 fits)
time_in_lem (negsuc n) fits =
    in_time (whole_bits true (suc n)) (negsuc n) (whole_finite true (suc n) (omega arith)) (whole_in_lem true (suc n) (omega arith)) (lt-ltb n 8640000000000000 fits)

-- NaN is no time
pub time_nan : time_in 9221120237041090560 ≡ Some None
time_nan = refl
