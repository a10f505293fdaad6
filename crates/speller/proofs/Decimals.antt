-- Decimals, with a minus or without, as texts that are numbers.
use Rattle.std.proofs.Common.{◌≡◌, ℕ, ◌<◌, ◌≤◌, Bool, true, false, ◌&&◌, eqb, leb, List, [], ◌∷◌, length, get_or, Some, None, decimal, refl, ap, ◌∙◌, ⊎_elim, arith, rules}
use Rattle.std.proofs.lemmas.Fmt.{decimal_digit, first_decimal, digits_decimal, digits_value-decimal, length-decimal-le}
use Rattle.std.proofs.lemmas.Str.Parse.{IsNumeralModel, numerals_by_fold}
use Rattle.std.proofs.lemmas.Bool.{and_parts, and_from, le-leb, cases_lt, cond-true, cond-false}
use Rattle.std.proofs.lemmas.Bool.Decides.{nat_tests}
use Rattle.numeral.specs.Digits.{are_digits, value_from, whole_digits, whole_within}
use Rattle.numeral.specs.Numerals.{minus, body, before_point, after_point, is_fraction, is_numeral, whole_of}
use Rattle.speller.specs.Whole.{numeral_of}

-- texts of digits only
no_minus : (t : List ℕ) → are_digits t ≡ true → minus t ≡ false
no_minus [] h = refl
no_minus (c ∷ cs) h = grind (arith, nat_tests)

no_point : (t : List ℕ) → are_digits t ≡ true → (before_point t ≡ t) × (after_point t ≡ None)
no_point [] h = (refl, refl)
no_point (c ∷ cs) h =
    let r = no_point cs (and_parts (leb 48 c && leb c 57) (are_digits cs) h).1 in
    let e : eqb c 46 ≡ false = grind (arith, nat_tests) in
    (cond-false (eqb c 46) _ _ e ∙ ap (λ t. c ∷ t) r.0, cond-false (eqb c 46) _ _ e ∙ r.1)

positive : (t : List ℕ) → are_digits t ≡ true → 48 < get_or t 0 0 → whole_digits t ≡ true
positive [] h g = absurd (omega arith)
positive (c ∷ cs) h g = grind (arith, nat_tests)

own : IsNumeralModel (λ ds. are_digits ds ≡ true) (value_from 0)
own = numerals_by_fold _ (search rules) value_from (search rules)

module _ (n : ℕ) (small : n ≤ 9007199254740991) where
  digits : are_digits (decimal n) ≡ true
  digits = digits_decimal own n (omega arith)

  stands : value_from 0 (decimal n) ≡ n
  stands = digits_value-decimal own n (omega arith)

  pub decimal_short : length (decimal n) ≤ 16
  decimal_short = length-decimal-le 16 n (omega arith) (omega arith) (omega arith)

  whole_digits_lem : whole_digits (decimal n) ≡ true
  whole_digits_lem =
      ⊎_elim
      (λ (h : 0 < n). positive (decimal n) digits (first_decimal n h (omega arith)))
      (λ (h : n ≤ 0). let e : n ≡ 0 = omega arith in ap (λ k. whole_digits (decimal k)) e ∙ ap whole_digits (decimal_digit 0 (omega arith)))
      (cases_lt 0 n)

  pub minus_is : (negative : Bool) → minus (numeral_of negative n) ≡ negative
  minus_is true = refl
  minus_is false = no_minus (decimal n) digits

  pub body_is : (negative : Bool) → body (numeral_of negative n) ≡ decimal n
  body_is true = refl
  body_is false = cond-false (minus (decimal n)) _ _ (minus_is false)

  pub numeral_short : (negative : Bool) → length (numeral_of negative n) ≤ 17
  numeral_short true = omega (arith, decimal_short)
  numeral_short false = omega (arith, decimal_short)

  pub numeral_is : (negative : Bool) → is_numeral (numeral_of negative n) ≡ true
  numeral_is negative =
      ap (λ t. whole_digits (before_point t) && is_fraction (after_point t)) (body_is negative)
      ∙ and_from _ _ (ap whole_digits (no_point (decimal n) digits).0 ∙ whole_digits_lem) (ap is_fraction (no_point (decimal n) digits).1)

  pub whole_is : (negative : Bool) → whole_of (numeral_of negative n) ≡ Some n
  whole_is negative =
      ap (whole_within 9007199254740991) (body_is negative)
      ∙ cond-true (whole_digits (decimal n)) _ _ whole_digits_lem
      ∙ cond-true _ _ _ (and_from _ _ digits (le-leb (value_from 0 (decimal n)) 9007199254740991 (omega (arith, stands))))
      ∙ ap Some stands
