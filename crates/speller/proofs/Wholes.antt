-- The numerals of the whole numbers are theirs alone, and lawful.
use Rattle.std.proofs.Common.{◌≡◌, ℕ, ◌-◌, ◌≤◌, Bool, true, false, cond, ◌&&◌, eqb, leb, List, Some, None, Option, sym, refl, ap, ◌∙◌, subst, arith}
use lib.Ieee.{to_unsigned, of_bits, binary64}
use Rattle.std.proofs.lemmas.Bool.{and_from, le-leb, lt-leb, leb-true, eqb-true, eq-eqb, ne_eqb, cond-true, not_from_false}
use Rattle.numeral.proofs.Laws.{pair_whole}
use Rattle.numeral.specs.Numerals.{whole_of, whole_bits, finite, signed, same, is_double, is_pair}
use Rattle.speller.specs.Spelling.{Distinct, Shaped}
use Rattle.speller.specs.Whole.{numeral_of, plain, cut, size_of, spelled, whole, Wholes}
use Rattle.speller.proofs.Floats.{bits_of, bits_below, cut_back}
use Rattle.speller.proofs.Decimals.{minus_is, numeral_short, numeral_is, whole_is}

-- the bits of a whole number
module _ (n : ℕ) (small : n ≤ 9007199254740991) where
  pub signed_is : (negative : Bool) → signed (whole_bits negative n) ≡ negative
  signed_is true = le-leb _ _ (omega arith)
  signed_is false = lt-leb _ _ (omega (arith, bits_below n small))

  finite_is : (negative : Bool) → finite (whole_bits negative n) ≡ true
  finite_is true = not_from_false _ (ne_eqb _ 2047 (λ e. omega (arith, bits_below n small)))
  finite_is false = not_from_false _ (ne_eqb _ 2047 (λ e. omega (arith, bits_below n small)))

  plain_is : (negative : Bool) → plain (whole_bits negative n) ≡ bits_of n
  plain_is negative = ap (λ s. cond s (whole_bits negative n - 9223372036854775808) (whole_bits negative n)) (signed_is negative) ∙ without negative
    where
      without : (s : Bool) → cond s (whole_bits s n - 9223372036854775808) (whole_bits s n) ≡ bits_of n
      without true = omega arith
      without false = omega arith

  cut_is : (negative : Bool) → cut (whole_bits negative n) ≡ n
  cut_is negative = ap (λ b. to_unsigned 64 (of_bits binary64 b)) (plain_is negative) ∙ cut_back n small

  size_is : (negative : Bool) → size_of (whole_bits negative n) ≡ Some n
  size_is negative =
      (λ i. cond (leb (cut_is negative i) 9007199254740991 && eqb (whole_bits negative n) (whole_bits (signed_is negative i) (cut_is negative i))) (Some (cut_is negative i)) None)
      ∙ cond-true _ _ _ (and_from _ _ (le-leb n 9007199254740991 small) (eq-eqb (whole_bits negative n) (whole_bits negative n) refl))

  spelled_is : (negative : Bool) → whole (whole_bits negative n) ≡ Some (numeral_of negative n)
  spelled_is negative = (λ i. spelled (signed_is negative i) (size_is negative i))

  pair_is : (negative : Bool) → is_pair (whole_bits negative n) (numeral_of negative n) ≡ true
  pair_is negative =
      and_from _ _ (finite_is negative)
      (and_from _ _ (le-leb _ 400 (omega (arith, numeral_short n small negative)))
      (and_from _ _ (numeral_is n small negative)
      (and_from _ _ ((λ i. same (minus_is n small negative i) (signed_is negative i)) ∙ same_itself negative)
      ((λ i. is_double (minus_is n small negative i) (whole_is n small negative i) (whole_bits negative n)) ∙ eq-eqb (whole_bits negative n) (whole_bits negative n) refl))))
    where
      same_itself : (s : Bool) → same s s ≡ true
      same_itself true = refl
      same_itself false = refl

-- what has a numeral is such bits
spelled_from : (negative : Bool) (o : Option ℕ) (t : List ℕ) → spelled negative o ≡ Some t → (n : ℕ) × (o ≡ Some n) × (t ≡ numeral_of negative n)
spelled_from negative None t h = absurd (let z : ◌≡◌ {A = ℕ} 0 1 = cc in omega arith)
spelled_from negative (Some n) t h = (n, refl, cc)

passed : (x y : Bool) (c n : ℕ) → cond (x && y) (Some c) None ≡ Some n → (x ≡ true) × (y ≡ true) × (c ≡ n)
passed true true c n h = (refl, refl, cc)
passed true false c n h = absurd (let z : ◌≡◌ {A = ℕ} 0 1 = cc in omega arith)
passed false y c n h = absurd (let z : ◌≡◌ {A = ℕ} 0 1 = cc in omega arith)

size_from : (bits n : ℕ) → size_of bits ≡ Some n → (n ≤ 9007199254740991) × (bits ≡ whole_bits (signed bits) n)
size_from bits n h =
    let p = passed (leb (cut bits) 9007199254740991) (eqb bits (whole_bits (signed bits) (cut bits))) (cut bits) n h in
    (subst (λ k. k ≤ 9007199254740991) p.2 (leb-true _ _ p.0), eqb-true _ _ p.1 ∙ ap (whole_bits (signed bits)) p.2)

found : (bits : ℕ) (t : List ℕ) → whole bits ≡ Some t → (n : ℕ) × (n ≤ 9007199254740991) × (bits ≡ whole_bits (signed bits) n) × (t ≡ numeral_of (signed bits) n)
found bits t h =
    let s = spelled_from (signed bits) (size_of bits) t h in
    let f = size_from bits s.0 s.1 in
    (s.0, f.0, f.1, s.2)

pub wholes : Wholes whole
wholes = record { all = λ negative n h. spelled_is n h negative; only = λ bits t h. let f = found bits t h in (signed bits, f.0, f.1, f.2, f.3) }

pub shaped : Shaped whole
shaped bits t h = let f = found bits t h in (λ i. is_pair (f.2 i) (f.3 i)) ∙ pair_is f.0 f.1 (signed bits)

-- a lawful pair whose text is a whole number is told by the text
pub distinct : Distinct whole
distinct a b t h g =
    let f = found a t h in
    let w : whole_of t ≡ Some f.0 = ap whole_of f.3 ∙ whole_is f.0 f.1 (signed a) in
    pair_whole a t (shaped a t h) f.0 w ∙ sym (pair_whole b t (shaped b t g) f.0 w)
