-- The test of a double for being a whole number, as the code makes it.
use Rattle.std.proofs.Common.{◌≡◌, ℕ, ◌+◌, ◌-◌, ◌<◌, ◌≤◌, cond, ◌&&◌, eqb, leb, Some, None, sym, ap, ◌∙◌, arith}
use lib.Ieee.{Float, eq, of_bits, to_unsigned, binary64}
use Rattle.std.proofs.lemmas.Bool.{le-leb, lt-leb}
use Rattle.std.proofs.lemmas.Bool.Decides.{nat_tests}
use Rattle.numeral.specs.Numerals.{signed, whole_bits}
use Rattle.speller.specs.Whole.{plain, cut, size_of}
use Rattle.speller.proofs.Floats.{double, bits_of, equal_bits}

-- bits are compared with the sign's or without
without_sign : (bits w : ℕ) → eqb bits (w + cond (leb 9223372036854775808 bits) 9223372036854775808 0) ≡ eqb (cond (leb 9223372036854775808 bits) (bits - 9223372036854775808) bits) w
without_sign bits w = grind (arith, nat_tests)

-- x is the double without its sign, and n its whole part
module _ (bits b n : ℕ) (x : Float) (p : b ≡ plain bits) (q : x ≡ of_bits binary64 b) (r : n ≡ to_unsigned 64 x) where
  cut_is : cut bits ≡ n
  cut_is = cc

  at_cut : size_of bits ≡ cond (leb n 9007199254740991 && eqb bits (whole_bits (signed bits) n)) (Some n) None
  at_cut = (λ i. cond (leb (cut_is i) 9007199254740991 && eqb bits (whole_bits (signed bits) (cut_is i))) (Some (cut_is i)) None)

  pub size_none : 9007199254740991 < n → None ≡ size_of bits
  size_none h = sym (at_cut ∙ ap (λ t. cond (t && eqb bits (whole_bits (signed bits) n)) (Some n) None) (lt-leb n 9007199254740991 h))

  pub size_test : n ≤ 9007199254740991 → b < 9223372036854775808 → cond (eq (double n) x) (Some n) None ≡ size_of bits
  size_test h g =
      let e : eq (double n) x ≡ eqb b (bits_of n) = ap (eq (double n)) q ∙ equal_bits n h b g in
      sym (at_cut
      ∙ ap (λ t. cond (t && eqb bits (whole_bits (signed bits) n)) (Some n) None) (le-leb n 9007199254740991 h)
      ∙ ap (λ t. cond t (Some n) None) (without_sign bits (bits_of n) ∙ ap (λ z. eqb z (bits_of n)) (sym p) ∙ sym e))
