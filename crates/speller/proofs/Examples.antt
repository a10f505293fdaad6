-- The numerals of some doubles.
use Rattle.std.proofs.Common.{◌≡◌, Some, None, codes, refl}
use lib.Ieee.{to_bits, of_bits, of_int, to_unsigned}
use Rattle.std.specs.Fmt.{digits}
use Rattle.speller.specs.Whole.{whole}

zero : whole 0 ≡ Some (codes "0")
unfolding to_bits of_bits of_int to_unsigned digits
zero = refl

minus_zero_lem : whole 0x8000_0000_0000_0000 ≡ Some (codes "-0")
unfolding to_bits of_bits of_int to_unsigned digits
minus_zero_lem = refl

last : whole 0xc33f_ffff_ffff_ffff ≡ Some (codes "-9007199254740991")
unfolding to_bits of_bits of_int to_unsigned digits
last = refl

past : whole 0x4340_0000_0000_0000 ≡ None
unfolding to_bits of_bits of_int to_unsigned digits
past = refl

half : whole 0x3fe0_0000_0000_0000 ≡ None
unfolding to_bits of_bits of_int to_unsigned digits
half = refl

infinite : whole 0x7ff0_0000_0000_0000 ≡ None
unfolding to_bits of_bits of_int to_unsigned digits
infinite = refl

not_a_number : whole 0x7ff8_0000_0000_0000 ≡ None
unfolding to_bits of_bits of_int to_unsigned digits
not_a_number = refl
