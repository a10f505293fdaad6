-- The definitions at some texts.
use Rattle.std.proofs.Common.{◌≡◌, true, false, Some, None, codes, refl}
use lib.Ieee.{to_bits, of_int}
use Rattle.numeral.specs.Digits.{index_of}
use Rattle.numeral.specs.Numerals.{is_numeral, is_big_int, whole_of, whole_bits, is_pair}

last_index : index_of (codes "4294967294") ≡ Some 4294967294
last_index = refl

past_index : index_of (codes "4294967295") ≡ None
past_index = refl

zero_before : index_of (codes "07") ≡ None
zero_before = refl

minus_zero_lem : is_big_int (codes "-0") ≡ false
minus_zero_lem = refl

with_point : is_numeral (codes "-1.5") ≡ true
with_point = refl

no_fraction : is_numeral (codes "1.") ≡ false
no_fraction = refl

last_whole : whole_of (codes "-9007199254740991") ≡ Some 9007199254740991
last_whole = refl

past_whole : whole_of (codes "9007199254740992") ≡ None
past_whole = refl

two : whole_bits false 2 ≡ 0x4000_0000_0000_0000
unfolding to_bits of_int
two = refl

minus_zero_double : whole_bits true 0 ≡ 0x8000_0000_0000_0000
unfolding to_bits of_int
minus_zero_double = refl

half : is_pair 0x3fe0_0000_0000_0000 (codes "0.5") ≡ true
half = refl

infinite : is_pair 0x7ff0_0000_0000_0000 (codes "0.5") ≡ false
infinite = refl
