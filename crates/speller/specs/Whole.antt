-- The numerals of the whole numbers.
use Rattle.std.specs.Prelude.{◌≡◌, ℕ, ◌-◌, ◌≤◌, Bool, cond, ◌&&◌, List, ◌++◌, Some, None, decimal, Option, ◌==◌, from_bits, nat_le}
use Rattle.std.specs.Float.Ieee.{to_unsigned}
use Rattle.std.specs.Float.{binary64}
use Rattle.std.specs.Fmt.{sign_text}
use Rattle.numeral.specs.Numerals.{signed, whole_bits}

-- a minus, if the number is negative, and the number in decimal
abbrev pub numeral_of : Bool → ℕ → List ℕ
numeral_of negative n = sign_text negative ++ decimal n

-- the bits without the sign's
abbrev pub plain : ℕ → ℕ
plain bits = cond (signed bits) (bits - 9223372036854775808) bits

-- the double's size, cut to a whole number
abbrev pub cut : ℕ → ℕ
cut bits = to_unsigned 64 (from_bits binary64 (plain bits))

-- the whole number below 2^53 that the double is, but for its sign
abbrev pub size_of : ℕ → Option ℕ
size_of bits = cond (nat_le (cut bits) 9007199254740991 && bits == whole_bits (signed bits) (cut bits)) (Some (cut bits)) None

abbrev pub spelled : Bool → Option ℕ → Option (List ℕ)
spelled negative None = None
spelled negative (Some n) = Some (numeral_of negative n)

-- the numeral of a double that is a whole number below 2^53 in size
abbrev pub whole : ℕ → Option (List ℕ)
whole bits = spelled (signed bits) (size_of bits)

-- f gives the whole numbers below 2^53 in size their numerals, both zeros among them, and gives no other
pub record Wholes (f : ℕ → Option (List ℕ)) : Type 0 where
  pub all : (negative : Bool) (n : ℕ) → n ≤ 9007199254740991 → f (whole_bits negative n) ≡ Some (numeral_of negative n)
  pub only : (bits : ℕ) (t : List ℕ) → f bits ≡ Some t → (negative : Bool) × (n : ℕ) × (n ≤ 9007199254740991) × (bits ≡ whole_bits negative n) × (t ≡ numeral_of negative n)
