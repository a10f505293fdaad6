-- Texts that are numbers, and the doubles that they may stand for.
use Rattle.std.specs.Prelude.{ℕ, ◌+◌, ◌/◌, ◌%◌, ◌^◌, Bool, true, false, cond, not, ◌&&◌, ◌||◌, List, [], ◌∷◌, length, drop, pos, Some, None, Option, ◌==◌, nat_le, to_bits}
use Rattle.std.specs.Float.Ieee.{of_int}
use Rattle.std.specs.Float.{binary64}
use Rattle.numeral.specs.Digits.{first_is, some_digits, is_zero, positive_digits, whole_digits, whole_within}

abbrev pub minus : List ℕ → Bool
minus t = first_is 45 t

-- a text without its minus
abbrev pub body : List ℕ → List ℕ
body t = cond (minus t) (drop 1 t) t

-- the units before the first point
abbrev pub before_point : List ℕ → List ℕ
before_point [] = []
before_point (c ∷ cs) = cond (c == 46) [] (c ∷ before_point cs)

-- the units behind the first point
abbrev pub after_point : List ℕ → Option (List ℕ)
after_point [] = None
after_point (c ∷ cs) = cond (c == 46) (Some cs) (after_point cs)

-- no point, or digits behind it
abbrev pub is_fraction : Option (List ℕ) → Bool
is_fraction None = true
is_fraction (Some t) = some_digits t

abbrev pub is_numeral : List ℕ → Bool
is_numeral t = whole_digits (before_point (body t)) && is_fraction (after_point (body t))

-- `0`, or an optional minus and digits that do not start with 0
abbrev pub is_big_int : List ℕ → Bool
is_big_int t = is_zero t || positive_digits (body t)

-- the number below 2^53 that a text without a point is, but for its sign
abbrev pub whole_of : List ℕ → Option ℕ
whole_of t = whole_within 9007199254740991 (body t)

-- the bits of the double that is n, or minus n
abbrev pub whole_bits : Bool → ℕ → ℕ
whole_bits negative n = to_bits binary64 (of_int binary64 (pos n)) + cond negative 9223372036854775808 0

-- neither infinite nor NaN: the bits of the exponent are not all ones
abbrev pub finite : ℕ → Bool
finite bits = not (bits / 2 ^ 52 % 2 ^ 11 == 2047)

abbrev pub signed : ℕ → Bool
signed bits = nat_le 9223372036854775808 bits

abbrev pub same : Bool → Bool → Bool
same true y = y
same false y = not y

-- the double is the whole number, where there is one
abbrev pub is_double : Bool → Option ℕ → ℕ → Bool
is_double negative None bits = true
is_double negative (Some n) bits = bits == whole_bits negative n

-- the text may be given for the double with these bits
abbrev pub is_pair : ℕ → List ℕ → Bool
is_pair bits t =
    finite bits
    && (nat_le (length t) 400
    && (is_numeral t
    && (same (minus t) (signed bits)
    && is_double (minus t) (whole_of t) bits)))
