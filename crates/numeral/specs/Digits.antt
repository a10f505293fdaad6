-- Texts of decimal digits, and the numbers that they are.
use Rattle.std.specs.Prelude.{ℕ, ◌+◌, ◌-◌, ◌*◌, Bool, true, false, cond, not, ◌&&◌, ◌||◌, List, [], ◌∷◌, length, Some, None, Option, ◌==◌, nat_le, nat_lt}

abbrev pub is_digit : ℕ → Bool
is_digit c = nat_le 48 c && nat_le c 57

abbrev pub are_digits : List ℕ → Bool
are_digits [] = true
are_digits (c ∷ cs) = is_digit c && are_digits cs

abbrev pub some_digits : List ℕ → Bool
some_digits t = nat_lt 0 (length t) && are_digits t

-- the first unit is c
abbrev pub first_is : ℕ → List ℕ → Bool
first_is c [] = false
first_is c (d ∷ ds) = d == c

-- the number that digits write, after v
abbrev pub value_from : ℕ → List ℕ → ℕ
value_from v [] = v
value_from v (c ∷ cs) = value_from (v * 10 + (c - 48)) cs

-- the number that digits write, if it is at most the limit
abbrev pub number_within : ℕ → List ℕ → Option ℕ
number_within limit t = cond (are_digits t && nat_le (value_from 0 t) limit) (Some (value_from 0 t)) None

-- `0`
abbrev pub is_zero : List ℕ → Bool
is_zero t = length t == 1 && first_is 48 t

-- digits, not starting with 0
abbrev pub positive_digits : List ℕ → Bool
positive_digits t = not (first_is 48 t) && some_digits t

abbrev pub whole_digits : List ℕ → Bool
whole_digits t = is_zero t || positive_digits t

-- the number up to the limit that a text is in decimal
abbrev pub whole_within : ℕ → List ℕ → Option ℕ
whole_within limit t = cond (whole_digits t) (number_within limit t) None

-- the index that a text is in decimal
abbrev pub index_of : List ℕ → Option ℕ
index_of t = whole_within 4294967294 t
