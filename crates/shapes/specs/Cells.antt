-- The rules of a value by itself, and when two values are one key of a Map.
use Rattle.std.specs.Prelude.{ℕ, Bool, true, cond, ◌&&◌, ◌||◌, pos, ◌==◌, nat_le, nat_lt, Float}
use Rattle.std.specs.Float.Ieee as Ieee
use Rattle.std.specs.Float.{binary64}
use Rattle.dump.specs.declared.row.Cell.{Cell}
use Rattle.shapes.specs.declared.cell.Sort.{Sort}
use Rattle.shapes.specs.declared.cell.Sort.TheVariants.{Number, Nan, Other}
use Rattle.dump.specs.Meaning.{joined, signed32}

-- a known tag, and zero in each word that it does not use; a hole only where it may stand
abbrev pub tag_ok : Bool → Cell → Bool
tag_ok holes v =
    cond (v.tag == 0 || v.tag == 1) (v.low == 0 && v.high == 0)
    (cond (v.tag == 2) (nat_le v.low 1 && v.high == 0)
    (cond (v.tag == 5) true
    (cond (v.tag == 9) (holes && (v.low == 0 && v.high == 0))
    (nat_le v.tag 8 && v.high == 0))))

-- a text or an object that there is
abbrev pub place_ok : ℕ → ℕ → Cell → Bool
place_ok texts objects v =
    cond (v.tag == 6 || v.tag == 7) (nat_lt v.low texts)
    (cond (v.tag == 8) (nat_lt v.low objects)
    true)

abbrev pub is_number : Cell → Bool
is_number v = v.tag == 3 || (v.tag == 4 || v.tag == 5)

-- a number of any tag as a double
abbrev pub number_of : Cell → Float
number_of v =
    cond (v.tag == 3) (Ieee.of_int binary64 (signed32 v.low))
    (cond (v.tag == 4) (Ieee.of_int binary64 (pos v.low))
    (Ieee.of_bits binary64 (joined v.low v.high)))

-- what a value is to SameValueZero
abbrev pub sort_of : Cell → Sort
sort_of v = cond (is_number v) (cond (Ieee.is_nan (number_of v)) Nan (Number (number_of v))) Other

-- equal as doubles, all NaN alike
abbrev pub same_number : Float → Float → Bool
same_number x y = Ieee.eq x y || (Ieee.is_nan x && Ieee.is_nan y)

-- ECMA-262's SameValueZero: texts differ by number, since no text occurs twice
abbrev pub same_zero : Cell → Cell → Bool
same_zero v w =
    cond (is_number v && is_number w) (same_number (number_of v) (number_of w))
    (v.tag == w.tag && (v.low == w.low && v.high == w.high))

abbrev pub minus_zero : Cell → Bool
minus_zero v = v.tag == 5 && (v.low == 0 && v.high == 2147483648)
