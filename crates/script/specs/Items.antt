-- A text as items: tokens, and the layout between them. What each item is in bytes.
use Rattle.std.specs.Prelude.{ℕ, zero, suc, Bool, false, cond, List, [], ◌∷◌, ◌++◌, ℤ, pos, negsuc, Some, None, codes, decimal, Option, ◌==◌, nat_lt}
use Rattle.std.specs.Fmt.{digits}
use Rattle.dump.specs.Heaps.{Text}
use Rattle.numeral.specs.Numerals.{finite}
use Rattle.script.specs.Literals.{literal}

pub data Item : Type 0 where
  -- a word or a name
  word : List ℕ → Item
  -- one mark, by its code
  mark : ℕ → Item
  text : Text → Item
  -- a whole number in decimal
  whole : ℤ → Item
  -- a double, by its bits
  double : ℕ → Item
  -- a BigInt's digits
  bigint : Text → Item
  -- a number in hexadecimal: below zero, its size, a BigInt
  hex : Bool → ℕ → Bool → Item
  -- layout: so many blanks, a line end, a comment
  blanks : ℕ → Item
  line_end : Item
  comment : List ℕ → Item

-- a line's bytes, or those before the first double without a numeral
pub data Line : Type 0 where
  all : List ℕ → Line
  cut : List ℕ → ℕ → Line

abbrev pub spelled : List ℕ → Line → Line
spelled xs (all ys) = all (xs ++ ys)
spelled xs (cut ys bits) = cut (xs ++ ys) bits

abbrev pub signed_decimal : ℤ → List ℕ
signed_decimal (pos n) = decimal n
signed_decimal (negsuc n) = 45 ∷ decimal (suc n)

-- at least two digits
abbrev pub hex_digits : ℕ → List ℕ
hex_digits n = cond (nat_lt n 16) (48 ∷ digits 16 false n) (digits 16 false n)

abbrev pub spaces : ℕ → List ℕ
spaces zero = []
spaces (suc n) = 32 ∷ spaces n

-- a double that is not finite
abbrev pub not_finite : ℕ → List ℕ
not_finite bits =
    cond (bits == 9218868437227405312) (codes "Infinity")
    (cond (bits == 18442240474082181120) (codes "-Infinity")
    (codes "NaN"))

abbrev pub or_cut : ℕ → Option (List ℕ) → Line → Line
or_cut bits (Some t) rest = spelled t rest
or_cut bits None rest = cut [] bits

-- one item before the rest of a line, with the numerals of a speller
module _ (numeral : ℕ → Option (List ℕ)) where
  abbrev pub before : Item → Line → Line
  before (word w) rest = spelled w rest
  before (mark c) rest = spelled (c ∷ []) rest
  before (text t) rest = spelled (literal t) rest
  before (whole z) rest = spelled (signed_decimal z) rest
  before (double bits) rest = cond (finite bits) (or_cut bits (numeral bits) rest) (spelled (not_finite bits) rest)
  before (bigint t) rest = spelled (t ++ (110 ∷ [])) rest
  before (hex minus n big) rest = spelled (cond minus (codes "-0x") (codes "0x") ++ hex_digits n ++ cond big (110 ∷ []) []) rest
  before (blanks n) rest = spelled (spaces n) rest
  before line_end rest = spelled (10 ∷ []) rest
  before (comment t) rest = spelled (codes "/* " ++ t ++ codes " */") rest

  abbrev pub line : List Item → Line
  line [] = all []
  line (i ∷ is) = before i (line is)
