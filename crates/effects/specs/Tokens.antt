-- The tokens of a text that is given as items: what the evaluator's lexer must find in its bytes.
use Rattle.std.specs.Prelude.{ℕ, Bool, cond, List, [], ◌∷◌, ◌++◌, Some, None, codes, Option, ◌==◌}
use Rattle.numeral.specs.Numerals.{finite}
use Rattle.script.specs.Items as items
use Rattle.script.specs.Items.{Item, signed_decimal, hex_digits}
use Rattle.evaluator.specs.Tokens.{Token, word, number, string, mark, break}

-- a number in hexadecimal, as it is written
abbrev pub hex_text : Bool → ℕ → Bool → List ℕ
hex_text minus n big = cond minus (codes "-0x") (codes "0x") ++ hex_digits n ++ cond big (110 ∷ []) []

-- a double that is not finite
abbrev pub not_finite_tokens : ℕ → List Token
not_finite_tokens bits =
    cond (bits == 9218868437227405312) (word (codes "Infinity") ∷ [])
    (cond (bits == 18442240474082181120) (mark 45 ∷ word (codes "Infinity") ∷ [])
    (word (codes "NaN") ∷ []))

abbrev pub numeral_tokens : Option (List ℕ) → List Token
numeral_tokens None = []
numeral_tokens (Some t) = number t ∷ []

module _ (numeral : ℕ → Option (List ℕ)) where
  abbrev pub item_tokens : Item → List Token
  item_tokens (items.word w) = word w ∷ []
  item_tokens (items.mark c) = mark c ∷ []
  item_tokens (items.text t) = string t ∷ []
  item_tokens (items.whole z) = number (signed_decimal z) ∷ []
  item_tokens (items.double bits) = cond (finite bits) (numeral_tokens (numeral bits)) (not_finite_tokens bits)
  item_tokens (items.bigint t) = number (t ++ (110 ∷ [])) ∷ []
  item_tokens (items.hex minus n big) = number (hex_text minus n big) ∷ []
  item_tokens (items.blanks n) = []
  item_tokens items.line_end = break ∷ []
  item_tokens (items.comment t) = []

  abbrev pub items_tokens : List Item → List Token
  items_tokens [] = []
  items_tokens (i ∷ is) = item_tokens i ++ items_tokens is
