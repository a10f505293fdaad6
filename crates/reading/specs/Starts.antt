-- How an expression begins: its first token is none of `(`, `return` and `function`.
use Rattle.std.specs.Prelude.{ℕ, Bool, true, false, not, ◌&&◌, ◌||◌, List, [], ◌∷◌, ◌==◌}
use Rattle.numeral.specs.Digits.{first_is}
use Rattle.evaluator.specs.Tokens.{Token, word, number, string, mark, break}

-- not (, not r, and an f only before an a
abbrev pub begins : List ℕ → Bool
begins [] = false
begins (c ∷ cs) = not (c == 40) && (not (c == 114) && (not (c == 102) || first_is 97 cs))

abbrev pub starts : List Token → Bool
starts [] = false
starts (word w ∷ ts) = begins w
starts (number w ∷ ts) = begins w
starts (string us ∷ ts) = true
starts (mark c ∷ ts) = begins (c ∷ [])
starts (break ∷ ts) = false
