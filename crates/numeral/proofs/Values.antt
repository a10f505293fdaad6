-- Texts of digits, and the numbers that they are.
use Rattle.std.proofs.Common.{◌≡◌, ℕ, ◌+◌, ◌-◌, ◌*◌, ◌<◌, ◌≤◌, ◌&&◌, cond, leb, List, [], ◌∷◌, length, get_or, drop, map, Some, None, Option, refl, arith}
use Rattle.std.specs.List.{list_all}
use Rattle.std.proofs.lemmas.Bool.Decides.{nat_tests}
use Rattle.std.proofs.lemmas.List.{at_drop_more}
use Rattle.dump.specs.Bytes.{little}
use Rattle.numeral.specs.Digits.{is_digit, are_digits, value_from, whole_within}

pub are_digits_lem : (cs : List ℕ) → are_digits cs ≡ list_all is_digit cs
are_digits_lem [] = refl
are_digits_lem (c ∷ cs) = let h = are_digits_lem cs in grind arith

pub value_grows : (v : ℕ) (cs : List ℕ) → v ≤ value_from v cs
value_grows v [] = omega arith
value_grows v (c ∷ cs) = let h = value_grows (v * 10 + (c - 48)) cs in omega arith

-- the number that digits write after v, if it is at most the limit
abbrev pub within_from : ℕ → ℕ → List ℕ → Option ℕ
within_from limit v t = cond (are_digits t && leb (value_from v t) limit) (Some (value_from v t)) None

pub past_limit : (limit v : ℕ) (t : List ℕ) → limit < v → within_from limit v t ≡ None
past_limit limit v t h = let g = value_grows v t in grind (arith, nat_tests)

pub within_more : (limit v : ℕ) (ps : List (List ℕ)) (k : ℕ) → k < length ps → within_from limit v (map little (drop k ps)) ≡ cond (is_digit (little (get_or ps k []))) (within_from limit (v * 10 + (little (get_or ps k []) - 48)) (map little (drop (k + 1) ps))) None
within_more limit v ps k h = let m = at_drop_more (λ ps. within_from limit v (map little ps)) ps k [] h in grind (arith, nat_tests)

pub within_limit : (limit n : ℕ) (t : List ℕ) → whole_within limit t ≡ Some n → n ≤ limit
within_limit limit n t h = grind (arith, nat_tests)
