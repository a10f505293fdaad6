-- What a table of numerals means.
use Rattle.std.specs.Prelude.{◌≡◌, ℕ, ◌<◌, cond, List, [], ◌∷◌, length, Some, None, Option, ◌==◌, slice_index_or}
use Rattle.dump.specs.Heaps.{Numeral, empty_numeral}

-- the digits of the first numeral with these bits
abbrev pub numeral_in : List Numeral → ℕ → Option (List ℕ)
numeral_in [] bits = None
numeral_in (n ∷ ns) bits = cond (n.bits == bits) (Some n.digits) (numeral_in ns bits)

-- the place of that numeral, if there is one
abbrev pub Finds : List Numeral → ℕ → Option ℕ → Type 0
Finds ns bits None = numeral_in ns bits ≡ None
Finds ns bits (Some i) = (i < length ns) × (numeral_in ns bits ≡ Some (slice_index_or ns i empty_numeral).digits)
