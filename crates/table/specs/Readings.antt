-- A table's numerals, read back.
use Rattle.std.specs.Prelude.{ℕ, cond, List, [], ◌∷◌, Some, None, Option}
use Rattle.dump.specs.Heaps.{Numeral}
use Rattle.numeral.specs.Words.{same_units}

-- the bits of the first numeral with these digits
abbrev pub reading_in : List Numeral → List ℕ → Option ℕ
reading_in [] t = None
reading_in (n ∷ ns) t = cond (same_units t n.digits) (Some n.bits) (reading_in ns t)
