-- Numbers in a list of bytes, low byte first, and runs of them.
use Rattle.std.specs.Prelude.{ℕ, zero, suc, ◌+◌, ◌*◌, List, [], ◌∷◌, slice_index}

-- the word of 4 bytes at p
unfoldable pub word : List ℕ → ℕ → ℕ
word b p = slice_index b p + slice_index b (p + 1) * 256 + slice_index b (p + 2) * 65536 + slice_index b (p + 3) * 16777216

-- the unit of 2 bytes at p
unfoldable pub unit : List ℕ → ℕ → ℕ
unit b p = slice_index b p + slice_index b (p + 1) * 256

-- n units from p on
abbrev pub units_at : List ℕ → ℕ → ℕ → List ℕ
units_at b p zero = []
units_at b p (suc n) = unit b p ∷ units_at b (p + 2) n

-- n bytes from p on
abbrev pub bytes_at : List ℕ → ℕ → ℕ → List ℕ
bytes_at b p zero = []
bytes_at b p (suc n) = slice_index b p ∷ bytes_at b (p + 1) n

-- the unit that two bytes are, low byte first
abbrev pub little : List ℕ → ℕ
little pair = slice_index pair 0 + slice_index pair 1 * 256
