-- A string literal: UTF-16 units as code points, escaped where they must be, in UTF-8.
use Rattle.std.specs.Prelude.{ℕ, ◌+◌, ◌-◌, ◌*◌, Bool, false, cond, ◌&&◌, ◌||◌, List, [], ◌∷◌, ◌++◌, Some, None, codes, Option, ◌==◌, nat_le, nat_lt}
use Rattle.std.proofs.Math.Utf8.{encode}
use Rattle.std.specs.Fmt.{digits}
use Rattle.dump.specs.Heaps.{Text}

-- the first and the second of a surrogate pair
abbrev pub is_first : ℕ → Bool
is_first u = nat_le 55296 u && nat_le u 56319

abbrev pub is_second : ℕ → Bool
is_second u = nat_le 56320 u && nat_le u 57343

abbrev pub join_pair : ℕ → ℕ → ℕ
join_pair a b = 65536 + (a - 55296) * 1024 + (b - 56320)

-- a quote mark and a backslash have a backslash before them; controls and lone surrogates are written by number
abbrev pub escaped : ℕ → List ℕ
escaped c =
    cond (c == 34 || c == 92) (92 ∷ c ∷ [])
    (cond (nat_lt c 32 || (c == 127 || (nat_le 55296 c && nat_le c 57343))) (codes "\\u{" ++ digits 16 false c ++ codes "}")
    (encode c))

-- The cursor over units: a first surrogate waits for its second.
abbrev pub waiting : Option ℕ → List ℕ
waiting None = []
waiting (Some a) = escaped a

-- what is written at a unit, and what then waits
abbrev pub written : Option ℕ → ℕ → List ℕ
written None u = cond (is_first u) [] (escaped u)
written (Some a) u = cond (is_second u) (encode (join_pair a u)) (escaped a ++ cond (is_first u) [] (escaped u))

abbrev pub waits_next : Option ℕ → ℕ → Option ℕ
waits_next None u = cond (is_first u) (Some u) None
waits_next (Some a) u = cond (is_first u) (Some u) None

abbrev pub read_units : Option ℕ → Text → List ℕ
read_units w [] = waiting w
read_units w (u ∷ us) = written w u ++ read_units (waits_next w u) us

abbrev pub literal : Text → List ℕ
literal t = 34 ∷ (read_units None t ++ (34 ∷ []))
