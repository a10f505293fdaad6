-- The rules of object rows.
use Rattle.std.specs.Prelude.{◌≡◌, ℕ, zero, suc, ◌+◌, Bool, true, cond, ◌&&◌, List, [], ◌∷◌, is_ok, ◌==◌}
use Rattle.dump.specs.declared.layout.Layout.{Layout}
use Rattle.dump.specs.declared.raw.Raw.{Raw}
use Rattle.dump.specs.declared.row.Row.{Row}
use Rattle.dump.specs.Places.{text_of, row_at}
use Rattle.dump.specs.Raws.{bytes}
use Rattle.dump.specs.Rules.{Verdict, Rule, rule, judge, each}
use Rattle.numeral.specs.Numerals.{is_big_int}
use Rattle.shapes.specs.Rows.{words_ok, numbers_ok, parts_in, bytes_in, runs_ok, bytes_ok, limits_ok, buffers_ok}

-- how many parts and bytes the rows below i have
abbrev pub parts_below : List ℕ → Layout → ℕ → ℕ
parts_below b l zero = 0
parts_below b l (suc i) = parts_below b l i + parts_in (row_at b l i)

abbrev pub bytes_below : List ℕ → Layout → ℕ → ℕ
bytes_below b l zero = 0
bytes_below b l (suc i) = bytes_below b l i + bytes_in (row_at b l i)

-- 6: a BigInt has the text of one
abbrev pub bigint_row : List ℕ → Layout → Row → Bool
bigint_row b l r = cond (r.kind == 2) (is_big_int (text_of b l r.a)) true

abbrev pub object_rules : List ℕ → Layout → ℕ → List Rule
object_rules b l i =
    rule 4 (words_ok (row_at b l i))
    ∷ rule 5 (numbers_ok l.texts.count l.objects.count (row_at b l i)
    && (runs_ok (row_at b l i) (parts_below b l i) l.parts.count
    && bytes_ok (row_at b l i) (bytes_below b l i) l.octets.count))
    ∷ rule 6 (bigint_row b l (row_at b l i))
    ∷ rule 9 (limits_ok (row_at b l i))
    ∷ rule 10 (buffers_ok (row_at b l i) (row_at b l (row_at b l i).a))
    ∷ []

abbrev pub object_row : List ℕ → Layout → ℕ → Verdict
object_row b l i = judge 5 i (object_rules b l i)

abbrev pub object_rows : List ℕ → Layout → Verdict
object_rows b l = each (object_row b l) l.objects.count

-- the object rows of a dump keep their rules
abbrev pub ObjectsSound : Raw → Type 0
ObjectsSound x = is_ok (object_rows (bytes x) x.layout) ≡ true
