-- The rules of the root's row, and of a BigInt's text.
use Rattle.std.specs.Prelude.{ℕ, Bool, true, false, cond, List, [], ◌∷◌, ◌==◌}
use Rattle.dump.specs.declared.layout.Layout.{Layout}
use Rattle.dump.specs.declared.row.Cell.{Cell}
use Rattle.dump.specs.Places.{text_of, root_at}
use Rattle.dump.specs.Rules.{Verdict, Rule, rule, judge}
use Rattle.numeral.specs.Numerals.{is_big_int}
use Rattle.shapes.specs.Cells.{tag_ok, place_ok}

-- a BigInt has the text of one
abbrev pub bigint_ok : List ℕ → Layout → Cell → Bool
bigint_ok b l v = cond (v.tag == 6) (is_big_int (text_of b l v.low)) true

abbrev pub root_rules : List ℕ → Layout → List Rule
root_rules b l =
    rule 4 (tag_ok false (root_at b l))
    ∷ rule 5 (place_ok l.texts.count l.objects.count (root_at b l))
    ∷ rule 6 (bigint_ok b l (root_at b l))
    ∷ []

abbrev pub root_row : List ℕ → Layout → Verdict
root_row b l = judge 7 0 (root_rules b l)
