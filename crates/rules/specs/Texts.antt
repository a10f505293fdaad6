-- The rules of text rows and numeral rows.
use Rattle.std.specs.Prelude.{◌≡◌, ℕ, ◌-◌, ◌<◌, Bool, true, false, cond, not, ◌&&◌, ◌||◌, List, [], ◌∷◌, is_ok, ◌==◌, nat_le, nat_lt, slice_index_or}
use Rattle.dump.specs.declared.layout.Layout.{Layout}
use Rattle.dump.specs.declared.raw.Raw.{Raw}
use Rattle.dump.specs.Places.{first_of, end_of, begin_of, text_of, numeral_bits, numeral_text}
use Rattle.dump.specs.Raws.{bytes}
use Rattle.dump.specs.Rules.{Verdict, Rule, rule, judge, each, any_below}
use Rattle.numeral.specs.Order.{before}
use Rattle.numeral.specs.Numerals.{is_pair, is_big_int}

-- a text begins where the last ended, lies among the units, and comes after the last
abbrev pub text_rules : List ℕ → Layout → ℕ → List Rule
text_rules b l i =
    rule 5 (first_of b l i == begin_of b l i && nat_le (end_of b l i) l.units.count)
    ∷ rule 3 (cond (i == 0) true (before (text_of b l (i - 1)) (text_of b l i)))
    ∷ []

abbrev pub text_row : List ℕ → Layout → ℕ → Verdict
text_row b l i = judge 1 i (text_rules b l i)

-- the rows i and k have one text or one double
abbrev pub same_numeral : List ℕ → Layout → ℕ → ℕ → Bool
same_numeral b l i k = numeral_text b l i == numeral_text b l k || numeral_bits b l i == numeral_bits b l k

-- a numeral is that of its double, and no row before has either
abbrev pub numeral_rules : List ℕ → Layout → ℕ → List Rule
numeral_rules b l i =
    rule 5 (nat_lt (numeral_text b l i) l.texts.count)
    ∷ rule 6 (is_pair (numeral_bits b l i) (text_of b l (numeral_text b l i)) && not (any_below (same_numeral b l i) i))
    ∷ []

abbrev pub numeral_row : List ℕ → Layout → ℕ → Verdict
numeral_row b l i = judge 3 i (numeral_rules b l i)

abbrev pub text_rows : List ℕ → Layout → Verdict
text_rows b l = each (text_row b l) l.texts.count

abbrev pub numeral_rows : List ℕ → Layout → Verdict
numeral_rows b l = each (numeral_row b l) l.numerals.count

-- the text rows of a dump keep their rules
abbrev pub TextsSound : Raw → Type 0
TextsSound x = is_ok (text_rows (bytes x) x.layout) ≡ true

-- the marks tell which texts are those of a BigInt
abbrev pub Marked : Raw → List Bool → Type 0
Marked x marks = (t : ℕ) → t < x.layout.texts.count → slice_index_or marks t false ≡ is_big_int (text_of (bytes x) x.layout t)
