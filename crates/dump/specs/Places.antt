-- The rows of a dump, by the places of their words.
use Rattle.std.specs.Prelude.{ℕ, ◌+◌, ◌-◌, ◌*◌, cond, List, ◌==◌}
use Rattle.dump.specs.declared.layout.Layout.{Layout}
use Rattle.dump.specs.declared.row.Cell.{Cell}
use Rattle.dump.specs.declared.row.Row.{Row}
use Rattle.dump.specs.declared.row.Run.{Run}
use Rattle.dump.specs.Bytes.{word, units_at}

-- section 1: a text's first unit and how many it has
abbrev pub first_of : List ℕ → Layout → ℕ → ℕ
first_of b l i = word b (l.texts.start + i * 8)

abbrev pub count_of : List ℕ → Layout → ℕ → ℕ
count_of b l i = word b (l.texts.start + i * 8 + 4)

abbrev pub end_of : List ℕ → Layout → ℕ → ℕ
end_of b l i = first_of b l i + count_of b l i

-- where the units of the texts before i end
abbrev pub begin_of : List ℕ → Layout → ℕ → ℕ
begin_of b l i = cond (i == 0) 0 (end_of b l (i - 1))

abbrev pub text_run : List ℕ → Layout → ℕ → Run
text_run b l i = record { start = l.units.start + first_of b l i * 2; count = count_of b l i }

-- the units of a run
abbrev pub units_of : List ℕ → Run → List ℕ
units_of b r = units_at b r.start r.count

abbrev pub text_of : List ℕ → Layout → ℕ → List ℕ
text_of b l i = units_of b (text_run b l i)

-- section 3
abbrev pub numeral_bits : List ℕ → Layout → ℕ → ℕ
numeral_bits b l i = word b (l.numerals.start + i * 12) + word b (l.numerals.start + i * 12 + 4) * 4294967296

abbrev pub numeral_text : List ℕ → Layout → ℕ → ℕ
numeral_text b l i = word b (l.numerals.start + i * 12 + 8)

-- section 5
unfoldable pub row_at : List ℕ → Layout → ℕ → Row
row_at b l i = record {
  kind = word b (l.objects.start + i * 24);
  a = word b (l.objects.start + i * 24 + 4);
  b = word b (l.objects.start + i * 24 + 8);
  c = word b (l.objects.start + i * 24 + 12);
  d = word b (l.objects.start + i * 24 + 16);
  e = word b (l.objects.start + i * 24 + 20);
}

-- the value whose words begin at p
unfoldable pub cell_at : List ℕ → ℕ → Cell
cell_at b p = record { tag = word b p; low = word b (p + 4); high = word b (p + 8) }

-- section 6
abbrev pub key_at : List ℕ → Layout → ℕ → Cell
key_at b l p = cell_at b (l.parts.start + p * 24)

abbrev pub value_at : List ℕ → Layout → ℕ → Cell
value_at b l p = cell_at b (l.parts.start + p * 24 + 12)

-- section 7
abbrev pub root_at : List ℕ → Layout → Cell
root_at b l = cell_at b l.root.start
