-- A sound dump: every rule holds at every row, and no unit, byte or part is left over.
use Rattle.std.specs.Prelude.{ℕ, ◌<◌, ◌≤◌, List}
use Rattle.dump.specs.declared.layout.Layout.{Layout}
use Rattle.dump.specs.Places.{begin_of, row_at}
use Rattle.dump.specs.Rules.{Hold}
use Rattle.rules.specs.Texts.{text_rules, numeral_rules}
use Rattle.rules.specs.Cells.{root_rules}
use Rattle.rules.specs.Objects.{object_rules, parts_below, bytes_below}
use Rattle.rules.specs.Parts.{first_run, second_run, part_rules}

pub record Sound (b : List ℕ) (l : Layout) : Type 0 where
  pub texts : (i : ℕ) → i < l.texts.count → Hold (text_rules b l i)
  pub numerals : (i : ℕ) → i < l.numerals.count → Hold (numeral_rules b l i)
  pub objects : (i : ℕ) → i < l.objects.count → Hold (object_rules b l i)
  -- the parts of an object, those of a dense array's properties apart
  pub parts : (i k : ℕ) → i < l.objects.count → k < (first_run (row_at b l i)).count → Hold (part_rules b l (first_run (row_at b l i)) k)
  pub more_parts : (i k : ℕ) → i < l.objects.count → k < (second_run (row_at b l i)).count → Hold (part_rules b l (second_run (row_at b l i)) k)
  pub root : Hold (root_rules b l)
  pub no_loose_unit : l.units.count ≤ begin_of b l l.texts.count
  pub no_loose_byte : l.octets.count ≤ bytes_below b l l.objects.count
  pub no_loose_part : l.parts.count ≤ parts_below b l l.objects.count
