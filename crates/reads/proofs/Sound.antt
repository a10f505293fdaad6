-- What the rows of a dump that passed say of each row: the texts, objects, parts and bytes that it names are there.
use Rattle.std.proofs.Common.{◌≡◌, ℕ, ◌+◌, ◌-◌, ◌*◌, ◌<◌, ◌≤◌, true, ◌⊎◌, List, length, is_ok, ⊎_elim, arith}
use Rattle.std.proofs.lemmas.Bool.{and_parts, ltb-true}
use Rattle.std.proofs.lemmas.Bool.Decides.{nat_tests}
use Rattle.dump.specs.declared.layout.Layout.{Layout}
use Rattle.dump.specs.declared.row.Row.{Row}
use Rattle.dump.specs.declared.text.Text.{Text}
use Rattle.dump.specs.Places.{text_run, text_of, numeral_text, row_at, key_at, root_at}
use Rattle.dump.specs.Rules.{each}
use Rattle.dump.specs.Texts.{text_units}
use Rattle.dump.proofs.Rules.{then_parts, row_passes, judge_holds}
use Rattle.shapes.specs.Cells.{place_ok}
use Rattle.shapes.specs.Rows.{words_ok, numbers_ok, bytes_ok}
use Rattle.rules.specs.declared.role.PartRun.{PartRun}
use Rattle.rules.specs.Texts.{text_rows, numeral_rules, numeral_row, numeral_rows}
use Rattle.rules.specs.Cells.{root_rules, root_row}
use Rattle.rules.specs.Objects.{object_rules, object_row, object_rows, parts_below, bytes_below}
use Rattle.rules.specs.Parts.{first_run, second_run, part_rules, part_row, part_run, object_parts, loose_run}
use Rattle.rules.specs.Verdicts.{rows_of}
use Rattle.rules.proofs.Sound.{run_fits, object_passed, first_fits, second_fits}
use Rattle.reads.specs.Parts.{part_count, part_place, Placed}
use Rattle.reads.specs.Typed.{TextFits}

-- the sections that passed, one by one
pub record Sections (b : List ℕ) (l : Layout) : Type 0 where
  pub texts : is_ok (text_rows b l) ≡ true
  pub numerals : is_ok (numeral_rows b l) ≡ true
  pub objects : is_ok (object_rows b l) ≡ true
  pub parts : is_ok (each (object_parts b l) l.objects.count) ≡ true
  pub root : is_ok (root_row b l) ≡ true

pub sections : (b : List ℕ) (l : Layout) → is_ok (rows_of b l) ≡ true → Sections b l
sections b l h =
    let t = then_parts (text_rows b l) _ h in
    let n = then_parts (numeral_rows b l) _ t.1 in
    let o = then_parts (object_rows b l) _ n.1 in
    let p = then_parts (each (object_parts b l) l.objects.count) _ o.1 in
    let loose = then_parts (part_run b l (loose_run b l)) _ p.1 in
    let r = then_parts (root_row b l) _ loose.1 in
    record { texts = t.0; numerals = n.0; objects = o.0; parts = p.0; root = r.0 }

-- the run of a text ends within the units
pub text_fits : (b : List ℕ) (l : Layout) (i : ℕ) (t : Text) → is_ok (text_rows b l) ≡ true → l.units.start + l.units.count * 2 ≤ length b → i < l.texts.count → text_units t ≡ text_of b l i → TextFits b t
text_fits b l i t s units g is = let ends = run_fits b l i s g in (text_run b l i, (omega arith), is)

-- the root, and the text of a numeral
pub root_placed : (b : List ℕ) (l : Layout) → Sections b l → place_ok l.texts.count l.objects.count (root_at b l) ≡ true
root_placed b l s = (judge_holds 7 0 (root_rules b l) s.root).1.0

pub numeral_placed : (b : List ℕ) (l : Layout) (i : ℕ) → Sections b l → i < l.numerals.count → numeral_text b l i < l.texts.count
numeral_placed b l i s g =
    ltb-true (numeral_text b l i) l.texts.count (judge_holds 3 i (numeral_rules b l i) (row_passes (numeral_row b l) l.numerals.count i s.numerals g)).0

-- a row of a kind that there is
known_kind : (r : Row) → words_ok r ≡ true → r.kind ≤ 13
known_kind r h = grind (arith, nat_tests)

octets_within : (r : Row) (begin total : ℕ) → bytes_ok r begin total ≡ true → r.kind ≡ 11 → r.a + r.b ≤ total
octets_within r begin total h e = grind (arith, nat_tests)

-- what an object's row names is there
pub record RowPlaced (l : Layout) (r : Row) : Type 0 where
  pub numbers : numbers_ok l.texts.count l.objects.count r ≡ true
  pub known : r.kind ≤ 13
  pub within : r.kind ≡ 11 → r.a + r.b ≤ l.octets.count

pub row_placed : (b : List ℕ) (l : Layout) (i : ℕ) → Sections b l → i < l.objects.count → RowPlaced l (row_at b l i)
row_placed b l i s g =
    let p = object_passed b l i s.objects g in
    let four = (judge_holds 5 i (object_rules b l i) (row_passes (object_row b l) l.objects.count i s.objects g)).0 in
    record {
      numbers = p.numbers;
      known = known_kind (row_at b l i) four;
      within = octets_within (row_at b l i) (bytes_below b l i) l.octets.count p.octets;
    }

-- a part of a run that passed
run_placed : (b : List ℕ) (l : Layout) (r : PartRun) (k : ℕ) → is_ok (part_run b l r) ≡ true → r.first + r.count ≤ l.parts.count → k < r.count → Placed b l (r.first + k)
run_placed b l r k h fits g =
    let five = (judge_holds 6 (r.first + k) (part_rules b l r k) (row_passes (part_row b l r) r.count k h g)).1.0 in
    let p = and_parts (place_ok l.texts.count l.objects.count (key_at b l (r.first + k))) _ five in
    record { here = omega arith; key = p.0; value = p.1 }

-- a part stands in the first or the second run of its object
in_run : (r : Row) (k : ℕ) → k < part_count r → (r.kind ≡ 12 → ⊥) →
    ((k < (first_run r).count) × (part_place r k ≡ (first_run r).first + k)) ⊎ ((k - r.b < (second_run r).count) × (part_place r k ≡ (second_run r).first + (k - r.b)))
in_run r k h g = grind (arith, nat_tests)

on_object : (r : Row) (texts objects : ℕ) → numbers_ok texts objects r ≡ true → r.kind ≡ 12 → r.a < objects
on_object r texts objects h e = grind (arith, nat_tests)

-- what a part of an object names is there: the buffer below a view, or what its row names
pub record PartPlaced (b : List ℕ) (l : Layout) (r : Row) (k : ℕ) : Type 0 where
  pub under : k < part_count r
  pub on : r.kind ≡ 12 → r.a < l.objects.count
  pub placed : (r.kind ≡ 12 → ⊥) → Placed b l (part_place r k)

module _ (b : List ℕ) (l : Layout) (i k : ℕ) (s : Sections b l) (here : i < l.objects.count) (under : k < part_count (row_at b l i)) where
  part_row_lem : ((row_at b l i).kind ≡ 12 → ⊥) → Placed b l (part_place (row_at b l i) k)
  part_row_lem other =
      let r = row_at b l i in
      let both = then_parts (part_run b l (first_run r)) (part_run b l (second_run r)) (row_passes (object_parts b l) l.objects.count i s.parts here) in
      let runs = (object_passed b l i s.objects here).runs in
      ⊎_elim
      (λ (x : (k < (first_run r).count) × (part_place r k ≡ (first_run r).first + k)).
      rw x.1 (run_placed b l (first_run r) k both.0 (first_fits r (parts_below b l i) l.parts.count runs) x.0))
      (λ (x : (k - r.b < (second_run r).count) × (part_place r k ≡ (second_run r).first + (k - r.b))).
      rw x.1 (run_placed b l (second_run r) (k - r.b) both.1 (second_fits r (parts_below b l i) l.parts.count runs) x.0))
      (in_run r k under other)

  pub part_placed : PartPlaced b l (row_at b l i) k
  part_placed = record {
    under = under;
    on = on_object (row_at b l i) l.texts.count l.objects.count (object_passed b l i s.objects here).numbers;
    placed = part_row_lem;
  }
