-- What the loops over rows use of the rows that passed: runs of units, parts and bytes lie in their sections.
use Rattle.std.proofs.Common.{◌≡◌, ℕ, zero, suc, ◌+◌, ◌<◌, ◌≤◌, true, List, map, is_ok, refl, add-one, arith}
use Rattle.std.specs.List.{range_with_len, sum}
use Rattle.std.proofs.lemmas.Bool.{and_parts}
use Rattle.std.proofs.lemmas.Bool.Decides.{nat_tests}
use Rattle.dump.specs.declared.layout.Layout.{Layout}
use Rattle.dump.specs.declared.row.Row.{Row}
use Rattle.dump.specs.Places.{end_of, row_at}
use Rattle.dump.proofs.Rules.{row_passes, judge_holds, sum_in_range}
use Rattle.shapes.specs.Rows.{numbers_ok, parts_in, bytes_in, runs_ok, bytes_ok}
use Rattle.rules.specs.Texts.{text_row, text_rows}
use Rattle.rules.specs.Objects.{parts_below, bytes_below, object_rules, object_row, object_rows}
use Rattle.rules.specs.Parts.{first_run, second_run}

pub run_fits : (b : List ℕ) (l : Layout) (i : ℕ) → is_ok (text_rows b l) ≡ true → i < l.texts.count → end_of b l i ≤ l.units.count
run_fits b l i h g = let t = row_passes (text_row b l) l.texts.count i h g in grind (arith, nat_tests)

pub parts_more : (b : List ℕ) (l : Layout) (i : ℕ) → parts_below b l (i + 1) ≡ parts_below b l i + parts_in (row_at b l i)
parts_more b l i = rw add-one

pub bytes_more : (b : List ℕ) (l : Layout) (i : ℕ) → bytes_below b l (i + 1) ≡ bytes_below b l i + bytes_in (row_at b l i)
bytes_more b l i = rw add-one

-- the parts and bytes of all rows, as sums
pub parts_sum : (b : List ℕ) (l : Layout) (n : ℕ) → sum (map (λ i. parts_in (row_at b l i)) (range_with_len 0 n)) ≡ parts_below b l n
parts_sum b l n = sum_in_range (λ i. parts_in (row_at b l i)) (parts_below b l) refl (parts_more b l) n

pub bytes_sum : (b : List ℕ) (l : Layout) (n : ℕ) → sum (map (λ i. bytes_in (row_at b l i)) (range_with_len 0 n)) ≡ bytes_below b l n
bytes_sum b l n = sum_in_range (λ i. bytes_in (row_at b l i)) (bytes_below b l) refl (bytes_more b l) n

pub record Passed (b : List ℕ) (l : Layout) (i : ℕ) : Type 0 where
  pub numbers : numbers_ok l.texts.count l.objects.count (row_at b l i) ≡ true
  pub runs : runs_ok (row_at b l i) (parts_below b l i) l.parts.count ≡ true
  pub octets : bytes_ok (row_at b l i) (bytes_below b l i) l.octets.count ≡ true

-- a row that passes keeps its runs
pub passed : (b : List ℕ) (l : Layout) (i : ℕ) → is_ok (object_row b l i) ≡ true → Passed b l i
passed b l i h =
    let five = (judge_holds 5 i (object_rules b l i) h).1.0 in
    let p = and_parts (numbers_ok l.texts.count l.objects.count (row_at b l i)) _ five in
    let q = and_parts (runs_ok (row_at b l i) (parts_below b l i) l.parts.count) (bytes_ok (row_at b l i) (bytes_below b l i) l.octets.count) p.1 in
    record { numbers = p.0; runs = q.0; octets = q.1 }

pub object_passed : (b : List ℕ) (l : Layout) (i : ℕ) → is_ok (object_rows b l) ≡ true → i < l.objects.count → Passed b l i
object_passed b l i h g = passed b l i (row_passes (object_row b l) l.objects.count i h g)

pub runs_fit : (r : Row) (begin total : ℕ) → begin ≤ total → runs_ok r begin total ≡ true → begin + parts_in r ≤ total
runs_fit r begin total h e = grind (arith, nat_tests)

pub bytes_fit : (r : Row) (begin total : ℕ) → begin ≤ total → bytes_ok r begin total ≡ true → begin + bytes_in r ≤ total
bytes_fit r begin total h e = grind (arith, nat_tests)

-- the runs of the rows below i end in their sections
pub parts_fit : (b : List ℕ) (l : Layout) (i : ℕ) → is_ok (object_rows b l) ≡ true → i ≤ l.objects.count → parts_below b l i ≤ l.parts.count
parts_fit b l zero h g = omega arith
parts_fit b l (suc i) h g = runs_fit (row_at b l i) (parts_below b l i) l.parts.count (parts_fit b l i h (omega arith)) (object_passed b l i h (omega arith)).runs

pub octets_fit : (b : List ℕ) (l : Layout) (i : ℕ) → is_ok (object_rows b l) ≡ true → i ≤ l.objects.count → bytes_below b l i ≤ l.octets.count
octets_fit b l zero h g = omega arith
octets_fit b l (suc i) h g = bytes_fit (row_at b l i) (bytes_below b l i) l.octets.count (octets_fit b l i h (omega arith)) (object_passed b l i h (omega arith)).octets

-- both runs of a row lie among the parts
pub first_fits : (r : Row) (begin total : ℕ) → runs_ok r begin total ≡ true → (first_run r).first + (first_run r).count ≤ total
first_fits r begin total e = grind (arith, nat_tests)

pub second_fits : (r : Row) (begin total : ℕ) → runs_ok r begin total ≡ true → (second_run r).first + (second_run r).count ≤ total
second_fits r begin total e = grind (arith, nat_tests)
