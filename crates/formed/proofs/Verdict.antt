-- A dump is accepted exactly if every rule holds at every row.
use Rattle.std.proofs.Common.{◌≡◌, ℕ, ◌+◌, ◌<◌, ◌≤◌, true, List, is_ok, Ok, Err, Result, refl, ap, ◌∙◌, arith}
use Rattle.std.proofs.lemmas.Bool.Decides.{nat_tests}
use Rattle.dump.specs.declared.layout.Layout.{Layout}
use Rattle.dump.specs.declared.refusal.Refusal.{Refusal}
use Rattle.dump.specs.Heaps.{Heap}
use Rattle.dump.specs.Layouts.{layout_of}
use Rattle.dump.specs.Meaning.{heap_of}
use Rattle.dump.specs.Places.{begin_of, row_at}
use Rattle.dump.specs.Rules.{Verdict, and_then, each, Hold}
use Rattle.dump.proofs.Rules.{then_parts, then_from, row_passes, rows_pass, judge_holds, judge_passes}
use Rattle.rules.specs.Texts.{text_rules, text_row, text_rows, numeral_rules, numeral_row, numeral_rows}
use Rattle.rules.specs.Cells.{root_rules, root_row}
use Rattle.rules.specs.Objects.{object_rules, object_row, object_rows, parts_below, bytes_below}
use Rattle.rules.specs.Parts.{first_run, second_run, part_rules, part_row, part_run, object_parts, loose_run}
use Rattle.rules.specs.Verdicts.{all_used, rows_of, verdict}
use Rattle.formed.specs.Sound.{Sound}
use Rattle.formed.specs.Theorems.{Means, AcceptedExactlyIfSound}

all_used_lem : (s used all : ℕ) → is_ok (all_used s used all) ≡ true → all ≤ used
all_used_lem s used all h = grind (arith, nat_tests)

used_all : (s used all : ℕ) → all ≤ used → is_ok (all_used s used all) ≡ true
used_all s used all h = grind (arith, nat_tests)

module _ (b : List ℕ) (l : Layout) where
  pub sound : is_ok (rows_of b l) ≡ true → Sound b l
  sound h =
      let p1 = then_parts (text_rows b l) _ h in
      let p2 = then_parts (numeral_rows b l) _ p1.1 in
      let p3 = then_parts (object_rows b l) _ p2.1 in
      let p4 = then_parts (each (object_parts b l) l.objects.count) _ p3.1 in
      let p5 = then_parts (part_run b l (loose_run b l)) _ p4.1 in
      let p6 = then_parts (root_row b l) _ p5.1 in
      let p7 = then_parts (all_used 2 (begin_of b l l.texts.count) l.units.count) _ p6.1 in
      let p8 = then_parts (all_used 4 (bytes_below b l l.objects.count) l.octets.count) _ p7.1 in
      record {
        texts = λ i g. judge_holds 1 i (text_rules b l i) (row_passes (text_row b l) l.texts.count i p1.0 g);
        numerals = λ i g. judge_holds 3 i (numeral_rules b l i) (row_passes (numeral_row b l) l.numerals.count i p2.0 g);
        objects = λ i g. judge_holds 5 i (object_rules b l i) (row_passes (object_row b l) l.objects.count i p3.0 g);
        parts = λ i k g f. part (first_run (row_at b l i)) k (then_parts (part_run b l (first_run (row_at b l i))) _ (row_passes (object_parts b l) l.objects.count i p4.0 g)).0 f;
        more_parts = λ i k g f. part (second_run (row_at b l i)) k (then_parts (part_run b l (first_run (row_at b l i))) _ (row_passes (object_parts b l) l.objects.count i p4.0 g)).1 f;
        root = judge_holds 7 0 (root_rules b l) p6.0;
        no_loose_unit = all_used_lem 2 (begin_of b l l.texts.count) l.units.count p7.0;
        no_loose_byte = all_used_lem 4 (bytes_below b l l.objects.count) l.octets.count p8.0;
        no_loose_part = all_used_lem 6 (parts_below b l l.objects.count) l.parts.count p8.1;
      }
    where
      part : (r : _) (k : ℕ) → is_ok (part_run b l r) ≡ true → k < r.count → Hold (part_rules b l r k)
      part r k h f = judge_holds 6 (r.first + k) (part_rules b l r k) (row_passes (part_row b l r) r.count k h f)

  pub passes : Sound b l → is_ok (rows_of b l) ≡ true
  passes s =
      then_from (text_rows b l) _ (rows_pass (text_row b l) l.texts.count (λ i g. judge_passes 1 i (text_rules b l i) (s.texts i g)))
      (then_from (numeral_rows b l) _ (rows_pass (numeral_row b l) l.numerals.count (λ i g. judge_passes 3 i (numeral_rules b l i) (s.numerals i g)))
      (then_from (object_rows b l) _ (rows_pass (object_row b l) l.objects.count (λ i g. judge_passes 5 i (object_rules b l i) (s.objects i g)))
      (then_from (each (object_parts b l) l.objects.count) _
      (rows_pass (object_parts b l) l.objects.count (λ i g.
      then_from (part_run b l (first_run (row_at b l i))) _
      (rows_pass (part_row b l (first_run (row_at b l i))) (first_run (row_at b l i)).count (λ k f. judge_passes 6 ((first_run (row_at b l i)).first + k) (part_rules b l (first_run (row_at b l i)) k) (s.parts i k g f)))
      (rows_pass (part_row b l (second_run (row_at b l i))) (second_run (row_at b l i)).count (λ k f. judge_passes 6 ((second_run (row_at b l i)).first + k) (part_rules b l (second_run (row_at b l i)) k) (s.more_parts i k g f)))))
      (then_from (part_run b l (loose_run b l)) _ (rows_pass (part_row b l (loose_run b l)) (loose_run b l).count (λ k f. absurd (omega (arith, s.no_loose_part, f))))
      (then_from (root_row b l) _ (judge_passes 7 0 (root_rules b l) s.root)
      (then_from (all_used 2 (begin_of b l l.texts.count) l.units.count) _ (used_all 2 (begin_of b l l.texts.count) l.units.count s.no_loose_unit)
      (then_from (all_used 4 (bytes_below b l l.objects.count) l.octets.count) _ (used_all 4 (bytes_below b l l.objects.count) l.octets.count s.no_loose_byte)
      (used_all 6 (parts_below b l l.objects.count) l.parts.count s.no_loose_part))))))))

-- a verdict that passes leaves what comes after it
after : {A : Type 0} (x : Verdict) (y : Result A Refusal) → is_ok x ≡ true → and_then x (λ _. y) ≡ y
after (Ok u) y h = refl
after (Err e) y h = absurd (let z : ◌≡◌ {A = ℕ} 0 1 = cc in omega arith)

module _ (b : List ℕ) (h : Heap) where
  accepted : (x : Result Layout Refusal) → layout_of b ≡ x → and_then x (λ l. and_then (rows_of b l) (λ _. Ok (heap_of b l))) ≡ Ok h → Means b h
  accepted (Err e) r g = absurd (let z : ◌≡◌ {A = ℕ} 0 1 = cc in omega arith)
  accepted (Ok l) r g = go (rows_of b l) refl g
    where
      go : (y : Verdict) → rows_of b l ≡ y → and_then y (λ _. Ok (heap_of b l)) ≡ Ok h → Means b h
      go (Err e) q g = absurd (let z : ◌≡◌ {A = ℕ} 0 1 = cc in omega arith)
      go (Ok u) q g = (l, r, sound b l (ap is_ok q), (let e : heap_of b l ≡ h = cc in e))

  accepts : Means b h → verdict b ≡ Ok h
  accepts m =
      ap (λ x. and_then x (λ l. and_then (rows_of b l) (λ _. Ok (heap_of b l)))) m.1
      ∙ after (rows_of b m.0) (Ok (heap_of b m.0)) (passes b m.0 m.2)
      ∙ ap Ok m.3

pub every : AcceptedExactlyIfSound
every b h = (λ g. accepted b h (layout_of b) refl g, accepts b h)
