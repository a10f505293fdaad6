-- Each table's scripts rebuild the heaps: by computing the decision.
use Rattle.std.proofs.Common.{◌≡◌, ℕ, true, List, [], ◌∷◌, map, is_some, Some, None, Ok, Err, Option, Result, refl, arith}
use lib.Ieee as Ieee
use Rattle.std.specs.Fmt.{digits}
use Rattle.std.specs.List.{AllByRecursion as All}
use Rattle.dump.specs.declared.refusal.Refusal.{Refusal}
use Rattle.dump.specs.Bytes.{word, unit}
use Rattle.dump.specs.Heaps.{Heap}
use Rattle.dump.specs.Layouts.{section_at}
use Rattle.dump.specs.Places.{row_at, cell_at}
use Rattle.rules.specs.Verdicts.{verdict}
use Rattle.evaluator.specs.Options.{and_then}
use Rattle.evaluator.specs.Stores.{Val}
use Rattle.evaluator.specs.Commands.{Ran}
use Rattle.evaluator.specs.Runs.{run}
use Rattle.vectors.specs.Cases.{Case, case, writes, refuses, bytes_in, reading_in, Rebuilt, RebuiltFrom, Rebuilds}
use Rattle.vectors.specs.Tables.{one, two, three, four, five, six, seven, eight}
use Rattle.vectors.proofs.Same.{isomorphic}

module _ (h : Heap) (ls : List (List ℕ)) where
  abbrev pub by_result : (ran : Ran) → run (reading_in h.numerals) ls ≡ Some ran → (v : Option Val) → ran.result ≡ v → Option (Rebuilt h ls)
  by_result ran e None g = None
  by_result ran e (Some w) g = and_then (isomorphic h ran.state w) (λ i. Some (record { ran = ran; value = w; runs = e; result = g; same = i }))

  abbrev pub by_run : (q : Option Ran) → run (reading_in h.numerals) ls ≡ q → Option (Rebuilt h ls)
  by_run None e = None
  by_run (Some ran) e = by_result ran e ran.result refl

abbrev pub by_verdict : (r : Result Heap Refusal) → (ls : List (List ℕ)) → Option (RebuiltFrom r ls)
by_verdict (Err e) ls = None
by_verdict (Ok h) ls = by_run h ls (run (reading_in h.numerals) ls) refl

abbrev pub rebuilds : (c : Case) → Option (Rebuilds c)
rebuilds (case f dump (writes ls)) = by_verdict (verdict (bytes_in dump)) (map bytes_in ls)
rebuilds (case f dump (refuses k s i)) = Some tt

abbrev pub all_rebuild : (cs : List Case) → Option (All Rebuilds cs)
all_rebuild [] = Some tt
all_rebuild (c ∷ cs) = and_then (rebuilds c) (λ r. and_then (all_rebuild cs) (λ rs. Some (r, rs)))

pub there : {A : Type 0} → (o : Option A) → is_some o ≡ true → A
there None e = absurd (let z : ◌≡◌ {A = ℕ} 0 1 = cc in omega arith)
there (Some a) e = a

pub rebuilds_one : All Rebuilds one
unfolding word unit section_at row_at cell_at Ieee.eq Ieee.of_int Ieee.of_bits Ieee.of_fields Ieee.to_bits Ieee.to_unsigned Ieee.is_nan Ieee.round Ieee.units Ieee.odd Ieee.size Ieee.climb Ieee.span digits
rebuilds_one = there (all_rebuild one) refl

pub rebuilds_two : All Rebuilds two
unfolding word unit section_at row_at cell_at Ieee.eq Ieee.of_int Ieee.of_bits Ieee.of_fields Ieee.to_bits Ieee.to_unsigned Ieee.is_nan Ieee.round Ieee.units Ieee.odd Ieee.size Ieee.climb Ieee.span digits
rebuilds_two = there (all_rebuild two) refl

pub rebuilds_three : All Rebuilds three
unfolding word unit section_at row_at cell_at Ieee.eq Ieee.of_int Ieee.of_bits Ieee.of_fields Ieee.to_bits Ieee.to_unsigned Ieee.is_nan Ieee.round Ieee.units Ieee.odd Ieee.size Ieee.climb Ieee.span digits
rebuilds_three = there (all_rebuild three) refl

pub rebuilds_four : All Rebuilds four
unfolding word unit section_at row_at cell_at Ieee.eq Ieee.of_int Ieee.of_bits Ieee.of_fields Ieee.to_bits Ieee.to_unsigned Ieee.is_nan Ieee.round Ieee.units Ieee.odd Ieee.size Ieee.climb Ieee.span digits
rebuilds_four = there (all_rebuild four) refl

pub rebuilds_five : All Rebuilds five
unfolding word unit section_at row_at cell_at Ieee.eq Ieee.of_int Ieee.of_bits Ieee.of_fields Ieee.to_bits Ieee.to_unsigned Ieee.is_nan Ieee.round Ieee.units Ieee.odd Ieee.size Ieee.climb Ieee.span digits
rebuilds_five = there (all_rebuild five) refl

pub rebuilds_six : All Rebuilds six
unfolding word unit section_at row_at cell_at Ieee.eq Ieee.of_int Ieee.of_bits Ieee.of_fields Ieee.to_bits Ieee.to_unsigned Ieee.is_nan Ieee.round Ieee.units Ieee.odd Ieee.size Ieee.climb Ieee.span digits
rebuilds_six = there (all_rebuild six) refl

pub rebuilds_seven : All Rebuilds seven
unfolding word unit section_at row_at cell_at Ieee.eq Ieee.of_int Ieee.of_bits Ieee.of_fields Ieee.to_bits Ieee.to_unsigned Ieee.is_nan Ieee.round Ieee.units Ieee.odd Ieee.size Ieee.climb Ieee.span digits
rebuilds_seven = there (all_rebuild seven) refl

pub rebuilds_eight : All Rebuilds eight
unfolding word unit section_at row_at cell_at Ieee.eq Ieee.of_int Ieee.of_bits Ieee.of_fields Ieee.to_bits Ieee.to_unsigned Ieee.is_nan Ieee.round Ieee.units Ieee.odd Ieee.size Ieee.climb Ieee.span digits
rebuilds_eight = there (all_rebuild eight) refl
