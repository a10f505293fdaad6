-- What a dump is checked for, in the order of the walk.
use Rattle.std.specs.Prelude.{ℕ, cond, List, Ok, Result, nat_lt}
use Rattle.dump.specs.declared.layout.Layout.{Layout}
use Rattle.dump.specs.declared.refusal.Refusal.{Refusal}
use Rattle.dump.specs.Heaps.{Heap}
use Rattle.dump.specs.Layouts.{layout_of}
use Rattle.dump.specs.Meaning.{heap_of}
use Rattle.dump.specs.Places.{begin_of}
use Rattle.dump.specs.Rules.{Verdict, refuse, and_then, each}
use Rattle.rules.specs.Texts.{text_rows, numeral_rows}
use Rattle.rules.specs.Cells.{root_row}
use Rattle.rules.specs.Objects.{object_rows, parts_below, bytes_below}
use Rattle.rules.specs.Parts.{object_parts, part_run, loose_run}

-- Of `all` records of the section s the runs use so many: the first in no run is refused.
abbrev pub all_used : ℕ → ℕ → ℕ → Verdict
all_used s used all = cond (nat_lt used all) (refuse 5 s used) (Ok tt)

abbrev pub rows_of : List ℕ → Layout → Verdict
rows_of b l =
    and_then (text_rows b l) (λ _.
    and_then (numeral_rows b l) (λ _.
    and_then (object_rows b l) (λ _.
    and_then (each (object_parts b l) l.objects.count) (λ _.
    and_then (part_run b l (loose_run b l)) (λ _.
    and_then (root_row b l) (λ _.
    and_then (all_used 2 (begin_of b l l.texts.count) l.units.count) (λ _.
    and_then (all_used 4 (bytes_below b l l.objects.count) l.octets.count) (λ _.
    all_used 6 (parts_below b l l.objects.count) l.parts.count))))))))

-- the heap that a dump means, or why it is refused
abbrev pub verdict : List ℕ → Result Heap Refusal
verdict b = and_then (layout_of b) (λ l. and_then (rows_of b l) (λ _. Ok (heap_of b l)))
