-- The main statement of one plan, of every bounded heap, and of the heap of every dump that check accepts.
use Rattle.std.specs.Prelude.{◌≡◌, ℕ, true, List, ◌∷◌, ◌++◌, map, Ok, Option}
use Rattle.std.proofs.Math.Pow.{are_bytes}
use Rattle.dump.specs.Heaps.{Heap}
use Rattle.rules.specs.Verdicts.{verdict}
use Rattle.speller.specs.Spelling.{Lawful}
use Rattle.script.specs.Items.{Line}
use Rattle.planner.specs.Lines.{Format, Plan, planned}
use Rattle.effects.specs.Bounded.{Bounded}
use Rattle.traces.specs.Traces.{Entry, Trace}
use Rattle.traces.specs.Theorem.{texts_of, bytes_in, IsAll, Inverse, Sound}

-- of a plan: the text of each line is complete, and every trace over the lines is sound
abbrev pub FaithfulAt : Heap → (ℕ → Option (List ℕ)) → (List ℕ → Option ℕ) → Plan → Type 0
FaithfulAt h numeral reading p =
    ((l : Line) (ls ms : List Line) → texts_of numeral p ≡ ls ++ (l ∷ ms) → IsAll l)
    × ((es : List Entry) (left : List (List ℕ)) → Trace (map bytes_in (texts_of numeral p)) es left → Sound h reading (map bytes_in (texts_of numeral p)) es)

-- for every bounded heap, every lawful speller and every format that plan does not refuse
abbrev pub BoundedFaithful : Type 0
BoundedFaithful =
    (h : Heap) (numeral : ℕ → Option (List ℕ)) (reading : List ℕ → Option ℕ) (f : Format) (p : Plan)
    → Bounded h → Lawful numeral → Inverse numeral reading → planned numeral h f ≡ Ok p → FaithfulAt h numeral reading p

-- and so for the heap of every dump that check accepts
abbrev pub AcceptedFaithful : Type 0
AcceptedFaithful =
    (b : List ℕ) (h : Heap) (numeral : ℕ → Option (List ℕ)) (reading : List ℕ → Option ℕ) (f : Format) (p : Plan)
    → are_bytes b ≡ true → verdict b ≡ Ok h → Lawful numeral → Inverse numeral reading → planned numeral h f ≡ Ok p → FaithfulAt h numeral reading p
