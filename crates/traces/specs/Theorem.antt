-- The main statement: whoever keeps a trace of a planned delivery finds it sound at every call.
use Rattle.std.specs.Prelude.{◌≡◌, ℕ, ◌+◌, ◌<◌, ◌≤◌, List, [], ◌∷◌, ◌++◌, map, length, Some, Ok, Option}
use Rattle.dump.specs.Heaps.{Heap}
use Rattle.formed.specs.Formed.{Formed}
use Rattle.speller.specs.Spelling.{Lawful}
use Rattle.script.specs.Items.{Line, all, cut, line}
use Rattle.script.specs.Texts.{stmt_items}
use Rattle.planner.specs.Lines.{Format, Plan, planned}
use Rattle.evaluator.specs.Stores.{Val}
use Rattle.evaluator.specs.Commands.{Ran}
use Rattle.evaluator.specs.Runs.{run}
use Rattle.evaluator.specs.Isomorphic.{Isomorphic}
use Rattle.traces.specs.Traces.{told, refused, Entry, sends, lefts, ends, Trace, sent}

-- the numerals that a speller means, read back
abbrev pub Inverse : (ℕ → Option (List ℕ)) → (List ℕ → Option ℕ) → Type 0
Inverse numeral reading = ((bits : ℕ) (t : List ℕ) → numeral bits ≡ Some t → reading t ≡ Some bits) × ((bits : ℕ) (t : List ℕ) → reading t ≡ Some bits → numeral bits ≡ Some t)

-- the texts of the lines that a plan has
abbrev pub texts_of : (ℕ → Option (List ℕ)) → Plan → List Line
texts_of numeral p = map (λ s. line numeral (stmt_items p.base s)) p.lines

abbrev pub bytes_in : Line → List ℕ
bytes_in (all bs) = bs
bytes_in (cut bs bits) = bs

abbrev pub IsAll : Line → Type 0
IsAll (all bs) = Unit {0}
IsAll (cut bs bits) = ⊥

-- an answer that comes exactly when it must, of a delivery with these lines left
abbrev pub Counts : List (List ℕ) → Entry → Type 0
Counts left (sends space got (told n)) = (l : List ℕ) × (ls : List (List ℕ)) × (left ≡ l ∷ ls) × (length l ≤ space) × (n ≡ length l) × (got ≡ l)
Counts left (sends space got (refused k)) =
    (k ≡ 23 → left ≡ [])
    × (left ≡ [] → k ≡ 23)
    × (k ≡ 22 → (l : List ℕ) × (ls : List (List ℕ)) × (left ≡ l ∷ ls) × (space < length l))
    × ((l : List ℕ) (ls : List (List ℕ)) → left ≡ l ∷ ls → (k ≡ 22) × (space < length l))
Counts left (lefts n) = n ≡ length left
Counts left (ends n) = n ≡ length left

-- what holds after some entries of a trace over these planned lines, with these left
pub record SoundAt (h : Heap) (reading : List ℕ → Option ℕ) (lines : List (List ℕ)) (es : List Entry) (left : List (List ℕ)) : Type 0 where
  pub ran : Ran
  -- the lines sent whole run, in their order
  pub runs : run reading (sent es) ≡ Some ran
  -- lines planned are lines sent whole and lines left
  pub counts : length lines ≡ length (sent es) + length left
  -- once none is left, the result is the root's graph
  pub rebuilt : left ≡ [] → (v : Val) × (ran.result ≡ Some v) × Isomorphic h ran.state v

-- at every entry
abbrev pub Sound : Heap → (List ℕ → Option ℕ) → List (List ℕ) → List Entry → Type 0
Sound h reading lines es =
    (before after : List Entry) (left end : List (List ℕ)) → es ≡ before ++ after → Trace lines before left → Trace left after end
    → SoundAt h reading lines before left × ((e : Entry) (rest : List Entry) → after ≡ e ∷ rest → Counts left e)

-- for every well-formed heap, every lawful speller and every format that plan does not refuse, every trace is sound
abbrev pub Faithful : Type 0
Faithful =
    (h : Heap) (numeral : ℕ → Option (List ℕ)) (reading : List ℕ → Option ℕ) (f : Format) (p : Plan)
    → Formed h → Lawful numeral → Inverse numeral reading → planned numeral h f ≡ Ok p
    → ((l : Line) (ls ms : List Line) → texts_of numeral p ≡ ls ++ (l ∷ ms) → IsAll l)
    × ((es : List Entry) (left : List (List ℕ)) → Trace (map bytes_in (texts_of numeral p)) es left → Sound h reading (map bytes_in (texts_of numeral p)) es)
