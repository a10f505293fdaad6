-- A case: a format, a dump in hexadecimal, and the lines of its script or a refusal.
use Rattle.std.specs.Prelude.{◌≡◌, ℕ, ◌+◌, ◌-◌, ◌*◌, cond, List, [], ◌∷◌, map, Some, None, Ok, Err, codes, Option, Result, ◌==◌, nat_le}
use Prim.Native.String.{String}
use Rattle.dump.specs.declared.refusal.Refusal.{Refusal}
use Rattle.dump.specs.Heaps.{Heap, Numeral}
use Rattle.dump.specs.Rules.{and_then, refuse}
use Rattle.rules.specs.Verdicts.{verdict}
use Rattle.script.specs.Items.{Line, all, line}
use Rattle.script.specs.Texts.{stmt_items}
use Rattle.planner.specs.Lines.{Format, planned}
use Rattle.numeral.specs.Words.{same_units}
use Rattle.evaluator.specs.Stores.{Val}
use Rattle.evaluator.specs.Commands.{Ran}
use Rattle.evaluator.specs.Runs.{run}
use Rattle.evaluator.specs.Isomorphic.{Isomorphic}

pub data Answer : Type 0 where
  writes : List String → Answer
  refuses : ℕ → ℕ → ℕ → Answer

pub data Case : Type 0 where
  case : Format → String → Answer → Case

abbrev digit : ℕ → ℕ
digit c = cond (nat_le c 57) (c - 48) (c - 87)

-- two digits a byte
abbrev pub from_hex : List ℕ → List ℕ
from_hex [] = []
from_hex (a ∷ []) = []
from_hex (a ∷ b ∷ cs) = (digit a * 16 + digit b) ∷ from_hex cs

abbrev pub bytes_in : String → List ℕ
bytes_in s = from_hex (codes s)

-- the numeral of a double in a heap
abbrev pub numeral_in : List Numeral → ℕ → Option (List ℕ)
numeral_in [] bits = None
numeral_in (n ∷ ns) bits = cond (bits == n.bits) (Some n.digits) (numeral_in ns bits)

abbrev pub lines_of : Heap → Format → Result (List Line) Refusal
lines_of h f = and_then (planned (numeral_in h.numerals) h f) (λ p. Ok (map (λ s. line (numeral_in h.numerals) (stmt_items p.base s)) p.lines))

abbrev pub script : List ℕ → Format → Result (List Line) Refusal
script b f = and_then (verdict b) (λ h. lines_of h f)

abbrev expected : Answer → Result (List Line) Refusal
expected (writes ls) = Ok (map (λ s. all (bytes_in s)) ls)
expected (refuses k s i) = refuse k s i

abbrev pub Holds : Case → Type 0
Holds (case f dump answer) = script (bytes_in dump) f ≡ expected answer

-- the double of a numeral in a heap
abbrev pub reading_in : List Numeral → List ℕ → Option ℕ
reading_in [] t = None
reading_in (n ∷ ns) t = cond (same_units t n.digits) (Some n.bits) (reading_in ns t)

-- The lines run to their end on the evaluator, and the result is the heap's graph.
pub record Rebuilt (h : Heap) (ls : List (List ℕ)) : Type 0 where
  pub ran : Ran
  pub value : Val
  pub runs : run (reading_in h.numerals) ls ≡ Some ran
  pub result : ran.result ≡ Some value
  pub same : Isomorphic h ran.state value

abbrev pub RebuiltFrom : Result Heap Refusal → List (List ℕ) → Type 0
RebuiltFrom (Err e) ls = ⊥
RebuiltFrom (Ok h) ls = Rebuilt h ls

-- a script that is written rebuilds the heap of its dump
abbrev pub Rebuilds : Case → Type 0
Rebuilds (case f dump (writes ls)) = RebuiltFrom (verdict (bytes_in dump)) (map bytes_in ls)
Rebuilds (case f dump (refuses k s i)) = Unit {0}
