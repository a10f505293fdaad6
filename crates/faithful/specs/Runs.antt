-- Lines that run, each prefix of them, and rebuild a heap; a line that does what its statement does.
use Rattle.std.specs.Prelude.{◌≡◌, ℕ, List, ◌++◌, Some, Option}
use Rattle.dump.specs.Heaps.{Heap}
use Rattle.script.specs.Items.{all, line}
use Rattle.script.specs.Syntax.{Stmt}
use Rattle.script.specs.Texts.{stmt_items}
use Rattle.evaluator.specs.Stores.{Val, State}
use Rattle.evaluator.specs.Commands.{Ran}
use Rattle.evaluator.specs.Runs.{run, run_line}
use Rattle.evaluator.specs.Isomorphic.{Isomorphic}
use Rattle.effects.specs.Effects.{stmt_done}

pub record Runs (h : Heap) (reading : List ℕ → Option ℕ) (lines : List (List ℕ)) : Type 0 where
  -- every prefix runs
  pub prefix : (before after : List (List ℕ)) → lines ≡ before ++ after → (r : Ran) × (run reading before ≡ Some r)
  -- all of them give a result that is the root's graph
  pub whole : (r : Ran) → run reading lines ≡ Some r → (v : Val) × (r.result ≡ Some v) × Isomorphic h r.state v

-- a statement's line has all its bytes, and they do what the statement does
abbrev pub LineDoes : (ℕ → Option (List ℕ)) → (List ℕ → Option ℕ) → ℕ → Stmt → Type 0
LineDoes numeral reading base s =
    (bs : List ℕ) × (line numeral (stmt_items base s) ≡ all bs) × ((st : State) (r : Ran) → stmt_done s st ≡ Some r → run_line reading bs st ≡ Some r)
