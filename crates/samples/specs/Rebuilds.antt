-- The sample scripts run on the evaluator, and rebuild the heaps.
use Rattle.std.specs.Prelude.{◌≡◌, ℕ, List, map, Some, None, Option}
use Rattle.dump.specs.Heaps.{Heap}
use Rattle.script.specs.Items.{Line, all, cut}
use Rattle.evaluator.specs.Stores.{Val}
use Rattle.evaluator.specs.Commands.{Ran}
use Rattle.evaluator.specs.Runs.{run}
use Rattle.evaluator.specs.Isomorphic.{Isomorphic}

-- no numeral is a speller's
abbrev pub no_reading : List ℕ → Option ℕ
no_reading t = None

abbrev pub bytes_of : Line → List ℕ
bytes_of (all bs) = bs
bytes_of (cut bs bits) = bs

pub record Rebuilt (h : Heap) (ls : List Line) : Type 0 where
  pub ran : Ran
  pub value : Val
  pub runs : run no_reading (map bytes_of ls) ≡ Some ran
  pub result : ran.result ≡ Some value
  pub same : Isomorphic h ran.state value
