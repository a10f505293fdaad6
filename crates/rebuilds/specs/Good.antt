-- An expression evaluates to a value, with the objects that it makes; names are bound to what they stand for.
use Rattle.std.specs.Prelude.{◌≡◌, ℕ, ◌<◌, ◌≤◌, true, List, ◌++◌, Some, None}
use Rattle.dump.specs.Heaps.{Value, Heap}
use Rattle.script.specs.Syntax.{Expr}
use Rattle.planner.specs.Visits.{mem}
use Rattle.planner.specs.Names.{pos}
use Rattle.planner.specs.Lates.{Late, lates}
use Rattle.planner.specs.Lines.{target, has_line}
use Rattle.evaluator.specs.Options.{nth}
use Rattle.evaluator.specs.Stores.{Val, ref, Obj, Bound, State, made, lookup}
use Rattle.evaluator.specs.Isomorphic.{Pairing, Alike}
use Rattle.effects.specs.Effects.{grown, expr_made}
use Rattle.rebuilds.specs.Pending.{Store, occ}

module _ (h : Heap) (order : List ℕ) where
  -- in a state whose store stands for `own`: the value is alike, and `makes` says how often each object is made
  pub record Good (own : Pairing) (s : State) (e : Expr) (v : Value) (makes : ℕ → ℕ) : Type 0 where
    pub new : List Obj
    pub adds : Pairing
    pub val : Val
    pub runs : expr_made e s ≡ made val (grown s new)
    -- each new object lacks just its follow-ups
    pub objects : Store h (own ++ adds) (lates h order) adds new
    pub says : Alike (own ++ adds) v val
    pub counts : (y : ℕ) → occ y adds ≡ makes y

  -- each line before t has bound its name to what it built, and no other name is bound
  pub record Names (own : Pairing) (t : ℕ) (names : List Bound) : Type 0 where
    pub bound : (o : ℕ) → mem o order ≡ true → has_line h order o ≡ true → pos h order o < t → (p : ℕ) × (lookup names (pos h order o) ≡ Some (ref p)) × (nth own p ≡ Some (Some (target h order o)))
    pub free : (n : ℕ) → t ≤ n → lookup names n ≡ None

  -- the state after some lines
  pub record Built (own : Pairing) (left : ℕ → List Late) (t : ℕ) (s : State) : Type 0 where
    pub store : Store h own left own s.objects
    pub names : Names own t s.names
