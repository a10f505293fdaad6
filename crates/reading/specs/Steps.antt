-- Trees evaluated one after the other, and the marks that stand among them.
use Rattle.std.specs.Prelude.{ℕ, Bool, false, ◌||◌, List, Option}
use Rattle.evaluator.specs.Options.{and_then}
use Rattle.evaluator.specs.Trees.{Trees, nil, cons}
use Rattle.evaluator.specs.Stores.{State}
use Rattle.evaluator.specs.Commands.{is_mark}
use Rattle.evaluator.specs.Runs.{Partial, Stepped, stepped, eval_tree}

-- a mark at this level
abbrev pub has_mark : ℕ → Trees → Bool
has_mark c nil = false
has_mark c (cons t ts) = is_mark c t || has_mark c ts

module _ (reading : List ℕ → Option ℕ) where
  abbrev pub eval_trees : Trees → Partial → State → Option Stepped
  eval_trees nil p s = stepped p s
  eval_trees (cons t ts) p s = and_then (eval_tree reading t p s) (λ x. eval_trees ts x.partial x.after)
