-- How deep the expressions and the lines of a plan are, in numbers by places.
use Rattle.std.specs.Prelude.{ℕ, suc, ◌+◌, max, cond, List, [], ◌∷◌, ◌++◌, is_some, Ok, Result, ◌==◌, nat_lt, slice_index}
use Rattle.dump.specs.declared.refusal.Refusal.{Refusal}
use Rattle.dump.specs.Heaps.{Value, Heap}
use Rattle.dump.specs.Rules.{refuse}
use Rattle.planner.specs.Visits.{refs}
use Rattle.planner.specs.Names.{pos, backed, has_name}
use Rattle.planner.specs.Lates.{Task, Late}
use Rattle.planner.specs.Lines.{Format, target, has_line, all_due, wrapped}
use Rattle.rebuilds.specs.Makes.{task_refs, written}

module _ (h : Heap) (order : List ℕ) where
  -- the deepest of some references, where `done` has the depths of the objects before: a name counts 0
  abbrev pub deepest : List ℕ → List ℕ → ℕ
  deepest done [] = 0
  deepest done (j ∷ js) = max (cond (has_name h order j) 0 (slice_index done (pos h order j))) (deepest done js)

  -- An object counts 1, and what it writes is inside it. A backing view has its buffer inside, though that has a name.
  abbrev pub object_depth : List ℕ → ℕ → ℕ
  object_depth done x = 1 + cond (is_some (backed h order x)) 1 (deepest done (written h order x))

  abbrev pub depths_all : List ℕ → List ℕ → List ℕ
  depths_all done [] = done
  depths_all done (o ∷ os) = depths_all (done ++ (object_depth done o ∷ [])) os

  -- by places: the depth of each object's expression
  abbrev pub built_depths : List ℕ
  built_depths = depths_all [] order

  -- of a value: 0 unless it is an object without a name
  abbrev pub value_depth : Value → ℕ
  value_depth v = deepest built_depths (refs v)

  -- of a follow-up: the deepest of its values
  abbrev pub task_depth : Task → ℕ
  task_depth t = deepest built_depths (task_refs t)

  -- of the follow-ups that are due at t
  abbrev pub due_depths : ℕ → List (ℕ × Late) → List ℕ
  due_depths t [] = []
  due_depths t (d ∷ ds) = cond (t == d.0) (task_depth d.1.task ∷ due_depths t ds) (due_depths t ds)

  -- of the line at the place of o
  abbrev pub line_depth : ℕ → ℕ
  line_depth o = slice_index built_depths (pos h order (target h order o))

  -- of the lines with the follow-ups that are due after each
  abbrev pub line_depths : List ℕ → List ℕ
  line_depths [] = []
  line_depths (o ∷ os) = cond (has_line h order o) (line_depth o ∷ (due_depths (pos h order o) (all_due h order order) ++ line_depths os)) (line_depths os)

  -- of all statements
  abbrev pub stmt_depths : Format → List ℕ
  stmt_depths f =
      cond (wrapped h order f) (0 ∷ (line_depths order ++ (value_depth h.root ∷ [])))
      (line_depths order ++ (value_depth h.root ∷ []))

-- the first number over 128 is refused with 12, the lines counted from i on
abbrev pub none_deep : ℕ → List ℕ → Result (Unit {0}) Refusal
none_deep i [] = Ok tt
none_deep i (d ∷ ds) = cond (nat_lt 128 d) (refuse 12 0 i) (none_deep (suc i) ds)
