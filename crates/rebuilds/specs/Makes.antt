-- Which objects the evaluation of each line makes, and how often.
use Rattle.std.specs.Prelude.{ℕ, ◌+◌, cond, ◌&&◌, List, [], ◌∷◌, ◌++◌, take, Some, None, Option, ◌==◌, slice_index_or}
use Rattle.dump.specs.Heaps.{Kind, boolean_object, number_object, bigint_object, string_object, regexp, date, plain, sparse, dense, map, set, buffer, view, error, Part, property, element, entry, member, below, cause, Heap}
use Rattle.planner.specs.Visits.{refs, edges, object_at}
use Rattle.planner.specs.Names.{count, pos, slot, has_name, ready_before, backing}
use Rattle.planner.specs.Lates.{Task, sets, puts, adds, fills, Late}
use Rattle.planner.specs.Lines.{has_line, all_due}

-- the objects to which a task refers
abbrev pub task_refs : Task → List ℕ
task_refs (sets k v) = refs v
task_refs (puts k v) = refs k ++ refs v
task_refs (adds v) = refs v
task_refs (fills k) = []

abbrev pub one : ℕ → ℕ → ℕ
one y x = cond (y == x) 1 0

module _ (h : Heap) (order : List ℕ) where
  -- what the expressions of those without a name make, where `done` has that of the objects before
  abbrev pub inner : List (List ℕ) → List ℕ → List ℕ
  inner done [] = []
  inner done (j ∷ js) = cond (has_name h order j) (inner done js) (slice_index_or done (pos h order j) [] ++ inner done js)

  abbrev pub makes_all : List (List ℕ) → List ℕ → List (List ℕ)
  makes_all done [] = done
  makes_all done (o ∷ os) = makes_all (done ++ ((inner done (edges h o) ++ (o ∷ [])) ∷ [])) os

  -- by places: an object with all that hangs in it without a name
  abbrev pub makes : List (List ℕ)
  makes = makes_all [] order

  -- of a list of references
  abbrev pub within : List ℕ → List ℕ
  within js = inner makes js

  -- The references that the expression of an object writes: those of parts that are ready, and of a Map or Set up to the first part that is not.
  abbrev pub written_parts : ℕ → List Part → List ℕ
  written_parts t [] = []
  written_parts t (property k v ∷ ps) = cond (ready_before h order t v) (refs v) [] ++ written_parts t ps
  written_parts t (element v ∷ ps) = cond (ready_before h order t v) (refs v) [] ++ written_parts t ps
  written_parts t (entry k v ∷ ps) = cond (ready_before h order t k && ready_before h order t v) (refs k ++ (refs v ++ written_parts t ps)) []
  written_parts t (member v ∷ ps) = cond (ready_before h order t v) (refs v ++ written_parts t ps) []
  written_parts t (below b ∷ ps) = b ∷ written_parts t ps
  written_parts t (cause v ∷ ps) = cond (ready_before h order t v) (refs v) [] ++ written_parts t ps

  abbrev pub written_by : ℕ → Kind → List Part → List ℕ
  written_by t (boolean_object v) ps = []
  written_by t (number_object bits) ps = []
  written_by t (bigint_object s) ps = []
  written_by t (string_object s) ps = []
  written_by t (regexp s flags) ps = []
  written_by t (date time) ps = []
  written_by t plain ps = written_parts t ps
  written_by t (sparse n) ps = []
  written_by t (dense n) ps = written_parts t (take n ps)
  written_by t map ps = written_parts t ps
  written_by t set ps = written_parts t ps
  written_by t (buffer bytes maximum) ps = []
  written_by t (view k offset n tracking) ps = written_parts t ps
  written_by t (error n message stack) ps = written_parts t ps

  abbrev pub written : ℕ → List ℕ
  written x = written_by (slot h order x) (object_at h x).kind (object_at h x).parts

  -- how often the expression of x makes y
  abbrev pub expr_makes : ℕ → ℕ → ℕ
  expr_makes x y = count y (within (written x)) + one y x

  -- the line at the place of o: what it builds, and with a backing view the buffer below it
  abbrev pub line_makes_by : Option ℕ → ℕ → ℕ → ℕ
  line_makes_by None o y = expr_makes o y
  line_makes_by (Some w) o y = one y o + one y w

  abbrev pub line_makes : ℕ → ℕ → ℕ
  line_makes o y = line_makes_by (backing h order o) o y

  abbrev pub task_makes : Task → ℕ → ℕ
  task_makes t y = count y (within (task_refs t))

  -- the follow-ups that are due at t
  abbrev pub due_makes : ℕ → List (ℕ × Late) → ℕ → ℕ
  due_makes t [] y = 0
  due_makes t (d ∷ ds) y = cond (t == d.0) (task_makes d.1.task y) 0 + due_makes t ds y

  -- all lines from a place on
  abbrev pub lines_make : List ℕ → ℕ → ℕ
  lines_make [] y = 0
  lines_make (o ∷ os) y = cond (has_line h order o) (line_makes o y + due_makes (pos h order o) (all_due h order order) y) 0 + lines_make os y

  -- the last line
  abbrev pub root_makes : ℕ → ℕ
  root_makes y = count y (within (refs h.root))
