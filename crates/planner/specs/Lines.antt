-- The planned lines of a heap, and when plan refuses instead.
use Rattle.std.specs.Prelude.{ℕ, suc, ◌+◌, max, Bool, true, false, cond, not, ◌&&◌, ◌||◌, List, [], ◌∷◌, ◌++◌, is_some, Some, None, Ok, Option, Result, ◌==◌, nat_lt, slice_index_or}
use Rattle.dump.specs.declared.refusal.Refusal.{Refusal}
use Rattle.dump.specs.Heaps.{Value, undefined, null, hole, boolean, whole, double, bigint, text, object, Kind, boolean_object, number_object, bigint_object, string_object, regexp, date, plain, sparse, dense, map, set, buffer, view, error, Part, property, element, entry, member, below, cause, Object, Heap}
use Rattle.dump.specs.Rules.{refuse, and_then}
use Rattle.numeral.specs.Numerals.{finite}
use Rattle.script.specs.Syntax as syntax
use Rattle.script.specs.Syntax.{Form, named, buffer_of_named, circular, new_boolean, new_number, new_bigint, new_string, new_regexp, new_date, new_array, empty_map_form, empty_set_form, buffer_form, new_resizable, data_buffer, new_typed, typed_part, subarray, Group, braces, brackets, map_group, set_group, error_group, view_group, Expr, form, group, Items, none, item, keyed, pair, Stmt, opening, const, assign, put, add, fill, last, return}
use Rattle.planner.specs.Visits.{object_at, order as visit_order}
use Rattle.planner.specs.Names.{buffer_in, BufferContent, pos, inlines, backing, slot, has_name}
use Rattle.planner.specs.Builds.{value_expr, built}
use Rattle.planner.specs.Lates.{Task, sets, puts, adds, fills, Late, lates, due}

pub data Format : Type 0 where
  repl expression eval : Format

module _ (h : Heap) (order : List ℕ) where
  -- what the line at the place of o builds: a backing view at its buffer's place
  abbrev pub target_by : Option ℕ → ℕ → ℕ
  target_by None o = o
  target_by (Some w) o = w

  abbrev pub target : ℕ → ℕ
  target o = target_by (backing h order o) o

  -- the place of o has a line: what stands there has a name, and that name is bound there
  abbrev pub has_line : ℕ → Bool
  has_line o = has_name h order (target o) && slot h order (target o) == pos h order o

  abbrev pub expr_of : Value → Expr
  expr_of v = value_expr h order (built h order) v

  abbrev pub bytes_of : Option BufferContent → List ℕ
  bytes_of None = []
  bytes_of (Some c) = c.bytes

  abbrev pub late_stmt : Late → Stmt
  late_stmt l = by_task l.task
    where
      by_task : Task → Stmt
      by_task (sets k v) = assign (slot h order l.target) k (expr_of v)
      by_task (puts k v) = put (slot h order l.target) (expr_of k) (expr_of v)
      by_task (adds v) = add (slot h order l.target) (expr_of v)
      by_task (fills k) = fill (slot h order l.target) k (bytes_of (buffer_in (object_at h l.target).kind))

  -- all follow-ups in the order of their objects' lines, each with the slot after which it comes
  abbrev pub all_due : List ℕ → List (ℕ × Late)
  all_due [] = []
  all_due (o ∷ os) = cond (has_line o) (due h order 0 (lates h order (target o)) ++ all_due os) (all_due os)

  abbrev pub due_at : ℕ → List (ℕ × Late) → List Stmt
  due_at t [] = []
  due_at t (d ∷ ds) = cond (t == d.0) (late_stmt d.1 ∷ due_at t ds) (due_at t ds)

  -- each place with a line has it, and then the follow-ups that are due there
  abbrev pub lines_at : List ℕ → List Stmt
  lines_at [] = []
  lines_at (o ∷ os) =
      cond (has_line o) (const (pos h order o) (slice_index_or (built h order) (pos h order (target o)) (form circular)) ∷ (due_at (pos h order o) (all_due order) ++ lines_at os))
      (lines_at os)

  abbrev pub body : List Stmt
  body = lines_at order

  abbrev pub some_named : List ℕ → Bool
  some_named [] = false
  some_named (o ∷ os) = not (inlines h order o) || some_named os

  abbrev pub is_expression : Format → Bool
  is_expression repl = false
  is_expression expression = true
  is_expression eval = false

  -- a function around the lines: in an Expression with a name
  abbrev pub wrapped : Format → Bool
  wrapped f = is_expression f && some_named order

  abbrev pub in_braces : Expr → Bool
  in_braces (syntax.value v) = false
  in_braces (form f) = false
  in_braces (group braces is) = true
  in_braces (group brackets is) = false
  in_braces (group map_group is) = false
  in_braces (group set_group is) = false
  in_braces (group (error_group n m) is) = false
  in_braces (group (view_group k o n) is) = false

  abbrev pub stmts : Format → List Stmt
  stmts f =
      cond (wrapped f) (opening ∷ (body ++ (return (expr_of h.root) ∷ [])))
      (body ++ (last (in_braces (expr_of h.root)) (expr_of h.root) ∷ []))

-- objects nested in an expression; the inline buffer of a view counts
abbrev pub form_depth : Form → ℕ
form_depth (named n) = 0
form_depth (buffer_of_named n) = 0
form_depth circular = 0
form_depth (new_boolean v) = 1
form_depth (new_number bits) = 1
form_depth (new_bigint t) = 1
form_depth (new_string t) = 1
form_depth (new_regexp t flags) = 1
form_depth (new_date time) = 1
form_depth (new_array n) = 1
form_depth empty_map_form = 1
form_depth empty_set_form = 1
form_depth (buffer_form n) = 1
form_depth (new_resizable n m) = 1
form_depth (data_buffer k bytes) = 1
form_depth (new_typed k bytes) = 2
form_depth (typed_part k bytes s e) = 2
form_depth (subarray n s e) = 1

abbrev mutual
  pub depth : Expr → ℕ
  depth (syntax.value v) = 0
  depth (form f) = form_depth f
  depth (group g is) = 1 + depths is

  pub depths : Items → ℕ
  depths none = 0
  depths (syntax.hole is) = depths is
  depths (item e is) = max (depth e) (depths is)
  depths (keyed k e is) = max (depth e) (depths is)
  depths (pair e f is) = max (max (depth e) (depth f)) (depths is)

abbrev pub stmt_depth : Stmt → ℕ
stmt_depth opening = 0
stmt_depth (const n e) = depth e
stmt_depth (assign n k e) = depth e
stmt_depth (put n e f) = max (depth e) (depth f)
stmt_depth (add n e) = depth e
stmt_depth (fill n k bytes) = 0
stmt_depth (last b e) = depth e
stmt_depth (return e) = depth e

-- the first line over 128 deep is refused with 12, the lines counted from i on
abbrev pub not_deep : ℕ → List Stmt → Result (Unit {0}) Refusal
not_deep i [] = Ok tt
not_deep i (s ∷ ss) = cond (nat_lt 128 (stmt_depth s)) (refuse 12 0 i) (not_deep (suc i) ss)

-- The lines, and the indent at which they stand.
pub record Plan : Type 0 where
  pub lines : List Stmt
  pub base : ℕ

module _ (numeral : ℕ → Option (List ℕ)) where
  -- a finite double without a numeral
  abbrev pub unspelled : ℕ → Bool
  unspelled bits = finite bits && not (is_some (numeral bits))

  abbrev pub value_unspelled : Value → Bool
  value_unspelled undefined = false
  value_unspelled null = false
  value_unspelled hole = false
  value_unspelled (boolean v) = false
  value_unspelled (whole z) = false
  value_unspelled (double bits) = unspelled bits
  value_unspelled (bigint t) = false
  value_unspelled (text t) = false
  value_unspelled (object o) = false

  abbrev pub kind_unspelled : Kind → Bool
  kind_unspelled (boolean_object v) = false
  kind_unspelled (number_object bits) = unspelled bits
  kind_unspelled (bigint_object t) = false
  kind_unspelled (string_object t) = false
  kind_unspelled (regexp t flags) = false
  kind_unspelled (date time) = false
  kind_unspelled plain = false
  kind_unspelled (sparse n) = false
  kind_unspelled (dense n) = false
  kind_unspelled map = false
  kind_unspelled set = false
  kind_unspelled (buffer bytes maximum) = false
  kind_unspelled (view k offset n tracking) = false
  kind_unspelled (error n message stack) = false

  -- objects, then parts, then the root: the first row with such a double is refused with 11, reached or not
  abbrev pub objects_spelled : ℕ → List Object → Result (Unit {0}) Refusal
  objects_spelled i [] = Ok tt
  objects_spelled i (o ∷ os) = cond (kind_unspelled o.kind) (refuse 11 5 i) (objects_spelled (suc i) os)

  -- the parts of one object, from the row p of the section of parts on; a view's buffer has no row there
  abbrev pub parts_spelled : ℕ → List Part → (ℕ → Result (Unit {0}) Refusal) → Result (Unit {0}) Refusal
  parts_spelled p [] rest = rest p
  parts_spelled p (property k v ∷ ps) rest = cond (value_unspelled v) (refuse 11 6 p) (parts_spelled (suc p) ps rest)
  parts_spelled p (element v ∷ ps) rest = cond (value_unspelled v) (refuse 11 6 p) (parts_spelled (suc p) ps rest)
  parts_spelled p (entry k v ∷ ps) rest = cond (value_unspelled k || value_unspelled v) (refuse 11 6 p) (parts_spelled (suc p) ps rest)
  parts_spelled p (member v ∷ ps) rest = cond (value_unspelled v) (refuse 11 6 p) (parts_spelled (suc p) ps rest)
  parts_spelled p (below o ∷ ps) rest = parts_spelled p ps rest
  parts_spelled p (cause v ∷ ps) rest = cond (value_unspelled v) (refuse 11 6 p) (parts_spelled (suc p) ps rest)

  abbrev pub all_parts_spelled : List Object → ℕ → Result (Unit {0}) Refusal
  all_parts_spelled [] p = Ok tt
  all_parts_spelled (o ∷ os) p = parts_spelled p o.parts (all_parts_spelled os)

  abbrev pub spelled_all : Heap → Result (Unit {0}) Refusal
  spelled_all h =
      and_then (objects_spelled 0 h.objects) (λ _.
      and_then (all_parts_spelled h.objects 0) (λ _.
      cond (value_unspelled h.root) (refuse 11 7 0) (Ok tt)))

  -- the plan, or why there is none
  abbrev pub planned : Heap → Format → Result Plan Refusal
  planned h f =
      and_then (spelled_all h) (λ _.
      and_then (not_deep 0 (stmts h (visit_order h) f)) (λ _.
      Ok (record { lines = stmts h (visit_order h) f; base = cond (wrapped h (visit_order h) f) 1 0 })))
