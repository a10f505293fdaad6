-- The follow-ups of every object are readable statements, if the expressions of all objects are readable.
use Rattle.std.proofs.Common.{◌≡◌, ℕ, suc, ◌+◌, ◌≤◌, max, Bool, true, false, not, ◌&&◌, List, [], ◌∷◌, length, take, drop, Some, None, codes, Option, sym, refl, subst, arith}
use Rattle.std.specs.List.{AllByRecursion as All}
use Rattle.std.proofs.ByRecursion.{All-append, All-take, All-drop}
use Rattle.std.proofs.lemmas.List.{length-take}
use Rattle.std.proofs.lemmas.Bool.{both_ways, cond_both}
use Rattle.dump.specs.Heaps as heaps
use Rattle.dump.specs.Heaps.{Text, Value, index, name, Kind, buffer, Part, property, element, entry, member, below, cause, Heap}
use Rattle.formed.specs.Formed.{Units, MaybeUnits, KindFormed}
use Rattle.effects.specs.Bounded.{Bounded}
use Rattle.script.specs.Syntax.{Stmt, assign, put, add, fill}
use Rattle.script.specs.Texts.{listing, all_zero}
use Rattle.planner.specs.Visits.{object_at}
use Rattle.planner.specs.Names.{buffer_in, slot, ready_before, data_kind}
use Rattle.planner.specs.Builds.{built}
use Rattle.planner.specs.Lates.{Task, sets, puts, adds, fills, Late, bytes_kind, ready, late_properties, late_elements, late_members, late_causes, late_bytes, lates_by, lates, own_due, due}
use Rattle.planner.specs.Lines.{expr_of, bytes_of, late_stmt}
use Rattle.rebuilds.specs.Adequate.{Adequate}
use Rattle.effects.specs.Readable.{Data, IsNumbers, KeyReadable, ExprReadable, StmtReadable}
use Rattle.readables.specs.Writable.{Writable, ElementWritable, PartWritable}
use Rattle.readables.proofs.Places.{slot_small}
use Rattle.readables.proofs.Spelled.{HeapSpelled}
use Rattle.effects.proofs.Objects.{formed_at}
use Rattle.readables.proofs.Writes.{parts_at}
use Rattle.readables.proofs.Bytes.{bytes_formed, octets_data, numbers_listed, listed_data, kind_data}
use Rattle.readables.proofs.Exprs.{value_readable, built_readable}
use Rattle.effects.specs.Plans.{stack_text}

cause_units : Units (codes "cause")
cause_units = (omega arith, (omega arith, (omega arith, (omega arith, (omega arith, tt)))))

stack_units : Units (codes "stack")
stack_units = (omega arith, (omega arith, (omega arith, (omega arith, (omega arith, tt)))))

module _ (numeral : ℕ → Option (List ℕ)) (h : Heap) (order : List ℕ) where
  -- what the statement of a task of the object o needs to be readable
  abbrev pub TaskWritable : ℕ → Task → Type 0
  TaskWritable o (sets k v) = KeyReadable k × Writable numeral v
  TaskWritable o (puts k v) = Writable numeral k × Writable numeral v
  TaskWritable o (adds v) = Writable numeral v
  TaskWritable o (fills k) = Data k (bytes_of h order (buffer_in (object_at h o).kind)) × IsNumbers (listing k)

  abbrev pub LateWritable : Late → Type 0
  LateWritable l = TaskWritable l.target l.task

  abbrev pub LatesWritable : List Late → Type 0
  LatesWritable ls = All LateWritable ls

  properties_late : (every_one : Bool) (o t : ℕ) (ps : List Part) → All (PartWritable numeral) ps → LatesWritable (late_properties h order every_one o t ps)
  properties_late every_one o t [] w = tt
  properties_late every_one o t (property k v ∷ ps) w =
      let ih = properties_late every_one o t ps w.1 in
      cond_both (not every_one && ready h order t v) (late_properties h order every_one o t ps)
      (record { target = o; task = sets k v; ordered = every_one } ∷ late_properties h order every_one o t ps) LatesWritable (λ e. ih) (λ e. (w.0, ih))
  properties_late every_one o t (element v ∷ ps) w = properties_late every_one o t ps w.1
  properties_late every_one o t (entry k v ∷ ps) w = properties_late every_one o t ps w.1
  properties_late every_one o t (member v ∷ ps) w = properties_late every_one o t ps w.1
  properties_late every_one o t (below b ∷ ps) w = properties_late every_one o t ps w.1
  properties_late every_one o t (cause v ∷ ps) w = properties_late every_one o t ps w.1

  -- a hole is ready, so an element that is not is a value
  late_element : (t : ℕ) (v : Value) → ready_before h order t v ≡ false → ElementWritable numeral v → Writable numeral v
  late_element t heaps.undefined e w = w
  late_element t heaps.null e w = w
  late_element t heaps.hole e w = both_ways true e refl
  late_element t (heaps.boolean b) e w = w
  late_element t (heaps.whole z) e w = w
  late_element t (heaps.double bits) e w = w
  late_element t (heaps.bigint s) e w = w
  late_element t (heaps.text s) e w = w
  late_element t (heaps.object o) e w = w

  elements_late : (o t i : ℕ) (ps : List Part) → i + length ps ≤ 4294967296 → All (PartWritable numeral) ps → LatesWritable (late_elements h order o t i ps)
  elements_late o t i [] l w = tt
  elements_late o t i (property k v ∷ ps) l w = elements_late o t (suc i) ps (omega arith) w.1
  elements_late o t i (element v ∷ ps) l w =
      let ih = elements_late o t (suc i) ps (omega arith) w.1 in
      cond_both (ready h order t v) (late_elements h order o t (suc i) ps)
      (record { target = o; task = sets (index i) v; ordered = false } ∷ late_elements h order o t (suc i) ps) LatesWritable (λ e. ih) (λ e. ((omega arith, late_element t v e w.0), ih))
  elements_late o t i (entry k v ∷ ps) l w = elements_late o t (suc i) ps (omega arith) w.1
  elements_late o t i (member v ∷ ps) l w = elements_late o t (suc i) ps (omega arith) w.1
  elements_late o t i (below b ∷ ps) l w = elements_late o t (suc i) ps (omega arith) w.1
  elements_late o t i (cause v ∷ ps) l w = elements_late o t (suc i) ps (omega arith) w.1

  members_late : (late : Bool) (o t : ℕ) (ps : List Part) → All (PartWritable numeral) ps → LatesWritable (late_members h order late o t ps)
  members_late late o t [] w = tt
  members_late late o t (property k v ∷ ps) w = members_late late o t ps w.1
  members_late late o t (element v ∷ ps) w = members_late late o t ps w.1
  members_late late o t (entry k v ∷ ps) w =
      cond_both (not late && (ready h order t k && ready h order t v)) (late_members h order false o t ps)
      (record { target = o; task = puts k v; ordered = true } ∷ late_members h order true o t ps) LatesWritable
      (λ e. members_late false o t ps w.1) (λ e. (w.0, members_late true o t ps w.1))
  members_late late o t (member v ∷ ps) w =
      cond_both (not late && ready h order t v) (late_members h order false o t ps)
      (record { target = o; task = adds v; ordered = true } ∷ late_members h order true o t ps) LatesWritable
      (λ e. members_late false o t ps w.1) (λ e. (w.0, members_late true o t ps w.1))
  members_late late o t (below b ∷ ps) w = members_late late o t ps w.1
  members_late late o t (cause v ∷ ps) w = members_late late o t ps w.1

  causes_late : (o t : ℕ) (ps : List Part) → All (PartWritable numeral) ps → LatesWritable (late_causes h order o t ps)
  causes_late o t [] w = tt
  causes_late o t (property k v ∷ ps) w = causes_late o t ps w.1
  causes_late o t (element v ∷ ps) w = causes_late o t ps w.1
  causes_late o t (entry k v ∷ ps) w = causes_late o t ps w.1
  causes_late o t (member v ∷ ps) w = causes_late o t ps w.1
  causes_late o t (below b ∷ ps) w = causes_late o t ps w.1
  causes_late o t (cause v ∷ ps) w =
      let ih = causes_late o t ps w.1 in
      cond_both (ready h order t v) (late_causes h order o t ps)
      (record { target = o; task = sets (name (codes "cause")) v; ordered = false } ∷ late_causes h order o t ps) LatesWritable (λ e. ih) (λ e. ((cause_units, w.0), ih))

  stack_writable : (stack : Option Text) → MaybeUnits stack → Writable numeral (stack_text stack)
  stack_writable None u = tt
  stack_writable (Some s) u = u

  module _ (f : Bounded h) where
    bytes_late : (o : ℕ) (bytes : List ℕ) (maximum : Option ℕ) → (object_at h o).kind ≡ buffer bytes maximum → LatesWritable (late_bytes h order o bytes maximum)
    bytes_late o bytes None c = tt
    bytes_late o bytes (Some m) c =
        let k = data_kind h order o in
        let d = listed_data k bytes (kind_data h f order o bytes (Some m) c) (octets_data bytes (bytes_formed h f o bytes (Some m) c)) in
        cond_both (all_zero bytes) [] (record { target = o; task = fills (bytes_kind k (listing k)); ordered = false } ∷ []) LatesWritable (λ e. tt)
        (λ e. ((subst (λ kind. Data (bytes_kind k (listing k)) (bytes_of h order (buffer_in kind))) (sym c) d, numbers_listed k), tt))

    kind_late : (o t : ℕ) (k : Kind) (ps : List Part) → (object_at h o).kind ≡ k → KindFormed k → All (PartWritable numeral) ps → LatesWritable (lates_by h order o t k ps)
    kind_late o t (heaps.boolean_object v) ps e g w = tt
    kind_late o t (heaps.number_object bits) ps e g w = tt
    kind_late o t (heaps.bigint_object s) ps e g w = tt
    kind_late o t (heaps.string_object s) ps e g w = tt
    kind_late o t (heaps.regexp s flags) ps e g w = tt
    kind_late o t (heaps.date time) ps e g w = tt
    kind_late o t heaps.plain ps e g w = properties_late false o t ps w
    kind_late o t (heaps.sparse n) ps e g w = properties_late true o t ps w
    kind_late o t (heaps.dense n) ps e g w =
        let l = length-take n ps in
        All-append LateWritable (late_elements h order o t 0 (take n ps)) (late_properties h order true o t (drop n ps))
        (elements_late o t 0 (take n ps) (omega arith) (All-take (PartWritable numeral) n ps w)) (properties_late true o t (drop n ps) (All-drop (PartWritable numeral) n ps w))
    kind_late o t heaps.map ps e g w = members_late false o t ps w
    kind_late o t heaps.set ps e g w = members_late false o t ps w
    kind_late o t (heaps.buffer bytes maximum) ps e g w = bytes_late o bytes maximum e
    kind_late o t (heaps.view k offset n tracking) ps e g w = tt
    kind_late o t (heaps.error n message stack) ps e g w =
        All-append LateWritable (late_causes h order o t ps) (record { target = o; task = sets (name (codes "stack")) (stack_text stack); ordered = false } ∷ [])
        (causes_late o t ps w) ((stack_units, stack_writable stack g.1), tt)

    pub lates_writable : HeapSpelled numeral h → (o : ℕ) → LatesWritable (lates h order o)
    lates_writable s o = kind_late o (slot h order o) (object_at h o).kind (object_at h o).parts refl (formed_at h f o).0 (parts_at numeral h f s o)

  -- when a follow-up is due does not change it
  abbrev pub DueWritable : ℕ × Late → Type 0
  DueWritable d = LateWritable d.1

  pub due_writable : (after : ℕ) (ls : List Late) → LatesWritable ls → All DueWritable (due h order after ls)
  due_writable after [] w = tt
  due_writable after (l ∷ ls) w =
      cond_both l.ordered ((max after (own_due h order l), l) ∷ due h order (max after (own_due h order l)) ls) ((own_due h order l, l) ∷ due h order after ls) (All DueWritable)
      (λ e. (w.0, due_writable (max after (own_due h order l)) ls w.1)) (λ e. (w.0, due_writable after ls w.1))

  -- the statement of a task of the object o
  abbrev stmt_by : ℕ → Task → Stmt
  stmt_by o (sets k v) = assign (slot h order o) k (expr_of h order v)
  stmt_by o (puts k v) = put (slot h order o) (expr_of h order k) (expr_of h order v)
  stmt_by o (adds v) = add (slot h order o) (expr_of h order v)
  stmt_by o (fills k) = fill (slot h order o) k (bytes_of h order (buffer_in (object_at h o).kind))

  module _ (f : Bounded h) (a : Adequate h order) (s : HeapSpelled numeral h) where
    pub expr_readable : (v : Value) → Writable numeral v → ExprReadable numeral (expr_of h order v)
    expr_readable v w = value_readable numeral h order f a (built h order) (built_readable numeral h order f a s) v w

    task_readable : (o : ℕ) (t : Task) → TaskWritable o t → StmtReadable numeral (stmt_by o t)
    task_readable o (sets k v) w = (slot_small h order f a o, w.0, expr_readable v w.1)
    task_readable o (puts k v) w = (slot_small h order f a o, expr_readable k w.0, expr_readable v w.1)
    task_readable o (adds v) w = (slot_small h order f a o, expr_readable v w)
    task_readable o (fills k) w = (slot_small h order f a o, w.0, w.1)

    pub late_readable : (l : Late) → LateWritable l → StmtReadable numeral (late_stmt h order l)
    late_readable l w = task_readable l.target l.task w
