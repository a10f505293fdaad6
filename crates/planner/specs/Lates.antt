-- Follow-ups: what the line of an object leaves to do, and when each is due.
use Rattle.std.specs.Prelude.{ℕ, suc, max, Bool, true, false, cond, not, ◌&&◌, List, [], ◌∷◌, ◌++◌, take, drop, Some, None, codes, Option}
use Rattle.dump.specs.declared.kinds.ViewKind.{ViewKind}
use Rattle.dump.specs.declared.kinds.ViewKind.TheVariants.{Uint8Array}
use Rattle.dump.specs.Heaps.{Text, Value, undefined, text, Key, index, name, Kind, boolean_object, number_object, bigint_object, string_object, regexp, date, plain, sparse, dense, map, set, buffer, view, error, Part, property, element, entry, member, below, cause, Heap}
use Rattle.script.specs.Texts.{Listing, numbers, floats, listing, all_zero}
use Rattle.planner.specs.Visits.{refs, object_at}
use Rattle.planner.specs.Names.{has_name, slot, ready_before, data_kind}

pub data Task : Type 0 where
  -- v[k] = value
  sets : Key → Value → Task
  -- v.set(key, value), v.add(value)
  puts : Value → Value → Task
  adds : Value → Task
  -- the bytes of a resizable buffer, in a kind
  fills : ViewKind → Task

-- An ordered task waits for those of the same object before it.
pub record Late : Type 0 where
  pub target : ℕ
  pub task : Task
  pub ordered : Bool

abbrev pub bytes_kind : ViewKind → Listing → ViewKind
bytes_kind k (numbers minus big) = k
bytes_kind k floats = Uint8Array

module _ (h : Heap) (order : List ℕ) where
  abbrev pub ready : ℕ → Value → Bool
  ready t v = ready_before h order t v

  -- properties that are not ready, or all of an array
  abbrev pub late_properties : Bool → ℕ → ℕ → List Part → List Late
  late_properties every_one o t [] = []
  late_properties every_one o t (property k v ∷ ps) =
      cond (not every_one && ready t v) (late_properties every_one o t ps)
      (record { target = o; task = sets k v; ordered = every_one } ∷ late_properties every_one o t ps)
  late_properties every_one o t (element v ∷ ps) = late_properties every_one o t ps
  late_properties every_one o t (entry k v ∷ ps) = late_properties every_one o t ps
  late_properties every_one o t (member v ∷ ps) = late_properties every_one o t ps
  late_properties every_one o t (below b ∷ ps) = late_properties every_one o t ps
  late_properties every_one o t (cause v ∷ ps) = late_properties every_one o t ps

  -- elements that are not ready, from the index i on
  abbrev pub late_elements : ℕ → ℕ → ℕ → List Part → List Late
  late_elements o t i [] = []
  late_elements o t i (property k v ∷ ps) = late_elements o t (suc i) ps
  late_elements o t i (element v ∷ ps) =
      cond (ready t v) (late_elements o t (suc i) ps)
      (record { target = o; task = sets (index i) v; ordered = false } ∷ late_elements o t (suc i) ps)
  late_elements o t i (entry k v ∷ ps) = late_elements o t (suc i) ps
  late_elements o t i (member v ∷ ps) = late_elements o t (suc i) ps
  late_elements o t i (below b ∷ ps) = late_elements o t (suc i) ps
  late_elements o t i (cause v ∷ ps) = late_elements o t (suc i) ps

  -- entries and members from the first on that is not ready
  abbrev pub late_members : Bool → ℕ → ℕ → List Part → List Late
  late_members late o t [] = []
  late_members late o t (property k v ∷ ps) = late_members late o t ps
  late_members late o t (element v ∷ ps) = late_members late o t ps
  late_members late o t (entry k v ∷ ps) =
      cond (not late && (ready t k && ready t v)) (late_members false o t ps)
      (record { target = o; task = puts k v; ordered = true } ∷ late_members true o t ps)
  late_members late o t (member v ∷ ps) =
      cond (not late && ready t v) (late_members false o t ps)
      (record { target = o; task = adds v; ordered = true } ∷ late_members true o t ps)
  late_members late o t (below b ∷ ps) = late_members late o t ps
  late_members late o t (cause v ∷ ps) = late_members late o t ps

  -- a cause that is not ready
  abbrev pub late_causes : ℕ → ℕ → List Part → List Late
  late_causes o t [] = []
  late_causes o t (property k v ∷ ps) = late_causes o t ps
  late_causes o t (element v ∷ ps) = late_causes o t ps
  late_causes o t (entry k v ∷ ps) = late_causes o t ps
  late_causes o t (member v ∷ ps) = late_causes o t ps
  late_causes o t (below b ∷ ps) = late_causes o t ps
  late_causes o t (cause v ∷ ps) = cond (ready t v) (late_causes o t ps) (record { target = o; task = sets (name (codes "cause")) v; ordered = false } ∷ late_causes o t ps)

  abbrev pub stack_value : Option Text → Value
  stack_value None = undefined
  stack_value (Some s) = text s

  abbrev pub late_bytes : ℕ → List ℕ → Option ℕ → List Late
  late_bytes o bytes None = []
  late_bytes o bytes (Some m) = cond (all_zero bytes) [] (record { target = o; task = fills (bytes_kind (data_kind h order o) (listing (data_kind h order o))); ordered = false } ∷ [])

  -- what the line of the object o, whose name is bound at t, leaves to do
  abbrev pub lates_by : ℕ → ℕ → Kind → List Part → List Late
  lates_by o t (boolean_object v) ps = []
  lates_by o t (number_object bits) ps = []
  lates_by o t (bigint_object s) ps = []
  lates_by o t (string_object s) ps = []
  lates_by o t (regexp s flags) ps = []
  lates_by o t (date time) ps = []
  lates_by o t plain ps = late_properties false o t ps
  lates_by o t (sparse n) ps = late_properties true o t ps
  lates_by o t (dense n) ps = late_elements o t 0 (take n ps) ++ late_properties true o t (drop n ps)
  lates_by o t map ps = late_members false o t ps
  lates_by o t set ps = late_members false o t ps
  lates_by o t (buffer bytes maximum) ps = late_bytes o bytes maximum
  lates_by o t (view k offset n tracking) ps = []
  lates_by o t (error n message stack) ps = late_causes o t ps ++ (record { target = o; task = sets (name (codes "stack")) (stack_value stack); ordered = false } ∷ [])

  abbrev pub lates : ℕ → List Late
  lates o = lates_by o (slot h order o) (object_at h o).kind (object_at h o).parts

  -- the greatest slot among the objects with a name that a value is
  abbrev pub slots : List ℕ → ℕ
  slots [] = 0
  slots (o ∷ os) = max (cond (has_name h order o) (slot h order o) 0) (slots os)

  abbrev pub task_slot : Task → ℕ
  task_slot (sets k v) = slots (refs v)
  task_slot (puts k v) = max (slots (refs k)) (slots (refs v))
  task_slot (adds v) = slots (refs v)
  task_slot (fills k) = slots (refs h.root)

  abbrev pub own_due : Late → ℕ
  own_due l = max (slot h order l.target) (task_slot l.task)

  -- Each follow-up of one object with the slot after which it comes: once every name in it is bound, and, if ordered, not before the ordered ones before it.
  abbrev pub due : ℕ → List Late → List (ℕ × Late)
  due after [] = []
  due after (l ∷ ls) = cond l.ordered ((max after (own_due l), l) ∷ due (max after (own_due l)) ls) ((own_due l, l) ∷ due after ls)
