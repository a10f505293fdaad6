-- What a built object may lack while some of its follow-ups are still to come.
use Rattle.std.specs.Prelude.{◌≡◌, ℕ, suc, ◌+◌, false, cond, ◌⊎◌, List, [], ◌∷◌, ◌++◌, length, take, drop, Some, None, codes, decimal, Option, ◌==◌, nat_le}
use Rattle.dump.specs.declared.kinds.ViewKind.{ViewKind}
use Rattle.dump.specs.declared.kinds.ErrorName.{ErrorName}
use Rattle.dump.specs.Heaps as heaps
use Rattle.dump.specs.Heaps.{Text, Value, Key, index, name, Kind, boolean_object, number_object, bigint_object, string_object, plain, sparse, dense, map, set, Part, property, element, entry, member, below, cause, Object, Heap}
use Rattle.planner.specs.Visits.{object_at}
use Rattle.planner.specs.Lates.{Task, sets, puts, adds, fills, Late, lates, due}
use Rattle.evaluator.specs.Stores.{Val, undefined, Shape, ordinary, array, mapping, setting, buffer, error, Slot, keyed, Obj}
use Rattle.evaluator.specs.Makes.{zeros}
use Rattle.evaluator.specs.Isomorphic.{Pairing, Alike, AlikeKind, AlikeParts, key_text}
use Rattle.effects.specs.Plans.{stack_text}

pub data In {A : Type 0} (a : A) : List A → Type 0 where
  here : {xs : List A} → In a (a ∷ xs)
  there : {x : A} {xs : List A} → In a xs → In a (x ∷ xs)

-- two lists alike, place by place
pub data All2 {A B : Type 0} (R : A → B → Type 0) : List A → List B → Type 0 where
  a_nil : All2 R [] []
  a_cons : {a : A} {b : B} {xs : List A} {ys : List B} → R a b → All2 R xs ys → All2 R (a ∷ xs) (b ∷ ys)

-- a task of an object that is not ordered is among the follow-ups to come
abbrev pub Waits : ℕ → List Late → Task → Type 0
Waits o ls t = In (record { target = o; task = t; ordered = false }) ls

-- the tasks of the ordered ones
abbrev pub ordered_tasks : List Late → List Task
ordered_tasks [] = []
ordered_tasks (l ∷ ls) = cond l.ordered (l.task ∷ ordered_tasks ls) (ordered_tasks ls)

-- the tasks that add these parts one by one
abbrev pub part_tasks : List Part → List Task
part_tasks [] = []
part_tasks (property k v ∷ ps) = sets k v ∷ part_tasks ps
part_tasks (element v ∷ ps) = part_tasks ps
part_tasks (entry k v ∷ ps) = puts k v ∷ part_tasks ps
part_tasks (member v ∷ ps) = adds v ∷ part_tasks ps
part_tasks (below b ∷ ps) = part_tasks ps
part_tasks (cause v ∷ ps) = part_tasks ps

-- the first parts are there, the others are to be added
pub record Front (own : Pairing) (ls : List Late) (ps : List Part) (ss : List Slot) : Type 0 where
  pub front : List Part
  pub back : List Part
  pub parts : ps ≡ front ++ back
  pub alike : AlikeParts own 0 front ss
  pub tasks : ordered_tasks ls ≡ part_tasks back

-- each property is there, or its placeholder and its task waits
pub data Properties (own : Pairing) (o : ℕ) (ls : List Late) : List Part → List Slot → Type 0 where
  p_end : Properties own o ls [] []
  p_same : {k : Key} {v : Value} {w : Val} {ps : List Part} {ss : List Slot} → Alike own v w → Properties own o ls ps ss → Properties own o ls (property k v ∷ ps) (keyed (key_text k) w ∷ ss)
  p_waits : {k : Key} {v : Value} {ps : List Part} {ss : List Slot} → Waits o ls (sets k v) → Properties own o ls ps ss → Properties own o ls (property k v ∷ ps) (keyed (key_text k) undefined ∷ ss)

-- the same of elements from an index on
pub data Elements (own : Pairing) (o : ℕ) (ls : List Late) : ℕ → List Part → List Slot → Type 0 where
  e_end : {i : ℕ} → Elements own o ls i [] []
  e_hole : {i : ℕ} {ps : List Part} {ss : List Slot} → Elements own o ls (suc i) ps ss → Elements own o ls i (element heaps.hole ∷ ps) ss
  e_same : {i : ℕ} {v : Value} {w : Val} {ps : List Part} {ss : List Slot} → Alike own v w → Elements own o ls (suc i) ps ss → Elements own o ls i (element v ∷ ps) (keyed (decimal i) w ∷ ss)
  e_waits : {i : ℕ} {v : Value} {ps : List Part} {ss : List Slot} → Waits o ls (sets (index i) v) → Elements own o ls (suc i) ps ss → Elements own o ls i (element v ∷ ps) (keyed (decimal i) undefined ∷ ss)

pub record Dense (own : Pairing) (o : ℕ) (ls : List Late) (n : ℕ) (ps : List Part) (ss : List Slot) : Type 0 where
  pub first : List Slot
  pub rest : List Slot
  pub slots : ss ≡ first ++ rest
  pub elements : Elements own o ls 0 (take n ps) first
  pub properties : Front own ls (drop n ps) rest

pub record Bytes (o : ℕ) (ls : List Late) (bytes : List ℕ) (maximum : Option ℕ) (sh : Shape) : Type 0 where
  pub held : List ℕ
  pub shape : sh ≡ buffer held maximum
  pub holds : (held ≡ bytes) ⊎ ((held ≡ zeros (length bytes)) × ((k : ViewKind) × Waits o ls (fills k)))

pub record Failure (own : Pairing) (o : ℕ) (ls : List Late) (e : ErrorName) (message stack : Option Text) (ps : List Part) (sh : Shape) (ss : List Slot) : Type 0 where
  pub trace : Option Text
  pub shape : sh ≡ error e message trace
  pub stacked : (trace ≡ stack) ⊎ ((trace ≡ None) × Waits o ls (sets (name (codes "stack")) (stack_text stack)))
  pub caused : AlikeParts own 0 ps ss ⊎ ((ss ≡ []) × ((v : Value) × (ps ≡ cause v ∷ []) × Waits o ls (sets (name (codes "cause")) v)))

-- The object o with this kind and these parts, of which these follow-ups are to come.
abbrev pub Pends : Pairing → ℕ → List Late → Kind → List Part → Shape → List Slot → Type 0
Pends own o ls (boolean_object v) ps sh ss = AlikeKind (boolean_object v) sh × AlikeParts own 0 ps ss
Pends own o ls (number_object bits) ps sh ss = AlikeKind (number_object bits) sh × AlikeParts own 0 ps ss
Pends own o ls (bigint_object t) ps sh ss = AlikeKind (bigint_object t) sh × AlikeParts own 0 ps ss
Pends own o ls (string_object t) ps sh ss = AlikeKind (string_object t) sh × AlikeParts own 0 ps ss
Pends own o ls (heaps.regexp t flags) ps sh ss = AlikeKind (heaps.regexp t flags) sh × AlikeParts own 0 ps ss
Pends own o ls (heaps.date time) ps sh ss = AlikeKind (heaps.date time) sh × AlikeParts own 0 ps ss
Pends own o ls plain ps sh ss = (sh ≡ ordinary) × Properties own o ls ps ss
Pends own o ls (sparse n) ps sh ss = (sh ≡ array n) × Front own ls ps ss
Pends own o ls (dense n) ps sh ss = (sh ≡ array n) × Dense own o ls n ps ss
Pends own o ls map ps sh ss = (sh ≡ mapping) × Front own ls ps ss
Pends own o ls set ps sh ss = (sh ≡ setting) × Front own ls ps ss
Pends own o ls (heaps.buffer bytes maximum) ps sh ss = Bytes o ls bytes maximum sh × AlikeParts own 0 ps ss
Pends own o ls (heaps.view k offset n tracking) ps sh ss = AlikeKind (heaps.view k offset n tracking) sh × AlikeParts own 0 ps ss
Pends own o ls (heaps.error e message stack) ps sh ss = Failure own o ls e message stack ps sh ss

abbrev pub Pending : Heap → Pairing → ℕ → List Late → Obj → Type 0
Pending h own o ls x = Pends own o ls (object_at h o).kind (object_at h o).parts x.shape x.slots

-- A place of the store: junk that only came up on the way, or an object of the heap.
abbrev pub Stored : Heap → Pairing → (ℕ → List Late) → Option ℕ → Obj → Type 0
Stored h own left None x = Unit {0}
Stored h own left (Some o) x = Pending h own o (left o) x

abbrev pub Store : Heap → Pairing → (ℕ → List Late) → Pairing → List Obj → Type 0
Store h own left ps xs = All2 (Stored h own left) ps xs

-- how often an object stands in a pairing
abbrev pub occ : ℕ → Pairing → ℕ
occ y [] = 0
occ y (None ∷ ps) = occ y ps
occ y (Some x ∷ ps) = cond (y == x) 1 0 + occ y ps

-- the follow-ups that are due at t or later
abbrev pub due_from : ℕ → List (ℕ × Late) → List Late
due_from t [] = []
due_from t (d ∷ ds) = cond (nat_le t d.0) (d.1 ∷ due_from t ds) (due_from t ds)

-- those of an object, before the line at t
abbrev pub left_at : Heap → List ℕ → ℕ → ℕ → List Late
left_at h order t o = due_from t (due h order 0 (lates h order o))
