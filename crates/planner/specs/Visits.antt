-- The objects that a root reaches, in post-order: a depth-first visit, as a machine with a stack of frames.
use Rattle.std.specs.Prelude.{ℕ, zero, suc, ◌+◌, Bool, false, cond, ◌||◌, List, [], ◌∷◌, ◌++◌, length, ◌==◌, slice_index_or}
use Rattle.dump.specs.Heaps.{Value, undefined, null, hole, boolean, whole, double, bigint, text, object, Part, property, element, entry, member, below, cause, Object, nobody, Heap}

-- the object that a value refers to
abbrev pub refs : Value → List ℕ
refs undefined = []
refs null = []
refs hole = []
refs (boolean v) = []
refs (whole z) = []
refs (double bits) = []
refs (bigint t) = []
refs (text t) = []
refs (object o) = o ∷ []

-- the values of a part, a Map's key first
abbrev pub values_in : Part → List Value
values_in (property k v) = v ∷ []
values_in (element v) = v ∷ []
values_in (entry k v) = k ∷ v ∷ []
values_in (member v) = v ∷ []
values_in (below o) = object o ∷ []
values_in (cause v) = v ∷ []

abbrev pub refs_of : List Value → List ℕ
refs_of [] = []
refs_of (v ∷ vs) = refs v ++ refs_of vs

abbrev pub edges_of : List Part → List ℕ
edges_of [] = []
edges_of (p ∷ ps) = refs_of (values_in p) ++ edges_of ps

abbrev pub object_at : Heap → ℕ → Object
object_at h o = slice_index_or h.objects o nobody

-- the objects that an object refers to, in the order of its parts
abbrev pub edges : Heap → ℕ → List ℕ
edges h o = edges_of (object_at h o).parts

abbrev pub mem : ℕ → List ℕ → Bool
mem x [] = false
mem x (y ∷ ys) = x == y || mem x ys

-- an object that is being visited, with the edges that are left
pub data Frame : Type 0 where
  at : ℕ → List ℕ → Frame

pub record Visiting : Type 0 where
  pub stack : List Frame
  pub post : List ℕ

abbrev pub open_objects : List Frame → List ℕ
open_objects [] = []
open_objects (at i es ∷ fs) = i ∷ open_objects fs

-- An edge to an object that is open or done is passed over; any other is entered, and looked at again afterwards.
abbrev pub visit_frames : Heap → List Frame → List ℕ → Visiting
visit_frames h [] post = record { stack = []; post = post }
visit_frames h (at i [] ∷ fs) post = record { stack = fs; post = post ++ (i ∷ []) }
visit_frames h (at i (j ∷ es) ∷ fs) post =
    cond (mem j post || mem j (i ∷ open_objects fs))
    (record { stack = at i es ∷ fs; post = post })
    (record { stack = at j (edges h j) ∷ at i (j ∷ es) ∷ fs; post = post })

abbrev pub visit_run : Heap → ℕ → Visiting → Visiting
visit_run h zero v = v
visit_run h (suc n) v = visit_run h n (visit_frames h v.stack v.post)

-- enough steps for any visit
abbrev pub fuel : List Object → ℕ
fuel [] = 0
fuel (o ∷ os) = 2 + length (edges_of o.parts) + fuel os

abbrev pub visit : Heap → ℕ → List ℕ
visit h r = (visit_run h (fuel h.objects) (record { stack = at r (edges h r) ∷ []; post = [] })).post

-- the reached objects in post-order, none for a plain root
abbrev pub reached : Heap → List ℕ → List ℕ
reached h [] = []
reached h (r ∷ rs) = visit h r

abbrev pub order : Heap → List ℕ
order h = reached h (refs h.root)
