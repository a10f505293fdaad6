-- What a follow-up of an object is: its task, and whether it is ordered.
use Rattle.std.proofs.Common.{◌≡◌, ℕ, suc, ◌+◌, ◌<◌, ◌≤◌, Bool, true, false, cond, not, ◌&&◌, ◌⊎◌, List, [], ◌∷◌, length, take, drop, Some, None, codes, Option, sym, refl, ap, ◌∙◌, inl, inr, ⊎_elim, arith}
use Rattle.dump.specs.Heaps.{Value, Key, index, name, Kind, boolean_object, number_object, bigint_object, string_object, regexp, date, plain, sparse, dense, map, set, buffer, view, error, Part, property, element, entry, member, below, cause, Heap}
use Rattle.script.specs.Texts.{listing, all_zero}
use Rattle.planner.specs.Names.{data_kind}
use Rattle.planner.specs.Lates.{Task, sets, puts, adds, fills, Late, bytes_kind, ready, late_properties, late_elements, late_members, late_causes, late_bytes, lates_by}
use Rattle.rebuilds.specs.Pending.{In, here, there}
use Rattle.pending.proofs.Lists.{in_cases, in-++}
use Rattle.effects.specs.Plans.{stack_text}

-- the value of the element at an index, where the first part is at i
pub data ElementAt : ℕ → List Part → ℕ → Value → Type 0 where
  at_first : {i : ℕ} {v : Value} {ps : List Part} → ElementAt i (element v ∷ ps) i v
  at_next : {i j : ℕ} {v : Value} {p : Part} {ps : List Part} → ElementAt (suc i) ps j v → ElementAt i (p ∷ ps) j v

pub element_bounds : {i j : ℕ} {v : Value} {ps : List Part} → ElementAt i ps j v → (i ≤ j) × (j < i + length ps)
element_bounds at_first = (omega arith, omega arith)
element_bounds (at_next e) = let b = element_bounds e in let c = b.0 in let d = b.1 in (omega arith, omega arith)

pub one_element : {i j k : ℕ} {v w : Value} {ps : List Part} → ElementAt i ps j v → ElementAt i ps k w → j ≡ k → v ≡ w
one_element at_first at_first d = refl
one_element at_first (at_next e) d = absurd (let b = (element_bounds e).0 in omega arith)
one_element (at_next e) at_first d = absurd (let b = (element_bounds e).0 in omega arith)
one_element (at_next e) (at_next f) d = one_element e f d

-- tasks that are not of one sort
abbrev pub task_no : Task → ℕ
task_no (sets k v) = 0
task_no (puts k v) = 1
task_no (adds v) = 2
task_no (fills k) = 3

pub not_task : {P : Type 0} (t u v : Task) → t ≡ u → t ≡ v → (task_no u ≡ task_no v → ⊥) → P
not_task t u v d e n = absurd (n (ap task_no (sym d ∙ e)))

-- in the list with one more at its head, or without it
in_either : {A : Type 0} (b : Bool) (a x : A) (xs ys : List A) → In a (cond b xs (x ∷ ys)) → In a xs ⊎ ((a ≡ x) ⊎ In a ys)
in_either true a x xs ys i = inl i
in_either false a x xs ys i = inr (in_cases i)

in_more : {A : Type 0} (b : Bool) (a x : A) (xs : List A) → In a (cond b xs (x ∷ xs)) → (a ≡ x) ⊎ In a xs
in_more true a x xs i = inr i
in_more false a x xs i = in_cases i

module _ (h : Heap) (order : List ℕ) (o t : ℕ) (l : Late) where
  -- of a property
  abbrev pub OfProperty : Bool → List Part → Type 0
  OfProperty every_one ps = (k : Key) × (v : Value) × In (property k v) ps × (l.task ≡ sets k v) × (l.ordered ≡ every_one)

  property_later : (every_one : Bool) (p : Part) (ps : List Part) → OfProperty every_one ps → OfProperty every_one (p ∷ ps)
  property_later every_one p ps f = (f.0, f.1, there f.2, f.3, f.4)

  pub in_properties : (every_one : Bool) (ps : List Part) → In l (late_properties h order every_one o t ps) → OfProperty every_one ps
  in_properties every_one [] i = elim i [ ]
  in_properties every_one (property k v ∷ ps) i =
      ⊎_elim (λ (e : l ≡ record { target = o; task = sets k v; ordered = every_one }). (k, v, here, ap (λ x. x.task) e, ap (λ x. x.ordered) e))
      (λ (j : In l (late_properties h order every_one o t ps)). property_later every_one (property k v) ps (in_properties every_one ps j))
      (in_more (not every_one && ready h order t v) l (record { target = o; task = sets k v; ordered = every_one }) (late_properties h order every_one o t ps) i)
  in_properties every_one (element v ∷ ps) i = property_later every_one (element v) ps (in_properties every_one ps i)
  in_properties every_one (entry k v ∷ ps) i = property_later every_one (entry k v) ps (in_properties every_one ps i)
  in_properties every_one (member v ∷ ps) i = property_later every_one (member v) ps (in_properties every_one ps i)
  in_properties every_one (below b ∷ ps) i = property_later every_one (below b) ps (in_properties every_one ps i)
  in_properties every_one (cause v ∷ ps) i = property_later every_one (cause v) ps (in_properties every_one ps i)

  -- of an element, where the first part is at n
  abbrev pub OfElement : ℕ → List Part → Type 0
  OfElement n ps = (j : ℕ) × (v : Value) × ElementAt n ps j v × (l.task ≡ sets (index j) v) × (l.ordered ≡ false)

  element_later : (n : ℕ) (p : Part) (ps : List Part) → OfElement (suc n) ps → OfElement n (p ∷ ps)
  element_later n p ps f = (f.0, f.1, at_next f.2, f.3, f.4)

  pub in_elements : (n : ℕ) (ps : List Part) → In l (late_elements h order o t n ps) → OfElement n ps
  in_elements n [] i = elim i [ ]
  in_elements n (property k v ∷ ps) i = element_later n (property k v) ps (in_elements (suc n) ps i)
  in_elements n (element v ∷ ps) i =
      ⊎_elim (λ (e : l ≡ record { target = o; task = sets (index n) v; ordered = false }). (n, v, at_first, ap (λ x. x.task) e, ap (λ x. x.ordered) e))
      (λ (j : In l (late_elements h order o t (suc n) ps)). element_later n (element v) ps (in_elements (suc n) ps j))
      (in_more (ready h order t v) l (record { target = o; task = sets (index n) v; ordered = false }) (late_elements h order o t (suc n) ps) i)
  in_elements n (entry k v ∷ ps) i = element_later n (entry k v) ps (in_elements (suc n) ps i)
  in_elements n (member v ∷ ps) i = element_later n (member v) ps (in_elements (suc n) ps i)
  in_elements n (below b ∷ ps) i = element_later n (below b) ps (in_elements (suc n) ps i)
  in_elements n (cause v ∷ ps) i = element_later n (cause v) ps (in_elements (suc n) ps i)

  -- of an entry or a member
  abbrev pub OfMember : Type 0
  OfMember = (((a : Value) × (b : Value) × (l.task ≡ puts a b)) ⊎ ((a : Value) × (l.task ≡ adds a))) × (l.ordered ≡ true)

  pub in_members : (late : Bool) (ps : List Part) → In l (late_members h order late o t ps) → OfMember
  in_members late [] i = elim i [ ]
  in_members late (property k v ∷ ps) i = in_members late ps i
  in_members late (element v ∷ ps) i = in_members late ps i
  in_members late (entry k v ∷ ps) i =
      ⊎_elim (λ (j : In l (late_members h order false o t ps)). in_members false ps j)
      (λ (u : (l ≡ record { target = o; task = puts k v; ordered = true }) ⊎ In l (late_members h order true o t ps)).
      ⊎_elim (λ (e : l ≡ record { target = o; task = puts k v; ordered = true }). (inl (k, v, ap (λ x. x.task) e), ap (λ x. x.ordered) e)) (λ (j : In l (late_members h order true o t ps)). in_members true ps j) u)
      (in_either (not late && (ready h order t k && ready h order t v)) l (record { target = o; task = puts k v; ordered = true }) (late_members h order false o t ps) (late_members h order true o t ps) i)
  in_members late (member v ∷ ps) i =
      ⊎_elim (λ (j : In l (late_members h order false o t ps)). in_members false ps j)
      (λ (u : (l ≡ record { target = o; task = adds v; ordered = true }) ⊎ In l (late_members h order true o t ps)).
      ⊎_elim (λ (e : l ≡ record { target = o; task = adds v; ordered = true }). (inr (v, ap (λ x. x.task) e), ap (λ x. x.ordered) e)) (λ (j : In l (late_members h order true o t ps)). in_members true ps j) u)
      (in_either (not late && ready h order t v) l (record { target = o; task = adds v; ordered = true }) (late_members h order false o t ps) (late_members h order true o t ps) i)
  in_members late (below b ∷ ps) i = in_members late ps i
  in_members late (cause v ∷ ps) i = in_members late ps i

  -- of a cause
  abbrev pub OfCause : List Part → Type 0
  OfCause ps = (v : Value) × In (cause v) ps × (l.task ≡ sets (name (codes "cause")) v) × (l.ordered ≡ false)

  cause_later : (p : Part) (ps : List Part) → OfCause ps → OfCause (p ∷ ps)
  cause_later p ps f = (f.0, there f.1, f.2, f.3)

  pub in_causes : (ps : List Part) → In l (late_causes h order o t ps) → OfCause ps
  in_causes [] i = elim i [ ]
  in_causes (property k v ∷ ps) i = cause_later (property k v) ps (in_causes ps i)
  in_causes (element v ∷ ps) i = cause_later (element v) ps (in_causes ps i)
  in_causes (entry k v ∷ ps) i = cause_later (entry k v) ps (in_causes ps i)
  in_causes (member v ∷ ps) i = cause_later (member v) ps (in_causes ps i)
  in_causes (below b ∷ ps) i = cause_later (below b) ps (in_causes ps i)
  in_causes (cause v ∷ ps) i =
      ⊎_elim (λ (e : l ≡ record { target = o; task = sets (name (codes "cause")) v; ordered = false }). (v, here, ap (λ x. x.task) e, ap (λ x. x.ordered) e))
      (λ (j : In l (late_causes h order o t ps)). cause_later (cause v) ps (in_causes ps j))
      (in_more (ready h order t v) l (record { target = o; task = sets (name (codes "cause")) v; ordered = false }) (late_causes h order o t ps) i)

  -- of a resizable buffer
  abbrev pub OfBytes : List ℕ → Option ℕ → Type 0
  OfBytes bytes maximum = (m : ℕ) × (maximum ≡ Some m) × (all_zero bytes ≡ false) × (l.task ≡ fills (bytes_kind (data_kind h order o) (listing (data_kind h order o)))) × (l.ordered ≡ false)

  pub in_bytes : (bytes : List ℕ) (maximum : Option ℕ) → In l (late_bytes h order o bytes maximum) → OfBytes bytes maximum
  in_bytes bytes None i = elim i [ ]
  in_bytes bytes (Some m) i = go (all_zero bytes) refl i
    where
      go : (b : Bool) → all_zero bytes ≡ b → In l (cond b [] (record { target = o; task = fills (bytes_kind (data_kind h order o) (listing (data_kind h order o))); ordered = false } ∷ [])) → OfBytes bytes (Some m)
      go true e i = elim i [ ]
      go false e i =
          ⊎_elim (λ (d : l ≡ record { target = o; task = fills (bytes_kind (data_kind h order o) (listing (data_kind h order o))); ordered = false }). (m, refl, e, ap (λ x. x.task) d, ap (λ x. x.ordered) d))
          (λ (j : In l []). elim j [ ])
          (in_cases i)

  -- of any kind
  abbrev pub TaskOf : Kind → Type 0
  TaskOf (boolean_object v) = ⊥
  TaskOf (number_object bits) = ⊥
  TaskOf (bigint_object s) = ⊥
  TaskOf (string_object s) = ⊥
  TaskOf (regexp s flags) = ⊥
  TaskOf (date time) = ⊥
  TaskOf plain = (k : Key) × (v : Value) × (l.task ≡ sets k v)
  TaskOf (sparse n) = (k : Key) × (v : Value) × (l.task ≡ sets k v)
  TaskOf (dense n) = (k : Key) × (v : Value) × (l.task ≡ sets k v)
  TaskOf map = OfMember
  TaskOf set = OfMember
  TaskOf (buffer bytes maximum) = OfBytes bytes maximum
  TaskOf (view k offset n tracking) = ⊥
  TaskOf (error n message stack) = (k : Key) × (v : Value) × (l.task ≡ sets k v)

  pub task_of : (kd : Kind) (ps : List Part) → In l (lates_by h order o t kd ps) → TaskOf kd
  task_of (boolean_object v) ps i = elim i [ ]
  task_of (number_object bits) ps i = elim i [ ]
  task_of (bigint_object s) ps i = elim i [ ]
  task_of (string_object s) ps i = elim i [ ]
  task_of (regexp s flags) ps i = elim i [ ]
  task_of (date time) ps i = elim i [ ]
  task_of plain ps i = let q = in_properties false ps i in (q.0, q.1, q.3)
  task_of (sparse n) ps i = let q = in_properties true ps i in (q.0, q.1, q.3)
  task_of (dense n) ps i =
      ⊎_elim (λ (u : In l (late_elements h order o t 0 (take n ps))). let q = in_elements 0 (take n ps) u in (index q.0, q.1, q.3))
      (λ (u : In l (late_properties h order true o t (drop n ps))). let q = in_properties true (drop n ps) u in (q.0, q.1, q.3))
      (in-++ (late_elements h order o t 0 (take n ps)) i)
  task_of map ps i = in_members false ps i
  task_of set ps i = in_members false ps i
  task_of (buffer bytes maximum) ps i = in_bytes bytes maximum i
  task_of (view k offset n tracking) ps i = elim i [ ]
  task_of (error n message stack) ps i =
      ⊎_elim (λ (u : In l (late_causes h order o t ps)). let q = in_causes ps u in (name (codes "cause"), q.0, q.2))
      (λ (u : In l (record { target = o; task = sets (name (codes "stack")) (stack_text stack); ordered = false } ∷ [])).
      ⊎_elim (λ (e : l ≡ record { target = o; task = sets (name (codes "stack")) (stack_text stack); ordered = false }). (name (codes "stack"), stack_text stack, ap (λ x. x.task) e)) (λ (j : In l []). elim j [ ]) (in_cases u))
      (in-++ (late_causes h order o t ps) i)
