-- A follow-up that sets a key runs, and its object lacks it no more.
use Rattle.std.proofs.Common.{◌≡◌, ℕ, ◌<◌, ◌≤◌, true, false, not, List, [], ◌∷◌, ◌++◌, length, take, drop, Some, None, codes, decimal, Option, sym, refl, ap, ◌∙◌, subst, inl, inr, ⊎_elim, append_assoc, arith, length-take-le}
use Rattle.std.specs.List.{AllByRecursion as All}
use Rattle.std.proofs.lemmas.Bool.{or_left, or_right, true≢false, cond-true}
use Rattle.dump.specs.declared.kinds.ErrorName.{ErrorName}
use Rattle.dump.specs.Heaps as heaps
use Rattle.dump.specs.Heaps.{Text, Value, Key, index, name, Kind, boolean_object, number_object, bigint_object, string_object, plain, sparse, dense, map, set, Part, property, element, entry, member, below, cause, Heap}
use Rattle.numeral.specs.Words.{same_units}
use Rattle.formed.specs.Formed as formed
use Rattle.formed.specs.Formed.{KeyFormed, PropertyFormed, ElementFormed, KindFormed, PartsFormed, ObjectFormed}
use Rattle.planner.specs.Visits.{object_at}
use Rattle.planner.specs.Names.{slot}
use Rattle.planner.specs.Lates.{sets, puts, adds, fills, Late, late_properties, late_elements, late_causes, late_members, lates_by, lates}
use Rattle.evaluator.specs.Options.{and_then, when}
use Rattle.evaluator.specs.Stores.{Val, Shape, ordinary, array, error, Slot, keyed, single, Obj, has_key, set_key, with_key}
use Rattle.evaluator.specs.Makes.{message_in}
use Rattle.evaluator.specs.Commands.{is_proto, assigned}
use Rattle.evaluator.specs.Isomorphic.{Pairing, Alike, AlikeParts, key_text}
use Rattle.rebuilds.specs.Pending.{In, ordered_tasks, Front, Dense, Failure, Pends, Pending}
use Rattle.pending.proofs.Lists.{in_cases, in-++, all_before, all_in}
use Rattle.pending.proofs.KeyTexts.{name_index}
use Rattle.pending.proofs.Lates.{ElementAt, not_task, element_bounds, one_element, in_properties, in_elements, in_members, in_causes, in_bytes}
use Rattle.pending.proofs.Fronts.{ordered_without}
use Rattle.pending.proofs.Slots.{has-++, set-++, set_absent, key_formed, lacks, array_assigned}
use Rattle.pending.proofs.Waits.{waits_other, waits_ordered}
use Rattle.pending.proofs.Properties.{plain_set, array_set}
use Rattle.pending.proofs.Elements.{elements_waits, elements_lack, has_element, set_elements}
use Rattle.effects.proofs.Objects.{formed_at}
use Rattle.effects.specs.Plans.{stack_text}
use Rattle.effects.specs.Bounded.{Bounded}

-- the one part of a short list
pub in_single : {A : Type 0} {a : A} (xs : List A) → length xs ≤ 1 → In a xs → xs ≡ a ∷ []
in_single [] n i = elim i [ ]
in_single {a = a} (x ∷ []) n i = ⊎_elim (λ (e : a ≡ x). ap (λ z. z ∷ []) (sym e)) (λ (j : In a []). elim j [ ]) (in_cases i)
in_single (x ∷ y ∷ xs) n i = absurd (omega arith)

module _ (own : Pairing) (o : ℕ) (K L : List Late) (l : Late) (k : Key) (v : Value) (w : Val) (task : l.task ≡ sets k v) (a : Alike own v w) where
  -- the key is set, and what is left to do is not this
  abbrev Mended : Kind → List Part → Shape → List Slot → Type 0
  Mended kd ps sh ss = (u : Obj) × (assigned (key_text k) w sh ss ≡ Some u) × Pends own o (K ++ L) kd ps u.shape u.slots

  front_without : (ps : List Part) (ss : List Slot) → l.ordered ≡ false → Front own (K ++ (l ∷ L)) ps ss → Front own (K ++ L) ps ss
  front_without ps ss e f = record { front = f.front; back = f.back; parts = f.parts; alike = f.alike; tasks = sym (ordered_without K L l e) ∙ f.tasks }

  plain_mended : (n : ℕ) (ps : List Part) (sh : Shape) (ss : List Slot) → formed.Properties n 4294967295 false ps → In (property k v) ps → Pends own o (K ++ (l ∷ L)) plain ps sh ss → Mended plain ps sh ss
  plain_mended n ps sh ss f i r =
      let p = plain_set own o K L l k v w task a n f i r.1 in
      subst (λ z. Mended plain ps z ss) (sym r.0)
      (record { shape = ordinary; slots = with_key (key_text k) w ss }, ap (λ b. when b (Some (record { shape = ordinary; slots = with_key (key_text k) w ss }))) (or_right (not (is_proto (key_text k))) (has_key (key_text k) ss) p.0), (refl, p.1))

  sparse_mended : (n m : ℕ) (ps : List Part) (sh : Shape) (ss : List Slot) → m < 4294967296 → formed.Properties n m true ps → l.ordered ≡ true → ordered_tasks K ≡ [] → Pends own o (K ++ (l ∷ L)) (sparse m) ps sh ss → Mended (sparse m) ps sh ss
  sparse_mended n m ps sh ss lim f ordered none r =
      let p = array_set own o K L l k v w task a n m [] ss ps (omega arith) f ordered none (λ g. refl) (λ j g. refl) r.1 in
      subst (λ z. Mended (sparse m) ps z ss) (sym r.0)
      (record { shape = array m; slots = with_key (key_text k) w ss }, array_assigned m k w ss (omega arith) p.0, (refl, subst (Front own (K ++ L) ps) (sym p.1) p.2))

  -- a dense array
  module _ (n m : ℕ) (ps : List Part) (ss : List Slot) (lim : m < 4294967296) (f : (m ≤ length ps) × All (ElementFormed n) (take m ps) × formed.Properties n 0 true (drop m ps)) (d : Dense own o (K ++ (l ∷ L)) m ps ss) where
    size : length (take m ps) ≡ m
    size = length-take-le m ps f.0

    no_index : {P : Type 0} (j : ℕ) → j < 0 → P
    no_index j g = absurd (omega arith)

    -- the names of its properties are no indexes
    names_only : (j : ℕ) → j < 4294967295 → has_key (decimal j) d.rest ≡ false
    names_only j s =
        lacks own n 0 true (decimal j) 0 d.properties.front d.rest all
        (λ k' v' i e. other k' (key_formed n 0 true k' v' (all_in (PropertyFormed n 0 true) all i)) e) d.properties.alike
      where
        all : All (PropertyFormed n 0 true) d.properties.front
        all = all_before (PropertyFormed n 0 true) d.properties.front d.properties.back (subst (All (PropertyFormed n 0 true)) d.properties.parts f.2.0)

        other : (k' : Key) → KeyFormed 0 true k' → decimal j ≡ key_text k' → ⊥
        other (index i) g e = no_index i g
        other (name t) g e = name_index t j g.1 s (sym e)

    element_mended : (j : ℕ) → k ≡ index j → ElementAt 0 (take m ps) j v → l.ordered ≡ false → Mended (dense m) ps (array m) ss
    element_mended j e at ordered =
        let b = (element_bounds at).1 in
        let s = size in
        let has : has_key (decimal j) d.first ≡ true = has_element own o w a at d.elements in
        let there : has_key (decimal j) (d.first ++ d.rest) ≡ true = has-++ (decimal j) d.first d.rest ∙ or_left (has_key (decimal j) d.first) (has_key (decimal j) d.rest) has in
        let slots : with_key (decimal j) w ss ≡ set_key (decimal j) w d.first ++ d.rest =
        ap (with_key (decimal j) w) d.slots
        ∙ cond-true (has_key (decimal j) (d.first ++ d.rest)) (set_key (decimal j) w (d.first ++ d.rest)) _ there
        ∙ set-++ (decimal j) w d.first d.rest
        ∙ ap (λ z. set_key (decimal j) w d.first ++ z) (set_absent (decimal j) w d.rest (names_only j (omega arith))) in
        subst (λ z. (u : Obj) × (assigned (key_text z) w (array m) ss ≡ Some u) × Pends own o (K ++ L) (dense m) ps u.shape u.slots) (sym e) (
          record { shape = array m; slots = with_key (decimal j) w ss },
          array_assigned m (index j) w ss (omega arith) (omega arith),
          (
            refl,
            record {
              first = set_key (decimal j) w d.first;
              rest = d.rest;
              slots = slots;
              elements = set_elements own o (K ++ (l ∷ L)) (K ++ L) j w (omega arith) (omega arith) (λ v' at'. subst (λ z. Alike own z w) (one_element at at' refl) a)
                  (λ i v' n u. waits_other o K L l (sets (index i) v') (λ x. n (let c : sets (index j) v ≡ sets (index i) v' = sym (task ∙ ap (λ z. sets z v) e) ∙ x in let y : i ≡ j = cc in y)) u) d.elements;
              properties = front_without (drop m ps) d.rest ordered d.properties;
            },
          ),
        )

    property_mended : l.ordered ≡ true → ordered_tasks K ≡ [] → Mended (dense m) ps (array m) ss
    property_mended ordered none =
        let s = size in
        let p = array_set own o K L l k v w task a n 0 d.first d.rest (drop m ps) (omega arith) f.2 ordered none (λ g. free k g) (λ j g. no_index j g) d.properties in (
          record { shape = array m; slots = with_key (key_text k) w ss },
          array_assigned m k w ss (omega arith) (wider k p.0),
          (
            refl,
            record {
              first = d.first;
              rest = d.rest ++ (keyed (key_text k) w ∷ []);
              slots = ap (with_key (key_text k) w) d.slots ∙ p.1 ∙ append_assoc d.first d.rest (keyed (key_text k) w ∷ []);
              elements = elements_waits own o (λ j v' u. waits_ordered o K L l (sets (index j) v') ordered u) d.elements;
              properties = p.2;
            },
          ),
        )
      where
        free : (k : Key) → KeyFormed 0 true k → has_key (key_text k) d.first ≡ false
        free (index i) g = no_index i g
        free (name t) g = elements_lack own o t g.1 (let s = size in omega arith) d.elements

        wider : (k : Key) → KeyFormed 0 true k → KeyFormed m true k
        wider (index i) g = no_index i g
        wider (name t) g = g

  dense_mended : (h : Heap) (order : List ℕ) (t n m : ℕ) (ps : List Part) (sh : Shape) (ss : List Slot) → m < 4294967296 → PartsFormed h n (dense m) ps → In l (lates_by h order o t (dense m) ps) →
      (l.ordered ≡ true → ordered_tasks K ≡ []) → Pends own o (K ++ (l ∷ L)) (dense m) ps sh ss → Mended (dense m) ps sh ss
  dense_mended h order t n m ps sh ss lim f i none r =
      subst (λ z. Mended (dense m) ps z ss) (sym r.0)
      (⊎_elim
      (λ (u : In l (late_elements h order o t 0 (take m ps))).
      let q = in_elements h order o t l 0 (take m ps) u in
      let c : sets (index q.0) q.1 ≡ sets k v = sym q.3 ∙ task in
      let e : k ≡ index q.0 = cc in
      let d : q.1 ≡ v = cc in
      element_mended n m ps ss lim f r.1 q.0 e (subst (ElementAt 0 (take m ps) q.0) d q.2) q.4)
      (λ (u : In l (late_properties h order true o t (drop m ps))).
      let q = in_properties h order o t l true (drop m ps) u in
      property_mended n m ps ss lim f r.1 q.4 (none q.4))
      (in-++ (late_elements h order o t 0 (take m ps)) i))

  -- an error: its cause and its stack
  module _ (e : ErrorName) (message stack : Option Text) (ps : List Part) (ss : List Slot) (f : length ps ≤ 1) (trace : Option Text) where
    cause_mended : k ≡ name (codes "cause") → In (cause v) ps → Failure own o (K ++ (l ∷ L)) e message stack ps (error e message trace) ss → Mended (heaps.error e message stack) ps (error e message trace) ss
    cause_mended c i r =
        subst (λ z. (u : Obj) × (assigned (key_text z) w (error e message trace) ss ≡ Some u) × Pends own o (K ++ L) (heaps.error e message stack) ps u.shape u.slots) (sym c) (
          record { shape = error e message trace; slots = single w ∷ [] },
          refl,
          record {
            trace = r.trace;
            shape = r.shape;
            stacked = ⊎_elim (λ x. inl x) (λ x. inr (x.0, waits_other o K L l (sets (name (codes "stack")) (stack_text stack)) (λ y. other (sym (task ∙ ap (λ z. sets z v) c) ∙ y)) x.1)) r.stacked;
            caused = inl (subst (λ z. AlikeParts own 0 z (single w ∷ [])) (sym (in_single ps f i)) (w, [], refl, a, refl));
          },
        )
      where
        other : {u v : Value} → sets (name (codes "cause")) u ≡ sets (name (codes "stack")) v → ⊥
        other y = let z : codes "cause" ≡ codes "stack" = cc in true≢false (ap (same_units (codes "cause")) z)

    message_in_lem : (stack : Option Text) (w : Val) → Alike own (stack_text stack) w → message_in w ≡ Some stack
    message_in_lem None w a = ap message_in a
    message_in_lem (Some s) w a = ap message_in a

    stack_mended : k ≡ name (codes "stack") → v ≡ stack_text stack → Failure own o (K ++ (l ∷ L)) e message stack ps (error e message trace) ss → Mended (heaps.error e message stack) ps (error e message trace) ss
    stack_mended c d r =
        subst (λ z. (u : Obj) × (assigned (key_text z) w (error e message trace) ss ≡ Some u) × Pends own o (K ++ L) (heaps.error e message stack) ps u.shape u.slots) (sym c) (
          record { shape = error e message stack; slots = ss },
          ap (λ z. and_then z (λ t. Some (record { shape = error e message t; slots = ss }))) (message_in_lem stack w (subst (λ z. Alike own z w) d a)),
          record {
            trace = stack;
            shape = refl;
            stacked = inl refl;
            caused = ⊎_elim (λ x. inl x) (λ x. inr (x.0, (x.1.0, x.1.1, waits_other o K L l (sets (name (codes "cause")) x.1.0) (λ y. other (sym (task ∙ ap (λ z. sets z v) c) ∙ y)) x.1.2))) r.caused;
          },
        )
      where
        other : {u v : Value} → sets (name (codes "stack")) u ≡ sets (name (codes "cause")) v → ⊥
        other y = let z : codes "stack" ≡ codes "cause" = cc in true≢false (ap (same_units (codes "stack")) z)

  error_mended : (h : Heap) (order : List ℕ) (t n : ℕ) (e : ErrorName) (message stack : Option Text) (ps : List Part) (sh : Shape) (ss : List Slot) → PartsFormed h n (heaps.error e message stack) ps →
      In l (lates_by h order o t (heaps.error e message stack) ps) → Failure own o (K ++ (l ∷ L)) e message stack ps sh ss → Mended (heaps.error e message stack) ps sh ss
  error_mended h order t n e message stack ps sh ss f i r =
      subst (λ z. Mended (heaps.error e message stack) ps z ss) (sym r.shape)
      (⊎_elim
      (λ (u : In l (late_causes h order o t ps)).
      let q = in_causes h order o t l ps u in
      let c : sets (name (codes "cause")) q.0 ≡ sets k v = sym q.2 ∙ task in
      let d : k ≡ name (codes "cause") = cc in
      let b : q.0 ≡ v = cc in
      cause_mended e message stack ps ss f.0 r.trace d (subst (λ z. In (cause z) ps) b q.1) same)
      (λ (u : In l (record { target = o; task = sets (name (codes "stack")) (stack_text stack); ordered = false } ∷ [])).
      ⊎_elim
      (λ (b : l ≡ record { target = o; task = sets (name (codes "stack")) (stack_text stack); ordered = false }).
      let c : sets (name (codes "stack")) (stack_text stack) ≡ sets k v = sym (ap (λ x. x.task) b) ∙ task in
      let d : k ≡ name (codes "stack") = cc in
      let g : v ≡ stack_text stack = cc in
      stack_mended e message stack ps ss f.0 r.trace d g same)
      (λ (j : In l []). elim j [ ])
      (in_cases u))
      (in-++ (late_causes h order o t ps) i))
    where
      same : Failure own o (K ++ (l ∷ L)) e message stack ps (error e message r.trace) ss
      same = record { trace = r.trace; shape = refl; stacked = r.stacked; caused = r.caused }

  no_member : {P : Type 0} (h : Heap) (order : List ℕ) (t : ℕ) (ps : List Part) → In l (late_members h order false o t ps) → P
  no_member {P = P} h order t ps i =
      ⊎_elim (λ (u : (x : Value) × (y : Value) × (l.task ≡ puts x y)). not_task {P = P} l.task (puts u.0 u.1) (sets k v) u.2 task (λ z. omega arith)) (λ (u : (x : Value) × (l.task ≡ adds x)). not_task {P = P} l.task (adds u.0) (sets k v) u.1 task (λ z. omega arith))
      (in_members h order o t l false ps i).0

  sets_mended : (h : Heap) (order : List ℕ) (t n : ℕ) (kd : Kind) (ps : List Part) (sh : Shape) (ss : List Slot) → KindFormed kd → PartsFormed h n kd ps → In l (lates_by h order o t kd ps) →
      (l.ordered ≡ true → ordered_tasks K ≡ []) → Pends own o (K ++ (l ∷ L)) kd ps sh ss → Mended kd ps sh ss
  sets_mended h order t n (boolean_object x) ps sh ss g f i none r = elim i [ ]
  sets_mended h order t n (number_object bits) ps sh ss g f i none r = elim i [ ]
  sets_mended h order t n (bigint_object x) ps sh ss g f i none r = elim i [ ]
  sets_mended h order t n (string_object x) ps sh ss g f i none r = elim i [ ]
  sets_mended h order t n (heaps.regexp x flags) ps sh ss g f i none r = elim i [ ]
  sets_mended h order t n (heaps.date time) ps sh ss g f i none r = elim i [ ]
  sets_mended h order t n plain ps sh ss g f i none r =
      let q = in_properties h order o t l false ps i in
      let c : sets q.0 q.1 ≡ sets k v = sym q.3 ∙ task in
      let d : property q.0 q.1 ≡ property k v = cc in
      plain_mended n ps sh ss f (subst (λ z. In z ps) d q.2) r
  sets_mended h order t n (sparse m) ps sh ss g f i none r = let q = in_properties h order o t l true ps i in sparse_mended n m ps sh ss g f q.4 (none q.4) r
  sets_mended h order t n (dense m) ps sh ss g f i none r = dense_mended h order t n m ps sh ss g f i none r
  sets_mended h order t n map ps sh ss g f i none r = no_member h order t ps i
  sets_mended h order t n set ps sh ss g f i none r = no_member h order t ps i
  sets_mended h order t n (heaps.buffer bytes maximum) ps sh ss g f i none r = not_task l.task (fills _) (sets k v) (in_bytes h order o t l bytes maximum i).3 task (λ z. omega arith)
  sets_mended h order t n (heaps.view x offset m tracking) ps sh ss g f i none r = elim i [ ]
  sets_mended h order t n (heaps.error e message stack) ps sh ss g f i none r = error_mended h order t n e message stack ps sh ss f i r

-- a key set: `v[k] = w`
pub sets_done : (h : Heap) (order : List ℕ) (own : Pairing) (o : ℕ) (K L : List Late) (l : Late) (x : Obj) (k : Key) (v : Value) (w : Val) → Bounded h → o < length h.objects → In l (lates h order o) →
    (l.ordered ≡ true → ordered_tasks K ≡ []) → Pending h own o (K ++ (l ∷ L)) x → l.task ≡ sets k v → Alike own v w →
    (u : Obj) × (assigned (key_text k) w x.shape x.slots ≡ Some u) × Pending h own o (K ++ L) u
sets_done h order own o K L l x k v w f lt i none r task a =
    let g = formed_at h f o in
    sets_mended own o K L l k v w task a h order (slot h order o) (length h.objects) (object_at h o).kind (object_at h o).parts x.shape x.slots g.0 g.1 i none r
