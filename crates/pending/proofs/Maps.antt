-- A follow-up that adds an entry to a Map or a member to a Set runs, and its object lacks it no more.
use Rattle.std.proofs.Common.{◌≡◌, ℕ, ◌<◌, true, false, List, [], ◌∷◌, ◌++◌, length, sym, refl, ap, ◌∙◌, subst, arith}
use Rattle.std.specs.List.{AllByRecursion as All}
use Rattle.std.proofs.ByRecursion.{All-weaker}
use Rattle.std.proofs.lemmas.Bool.{or_from, cond-false}
use Rattle.dump.specs.Heaps as heaps
use Rattle.dump.specs.Heaps.{Value, Kind, boolean_object, number_object, bigint_object, string_object, plain, sparse, dense, map, set, Part, property, element, entry, member, below, cause, Heap}
use Rattle.formed.specs.Formed.{Pairwise, ValueFormed, Kept, EntryFormed, MemberFormed, EntryApart, MemberApart, PartsFormed}
use Rattle.formed.proofs.SameValues.{same_value_sym}
use Rattle.planner.specs.Visits.{object_at}
use Rattle.planner.specs.Names.{slot}
use Rattle.planner.specs.Lates.{Task, sets, puts, adds, fills, Late, lates_by, lates}
use Rattle.evaluator.specs.Stores.{Val, ref, Shape, mapping, setting, Slot, pair, single, Obj, State, made, change, same_zero, has_member, set_member, map_set, set_add}
use Rattle.evaluator.specs.Makes.{set_pair, add_one}
use Rattle.evaluator.specs.Isomorphic.{Pairing, Alike, AlikeParts}
use Rattle.rebuilds.specs.Pending.{In, ordered_tasks, part_tasks, Front, Pends, Pending}
use Rattle.pending.proofs.Lists.{all_before, all_behind, pairwise_before}
use Rattle.pending.proofs.Keys.{keys_apart, kept_plus}
use Rattle.pending.proofs.Lates.{not_task, task_of}
use Rattle.pending.proofs.Fronts.{Adds, Added, entry_added, member_added, Next, front_next, next_added}
use Rattle.effects.proofs.Objects.{formed_at}
use Rattle.effects.specs.Bounded.{Bounded}

-- a key that differs from those of all entries, and a member from all members
module _ (own : Pairing) (n : ℕ) (a : Value) (w : Val) (f : ValueFormed n a) (same : Alike own a w) where
  entries_lack : (b : Value) (i : ℕ) (ps : List Part) (ss : List Slot) → All (EntryFormed n) ps → All (λ p. EntryApart p (entry a b)) ps → AlikeParts own i ps ss → has_member w ss ≡ false
  entries_lack b i [] ss g apart r = ap (has_member w) r
  entries_lack b i (entry k v ∷ ps) ss g apart r =
      ap (has_member w) r.3
      ∙ or_from (same_zero w r.0) (has_member w r.2)
      (keys_apart own n a k w r.0 f (let e = g.0.2 in let d : g.0.0 ≡ k = cc in subst (ValueFormed n) d g.0.3.0) same r.4 (λ s. apart.0 k a v b refl refl (same_value_sym a k s)))
      (entries_lack b i ps r.2 g.1 apart.1 r.6)
  entries_lack b i (property k v ∷ ps) ss g apart r = absurd (let e = g.0.2 in let z : ◌≡◌ {A = ℕ} 0 1 = cc in omega arith)
  entries_lack b i (element v ∷ ps) ss g apart r = absurd (let e = g.0.2 in let z : ◌≡◌ {A = ℕ} 0 1 = cc in omega arith)
  entries_lack b i (member v ∷ ps) ss g apart r = absurd (let e = g.0.2 in let z : ◌≡◌ {A = ℕ} 0 1 = cc in omega arith)
  entries_lack b i (below o ∷ ps) ss g apart r = absurd (let e = g.0.2 in let z : ◌≡◌ {A = ℕ} 0 1 = cc in omega arith)
  entries_lack b i (cause v ∷ ps) ss g apart r = absurd (let e = g.0.2 in let z : ◌≡◌ {A = ℕ} 0 1 = cc in omega arith)

  members_lack : (i : ℕ) (ps : List Part) (ss : List Slot) → All (MemberFormed n) ps → All (λ p. MemberApart p (member a)) ps → AlikeParts own i ps ss → has_member w ss ≡ false
  members_lack i [] ss g apart r = ap (has_member w) r
  members_lack i (member v ∷ ps) ss g apart r =
      ap (has_member w) r.2
      ∙ or_from (same_zero w r.0) (has_member w r.1)
      (keys_apart own n a v w r.0 f (let e = g.0.1 in let d : g.0.0 ≡ v = cc in subst (ValueFormed n) d g.0.2.0) same r.3 (λ s. apart.0 v a refl refl (same_value_sym a v s)))
      (members_lack i ps r.1 g.1 apart.1 r.4)
  members_lack i (property k v ∷ ps) ss g apart r = absurd (let e = g.0.1 in let z : ◌≡◌ {A = ℕ} 0 1 = cc in omega arith)
  members_lack i (element v ∷ ps) ss g apart r = absurd (let e = g.0.1 in let z : ◌≡◌ {A = ℕ} 0 1 = cc in omega arith)
  members_lack i (entry k v ∷ ps) ss g apart r = absurd (let e = g.0.1 in let z : ◌≡◌ {A = ℕ} 0 1 = cc in omega arith)
  members_lack i (below o ∷ ps) ss g apart r = absurd (let e = g.0.1 in let z : ◌≡◌ {A = ℕ} 0 1 = cc in omega arith)
  members_lack i (cause v ∷ ps) ss g apart r = absurd (let e = g.0.1 in let z : ◌≡◌ {A = ℕ} 0 1 = cc in omega arith)

-- the part that the next task in order adds
next_entry : (n : ℕ) (t : Task) (p : Part) → EntryFormed n p → Adds t p → (a : Value) × (b : Value) × (p ≡ entry a b) × (t ≡ puts a b) × Kept n a
next_entry n t p f g =
    let d : puts f.0 f.1 ∷ [] ≡ t ∷ [] = sym (ap (λ z. part_tasks (z ∷ [])) f.2) ∙ g [] in
    let c : t ≡ puts f.0 f.1 = cc in
    (f.0, f.1, f.2, c, f.3)

next_member : (n : ℕ) (t : Task) (p : Part) → MemberFormed n p → Adds t p → (a : Value) × (p ≡ member a) × (t ≡ adds a) × Kept n a
next_member n t p f g =
    let d : adds f.0 ∷ [] ≡ t ∷ [] = sym (ap (λ z. part_tasks (z ∷ [])) f.1) ∙ g [] in
    let c : t ≡ adds f.0 = cc in
    (f.0, f.1, c, f.2)

module _ (own : Pairing) (o : ℕ) (K L : List Late) (l : Late) where
  -- the next part of a Map and of a Set
  module _ (n : ℕ) (ps : List Part) (ss : List Slot) (ordered : l.ordered ≡ true) (none : ordered_tasks K ≡ []) where
    pub record NextEntry : Type 0 where
      pub next : Next own K L l.task ps ss
      pub key : Value
      pub value : Value
      pub part : next.part ≡ entry key value
      pub task : l.task ≡ puts key value
      pub kept : Kept n key
      pub front : All (EntryFormed n) next.front
      pub apart : All (λ p. EntryApart p (entry key value)) next.front

    map_next : All (EntryFormed n) ps × Pairwise EntryApart ps → Front own (K ++ (l ∷ L)) ps ss → NextEntry
    map_next f r =
        let next = front_next own K L l ps ss (All-weaker (EntryFormed n) Added (entry_added n) ps f.0) ordered none r in
        let all = subst (All (EntryFormed n)) next.parts f.0 in
        let q = next_entry n l.task next.part (all_behind (EntryFormed n) next.front (next.part ∷ next.back) all).0 next.adds in
        record {
          next = next;
          key = q.0;
          value = q.1;
          part = q.2;
          task = q.3;
          kept = q.4;
          front = all_before (EntryFormed n) next.front (next.part ∷ next.back) all;
          apart = subst (λ z. All (λ p. EntryApart p z) next.front) q.2 (pairwise_before EntryApart next.front next.part next.back (subst (Pairwise EntryApart) next.parts f.1));
        }

    pub record NextMember : Type 0 where
      pub next : Next own K L l.task ps ss
      pub value : Value
      pub part : next.part ≡ member value
      pub task : l.task ≡ adds value
      pub kept : Kept n value
      pub front : All (MemberFormed n) next.front
      pub apart : All (λ p. MemberApart p (member value)) next.front

    set_next : All (MemberFormed n) ps × Pairwise MemberApart ps → Front own (K ++ (l ∷ L)) ps ss → NextMember
    set_next f r =
        let next = front_next own K L l ps ss (All-weaker (MemberFormed n) Added (member_added n) ps f.0) ordered none r in
        let all = subst (All (MemberFormed n)) next.parts f.0 in
        let q = next_member n l.task next.part (all_behind (MemberFormed n) next.front (next.part ∷ next.back) all).0 next.adds in
        record {
          next = next;
          value = q.0;
          part = q.1;
          task = q.2;
          kept = q.3;
          front = all_before (MemberFormed n) next.front (next.part ∷ next.back) all;
          apart = subst (λ z. All (λ p. MemberApart p z) next.front) q.1 (pairwise_before MemberApart next.front next.part next.back (subst (Pairwise MemberApart) next.parts f.1));
        }

  module _ (a b : Value) (wa wb : Val) (task : l.task ≡ puts a b) (same : Alike own a wa) (same' : Alike own b wb) where
    abbrev Put : Kind → List Part → Shape → List Slot → Type 0
    Put kd ps sh ss = (u : Obj) × ((p : ℕ) (s : State) → set_pair p sh ss (wa ∷ wb ∷ []) s ≡ made (ref p) (change p u s)) × Pends own o (K ++ L) kd ps u.shape u.slots

    map_put : (n : ℕ) (ps : List Part) (sh : Shape) (ss : List Slot) → All (EntryFormed n) ps × Pairwise EntryApart ps → l.ordered ≡ true → ordered_tasks K ≡ [] → Pends own o (K ++ (l ∷ L)) map ps sh ss → Put map ps sh ss
    map_put n ps sh ss f ordered none r =
        let q = map_next n ps ss ordered none f r.1 in
        let c : puts q.key q.value ≡ puts a b = sym q.task ∙ task in
        let d : q.key ≡ a = cc in
        let e : entry q.key q.value ≡ entry a b = cc in
        let kept : Kept n a = subst (Kept n) d q.kept in
        let lack : has_member wa ss ≡ false = entries_lack own n a wa kept.0 same b 0 q.next.front ss q.front (subst (λ z. All (λ p. EntryApart p z) q.next.front) e q.apart) q.next.alike in
        let slots : map_set wa wb ss ≡ ss ++ (pair wa wb ∷ []) = cond-false (has_member wa ss) (set_member wa wb ss) _ lack ∙ ap (λ z. ss ++ (pair z wb ∷ [])) (kept_plus own n a wa kept same) in
        subst (λ z. Put map ps z ss) (sym r.0) (
          record { shape = mapping; slots = map_set wa wb ss },
          (λ p s. refl),
          (
            refl,
            subst (Front own (K ++ L) ps) (sym slots)
                (next_added own K L l.task ps ss (pair wa wb ∷ []) q.next (λ j. subst (λ z. AlikeParts own j (z ∷ []) (pair wa wb ∷ [])) (sym (q.part ∙ e)) (wa, wb, [], refl, same, same', refl))),
          ),
        )

    puts_mended : (h : Heap) (order : List ℕ) (t n : ℕ) (kd : Kind) (ps : List Part) (sh : Shape) (ss : List Slot) → PartsFormed h n kd ps → In l (lates_by h order o t kd ps) →
        (l.ordered ≡ true → ordered_tasks K ≡ []) → Pends own o (K ++ (l ∷ L)) kd ps sh ss → Put kd ps sh ss
    puts_mended h order t n (boolean_object x) ps sh ss f i none r = elim i [ ]
    puts_mended h order t n (number_object bits) ps sh ss f i none r = elim i [ ]
    puts_mended h order t n (bigint_object x) ps sh ss f i none r = elim i [ ]
    puts_mended h order t n (string_object x) ps sh ss f i none r = elim i [ ]
    puts_mended h order t n (heaps.regexp x flags) ps sh ss f i none r = elim i [ ]
    puts_mended h order t n (heaps.date time) ps sh ss f i none r = elim i [ ]
    puts_mended h order t n plain ps sh ss f i none r = let q = task_of h order o t l plain ps i in not_task l.task (sets q.0 q.1) _ q.2 task (λ z. omega arith)
    puts_mended h order t n (sparse m) ps sh ss f i none r = let q = task_of h order o t l (sparse m) ps i in not_task l.task (sets q.0 q.1) _ q.2 task (λ z. omega arith)
    puts_mended h order t n (dense m) ps sh ss f i none r = let q = task_of h order o t l (dense m) ps i in not_task l.task (sets q.0 q.1) _ q.2 task (λ z. omega arith)
    puts_mended h order t n map ps sh ss f i none r = let q = task_of h order o t l map ps i in map_put n ps sh ss f q.1 (none q.1) r
    puts_mended h order t n set ps sh ss f i none r = let q = task_of h order o t l set ps i in let m = set_next n ps ss q.1 (none q.1) f r.1 in not_task l.task (adds m.value) _ m.task task (λ z. omega arith)
    puts_mended h order t n (heaps.buffer bytes maximum) ps sh ss f i none r = let q = task_of h order o t l (heaps.buffer bytes maximum) ps i in not_task l.task (fills _) _ q.3 task (λ z. omega arith)
    puts_mended h order t n (heaps.view x offset m tracking) ps sh ss f i none r = elim i [ ]
    puts_mended h order t n (heaps.error e message stack) ps sh ss f i none r = let q = task_of h order o t l (heaps.error e message stack) ps i in not_task l.task (sets q.0 q.1) _ q.2 task (λ z. omega arith)

  module _ (a : Value) (w : Val) (task : l.task ≡ adds a) (same : Alike own a w) where
    abbrev Add : Kind → List Part → Shape → List Slot → Type 0
    Add kd ps sh ss = (u : Obj) × ((p : ℕ) (s : State) → add_one p sh ss (w ∷ []) s ≡ made (ref p) (change p u s)) × Pends own o (K ++ L) kd ps u.shape u.slots

    set_add_lem : (n : ℕ) (ps : List Part) (sh : Shape) (ss : List Slot) → All (MemberFormed n) ps × Pairwise MemberApart ps → l.ordered ≡ true → ordered_tasks K ≡ [] → Pends own o (K ++ (l ∷ L)) set ps sh ss → Add set ps sh ss
    set_add_lem n ps sh ss f ordered none r =
        let q = set_next n ps ss ordered none f r.1 in
        let c : adds q.value ≡ adds a = sym q.task ∙ task in
        let d : q.value ≡ a = cc in
        let kept : Kept n a = subst (Kept n) d q.kept in
        let lack : has_member w ss ≡ false = members_lack own n a w kept.0 same 0 q.next.front ss q.front (subst (λ z. All (λ p. MemberApart p (member z)) q.next.front) d q.apart) q.next.alike in
        let slots : set_add w ss ≡ ss ++ (single w ∷ []) = cond-false (has_member w ss) ss _ lack ∙ ap (λ z. ss ++ (single z ∷ [])) (kept_plus own n a w kept same) in
        subst (λ z. Add set ps z ss) (sym r.0) (
          record { shape = setting; slots = set_add w ss },
          (λ p s. refl),
          (
            refl,
            subst (Front own (K ++ L) ps) (sym slots)
                (next_added own K L l.task ps ss (single w ∷ []) q.next (λ j. subst (λ z. AlikeParts own j (z ∷ []) (single w ∷ [])) (sym (q.part ∙ ap member d)) (w, [], refl, same, refl))),
          ),
        )

    adds_mended : (h : Heap) (order : List ℕ) (t n : ℕ) (kd : Kind) (ps : List Part) (sh : Shape) (ss : List Slot) → PartsFormed h n kd ps → In l (lates_by h order o t kd ps) →
        (l.ordered ≡ true → ordered_tasks K ≡ []) → Pends own o (K ++ (l ∷ L)) kd ps sh ss → Add kd ps sh ss
    adds_mended h order t n (boolean_object x) ps sh ss f i none r = elim i [ ]
    adds_mended h order t n (number_object bits) ps sh ss f i none r = elim i [ ]
    adds_mended h order t n (bigint_object x) ps sh ss f i none r = elim i [ ]
    adds_mended h order t n (string_object x) ps sh ss f i none r = elim i [ ]
    adds_mended h order t n (heaps.regexp x flags) ps sh ss f i none r = elim i [ ]
    adds_mended h order t n (heaps.date time) ps sh ss f i none r = elim i [ ]
    adds_mended h order t n plain ps sh ss f i none r = let q = task_of h order o t l plain ps i in not_task l.task (sets q.0 q.1) _ q.2 task (λ z. omega arith)
    adds_mended h order t n (sparse m) ps sh ss f i none r = let q = task_of h order o t l (sparse m) ps i in not_task l.task (sets q.0 q.1) _ q.2 task (λ z. omega arith)
    adds_mended h order t n (dense m) ps sh ss f i none r = let q = task_of h order o t l (dense m) ps i in not_task l.task (sets q.0 q.1) _ q.2 task (λ z. omega arith)
    adds_mended h order t n map ps sh ss f i none r = let q = task_of h order o t l map ps i in let m = map_next n ps ss q.1 (none q.1) f r.1 in not_task l.task (puts m.key m.value) _ m.task task (λ z. omega arith)
    adds_mended h order t n set ps sh ss f i none r = let q = task_of h order o t l set ps i in set_add_lem n ps sh ss f q.1 (none q.1) r
    adds_mended h order t n (heaps.buffer bytes maximum) ps sh ss f i none r = let q = task_of h order o t l (heaps.buffer bytes maximum) ps i in not_task l.task (fills _) _ q.3 task (λ z. omega arith)
    adds_mended h order t n (heaps.view x offset m tracking) ps sh ss f i none r = elim i [ ]
    adds_mended h order t n (heaps.error e message stack) ps sh ss f i none r = let q = task_of h order o t l (heaps.error e message stack) ps i in not_task l.task (sets q.0 q.1) _ q.2 task (λ z. omega arith)

-- an entry put: `v.set(a, b)`
pub puts_done : (h : Heap) (order : List ℕ) (own : Pairing) (o : ℕ) (K L : List Late) (l : Late) (x : Obj) (a b : Value) (wa wb : Val) → Bounded h → o < length h.objects → In l (lates h order o) →
    (l.ordered ≡ true → ordered_tasks K ≡ []) → Pending h own o (K ++ (l ∷ L)) x → l.task ≡ puts a b → Alike own a wa → Alike own b wb →
    (u : Obj) × ((p : ℕ) (s : State) → set_pair p x.shape x.slots (wa ∷ wb ∷ []) s ≡ made (ref p) (change p u s)) × Pending h own o (K ++ L) u
puts_done h order own o K L l x a b wa wb f lt i none r task same same' =
    puts_mended own o K L l a b wa wb task same same' h order (slot h order o) (length h.objects) (object_at h o).kind (object_at h o).parts x.shape x.slots (formed_at h f o).1 i none r

-- a member added: `v.add(a)`
pub adds_done : (h : Heap) (order : List ℕ) (own : Pairing) (o : ℕ) (K L : List Late) (l : Late) (x : Obj) (a : Value) (w : Val) → Bounded h → o < length h.objects → In l (lates h order o) →
    (l.ordered ≡ true → ordered_tasks K ≡ []) → Pending h own o (K ++ (l ∷ L)) x → l.task ≡ adds a → Alike own a w →
    (u : Obj) × ((p : ℕ) (s : State) → add_one p x.shape x.slots (w ∷ []) s ≡ made (ref p) (change p u s)) × Pending h own o (K ++ L) u
adds_done h order own o K L l x a w f lt i none r task same =
    adds_mended own o K L l a w task same h order (slot h order o) (length h.objects) (object_at h o).kind (object_at h o).parts x.shape x.slots (formed_at h f o).1 i none r
