-- Edges of a visit's order: each goes to a smaller place, or turns and then its object needs a name and its target is used twice; what inlines has no such edge and is used once.
use Rattle.std.proofs.Common.{◌≡◌, ℕ, ◌+◌, ◌<◌, ◌≤◌, Bool, true, false, not, eqb, ltb, leb, ◌⊎◌, List, [], ◌∷◌, length, sym, refl, ap, ◌∙◌, subst, inl, inr, ⊎_elim, arith, eq-eqb, eqb-true}
use Rattle.std.proofs.lemmas.Bool.{cases_lt, or_cases, both_ways, or_right, or_left, and_parts, not-true, le-leb, ltb-true}
use Rattle.dump.specs.Heaps.{Heap}
use Rattle.planner.specs.Visits.{refs, edges, object_at, mem, visit, reached, order}
use Rattle.planner.specs.Names.{place_in, count, any, kind_needs_name, uses_by, uses, turns, needs_name, inlines}
use Rattle.visits.specs.Stands.{Reach, at_root, by_edge}
use Rattle.visits.proofs.Lists.{count_mem, split_at, once_before}
use Rattle.visits.proofs.Orders.{place_before}
use Rattle.visits.proofs.Visits.{InRange, Other, Twice, Visited, visited, at_split, reached_in}

-- a test that holds of a member holds of some
pub any_mem : (p : ℕ → Bool) (x : ℕ) (xs : List ℕ) → mem x xs ≡ true → p x ≡ true → any p xs ≡ true
any_mem p x [] e t = absurd (both_ways false refl e)
any_mem p x (y ∷ xs) e t =
    ⊎_elim
    (λ (a : eqb x y ≡ true). or_left (p y) (any p xs) (subst (λ z. p z ≡ true) (eqb-true x y a) t))
    (λ (b : mem x xs ≡ true). or_right (p y) (any p xs) (any_mem p x xs b t))
    (or_cases (eqb x y) (mem x xs) e)

module _ (h : Heap) (order : List ℕ) (j : ℕ) where
  -- an edge of a member of the list is a use
  pub uses_in : (p : ℕ) (xs : List ℕ) → mem p xs ≡ true → 1 ≤ count j (edges h p) → 1 ≤ uses_by h order xs j
  uses_in p [] e le = absurd (both_ways false refl e)
  uses_in p (x ∷ xs) e le =
      ⊎_elim
      (λ (a : eqb p x ≡ true). let l : 1 ≤ count j (edges h x) = subst (λ z. 1 ≤ count j (edges h z)) (eqb-true p x a) le in omega arith)
      (λ (b : mem p xs ≡ true). let ih = uses_in p xs b le in omega arith)
      (or_cases (eqb p x) (mem p xs) e)

  -- edges of two members are two uses
  pub uses_two : (p i : ℕ) (xs : List ℕ) → (p ≡ i → ⊥) → mem p xs ≡ true → mem i xs ≡ true → 1 ≤ count j (edges h p) → 1 ≤ count j (edges h i) → 2 ≤ uses_by h order xs j
  uses_two p i [] n e d le li = absurd (both_ways false refl e)
  uses_two p i (x ∷ xs) n e d le li =
      ⊎_elim
      (λ (a : eqb p x ≡ true).
      let l : 1 ≤ count j (edges h x) = subst (λ z. 1 ≤ count j (edges h z)) (eqb-true p x a) le in
      let m = uses_in i xs (⊎_elim (λ (b : eqb i x ≡ true). absurd (n (eqb-true p x a ∙ sym (eqb-true i x b)))) (λ c. c) (or_cases (eqb i x) (mem i xs) d)) li in
      omega arith)
      (λ (a : mem p xs ≡ true). ⊎_elim
      (λ (b : eqb i x ≡ true). let l : 1 ≤ count j (edges h x) = subst (λ z. 1 ≤ count j (edges h z)) (eqb-true i x b) li in let m = uses_in p xs a le in omega arith)
      (λ (b : mem i xs ≡ true). let ih = uses_two p i xs n a b le li in omega arith) (or_cases (eqb i x) (mem i xs) d))
      (or_cases (eqb p x) (mem p xs) e)

-- an object with an edge that turns needs a name, in any order
pub turn_named : (h : Heap) (order : List ℕ) (i j : ℕ) → mem j (edges h i) ≡ true → place_in order i ≤ place_in order j → needs_name h order i ≡ true
turn_named h order i j u le =
    or_right (kind_needs_name (object_at h i).kind (length (object_at h i).parts)) (turns h order i)
    (any_mem (λ y. leb (place_in order i) (place_in order y)) j (edges h i) u (le-leb (place_in order i) (place_in order j) le))

-- what inlines needs no name, in any order
pub inlines_unnamed : (h : Heap) (order : List ℕ) (x : ℕ) → inlines h order x ≡ true → needs_name h order x ≡ false
inlines_unnamed h order x e = not-true (needs_name h order x) (and_parts (not (needs_name h order x)) (ltb (uses h order x) 2) e).0

-- what inlines is used at most once, in any order
pub inlines_once : (h : Heap) (order : List ℕ) (x : ℕ) → inlines h order x ≡ true → count x (refs h.root) + uses_by h order order x ≤ 1
inlines_once h order x e =
    let lt = ltb-true (uses h order x) 2 (and_parts (not (needs_name h order x)) (ltb (uses h order x) 2) e).1 in
    omega arith

-- each edge of what inlines goes to a smaller place, in any order
pub inlines_back : (h : Heap) (order : List ℕ) (x j : ℕ) → inlines h order x ≡ true → mem j (edges h x) ≡ true → place_in order j < place_in order x
inlines_back h order x j e u =
    ⊎_elim (λ (a : place_in order j < place_in order x). a)
    (λ (b : place_in order x ≤ place_in order j). absurd (both_ways (needs_name h order x) (inlines_unnamed h order x e) (turn_named h order x j u b)))
    (cases_lt (place_in order j) (place_in order x))

module _ (h : Heap) (r : ℕ) (post : List ℕ) (V : Visited h r post) where
  -- an edge of a reached object goes to a smaller place, or its target was still being visited
  pub goes : (i j : ℕ) → mem i post ≡ true → mem j (edges h i) ≡ true → (place_in post j < place_in post i) ⊎ Twice h r (λ x. mem x post) i j
  goes i j m u =
      let s = split_at i post m in
      let n = once_before i post s.before s.after (V.nodup i) s.whole in
      ⊎_elim (λ (a : mem j s.before ≡ true). inl (place_before i post s.before s.after s.whole n j a)) (λ b. inr b)
      (at_split h r (λ x. mem x post) V.ordered s.before i s.after s.whole j u)

  -- an edge that turns goes to an object that was still being visited
  pub turns_to : (i j : ℕ) → mem i post ≡ true → mem j (edges h i) ≡ true → place_in post i ≤ place_in post j → Twice h r (λ x. mem x post) i j
  turns_to i j m u le = ⊎_elim (λ (a : place_in post j < place_in post i). absurd (omega arith)) (λ b. b) (goes i j m u)

  -- the target of an edge that turns reaches the edge's object: the edge closes a cycle
  pub turn_cycle : (i j : ℕ) → mem i post ≡ true → mem j (edges h i) ≡ true → place_in post i ≤ place_in post j → Reach h j i
  turn_cycle i j m u le = (turns_to i j m u le).1

  module _ (root : refs h.root ≡ r ∷ []) where
    -- the target of an edge that turns is used twice
    pub turn_uses : (i j : ℕ) → mem i post ≡ true → mem j (edges h i) ≡ true → place_in post i ≤ place_in post j → 2 ≤ uses h post j
    turn_uses i j m u le =
        let t = turns_to i j m u le in
        let one = count_mem j (edges h i) u in
        let w = uses_in h post j i post m one in
        let c = ap (count j) root in
        ⊎_elim (λ (a : j ≡ r). let e = eq-eqb j r a in grind arith)
        (λ (o : Other h (λ x. mem x post) i j). let two = uses_two h post j o.p i post o.apart o.seen_p m (count_mem j (edges h o.p) o.edge) one in omega arith) t.2

    -- no edge to what inlines turns
    pub inlines_ahead : (i x : ℕ) → inlines h post x ≡ true → mem i post ≡ true → mem x (edges h i) ≡ true → place_in post x < place_in post i
    inlines_ahead i x e m u =
        ⊎_elim (λ (a : place_in post x < place_in post i). a)
        (λ (b : place_in post i ≤ place_in post x). absurd (let two = turn_uses i x m u b in let one = inlines_once h post x e in omega arith))
        (cases_lt (place_in post x) (place_in post i))

    -- what is reached is used, by the root or by an edge
    pub used : (x : ℕ) → mem x post ≡ true → 1 ≤ uses h post x
    used x m = by_reach x (V.reach x m)
      where
        by_reach : (y : ℕ) → Reach h r y → 1 ≤ uses h post y
        by_reach y at_root = let c = ap (count r) root in let e = eq-eqb r r refl in grind arith
        by_reach y (by_edge {i = i} t u) = let w = uses_in h post y i post (reached_in h r post V i t) (count_mem y (edges h i) u) in omega arith

    -- what is reached and inlines is used just once
    pub inlines_used : (x : ℕ) → inlines h post x ≡ true → mem x post ≡ true → count x (refs h.root) + uses_by h post post x ≡ 1
    inlines_used x e m = let a = used x m in let b = inlines_once h post x e in omega arith

-- the order of a heap whose root is an object is the visit from it
pub order_visit : (h : Heap) (r : ℕ) → refs h.root ≡ r ∷ [] → order h ≡ visit h r
order_visit h r root = ap (reached h) root

-- The same of the visit itself.
module _ (h : Heap) (r : ℕ) (wf : InRange h) (lt : r < length h.objects) where
  -- an edge goes to a smaller place, or it turns and its target reaches its object
  pub visit_goes : (i j : ℕ) → mem i (visit h r) ≡ true → mem j (edges h i) ≡ true →
      (place_in (visit h r) j < place_in (visit h r) i) ⊎ ((place_in (visit h r) i ≤ place_in (visit h r) j) × Reach h j i)
  visit_goes i j m u =
      ⊎_elim (λ a. inl a) (λ (b : place_in (visit h r) i ≤ place_in (visit h r) j). inr (b, turn_cycle h r (visit h r) (visited h r wf lt) i j m u b))
      (cases_lt (place_in (visit h r) j) (place_in (visit h r) i))

  -- the target of an edge that turns is used twice
  pub visit_turn_uses : refs h.root ≡ r ∷ [] → (i j : ℕ) → mem i (visit h r) ≡ true → mem j (edges h i) ≡ true → place_in (visit h r) i ≤ place_in (visit h r) j → 2 ≤ uses h (visit h r) j
  visit_turn_uses root = turn_uses h r (visit h r) (visited h r wf lt) root

  -- no edge to what inlines turns
  pub visit_inlines_ahead : refs h.root ≡ r ∷ [] → (i x : ℕ) → inlines h (visit h r) x ≡ true → mem i (visit h r) ≡ true → mem x (edges h i) ≡ true → place_in (visit h r) x < place_in (visit h r) i
  visit_inlines_ahead root = inlines_ahead h r (visit h r) (visited h r wf lt) root

  -- what is reached and inlines is used just once
  pub visit_inlines_used : refs h.root ≡ r ∷ [] → (x : ℕ) → inlines h (visit h r) x ≡ true → mem x (visit h r) ≡ true → count x (refs h.root) + uses_by h (visit h r) (visit h r) x ≡ 1
  visit_inlines_used root = inlines_used h r (visit h r) (visited h r wf lt) root
