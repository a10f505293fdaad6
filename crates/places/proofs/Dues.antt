-- When follow-ups are due: after all names in them are bound, at a place that has a line, and the ordered ones of an object in their order.
use Rattle.std.proofs.Common.{◌≡◌, ℕ, ◌<◌, ◌≤◌, max, Bool, true, false, cond, eqb, leb, ◌⊎◌, List, [], ◌∷◌, ◌++◌, sym, refl, ap, ◌∙◌, subst, inl, inr, ⊎_elim, arith, eqb-true}
use Rattle.std.proofs.lemmas.Bool.{cases_lt, or_cases, both_ways, cond-true, le-leb}
use Rattle.dump.specs.declared.kinds.ViewKind.{ViewKind}
use Rattle.dump.specs.Heaps.{Value, undefined, null, hole, boolean, whole, double, bigint, text, object, Heap}
use Rattle.planner.specs.Visits.{refs, mem}
use Rattle.planner.specs.Names.{pos, slot, has_name}
use Rattle.planner.specs.Lates.{Task, sets, puts, adds, fills, Late, lates, slots, task_slot, own_due, due}
use Rattle.planner.specs.Lines.{has_line}
use Rattle.visits.proofs.Lists.{mem-++, mem_left, mem_right, mem_head}
use Rattle.rebuilds.specs.Adequate.{Adequate}
use Rattle.rebuilds.specs.Makes.{task_refs}
use Rattle.rebuilds.specs.Pending.{In, here, there, due_from}
use Rattle.places.proofs.Ins.{in_nil, in_cons, in_middle}
use Rattle.places.proofs.Lates.{late_target, late_refs}
use Rattle.places.proofs.Lines.{bound_at}
use Rattle.effects.specs.Bounded.{Bounded}

-- the follow-ups without the slots at which they are due
abbrev pub lates_in : List (ℕ × Late) → List Late
lates_in [] = []
lates_in (d ∷ ds) = d.1 ∷ lates_in ds

-- a pair that is first or among the others
pair_cases : {d e : ℕ} {l m : Late} {ds : List (ℕ × Late)} → In (d, l) ((e, m) ∷ ds) → ((d ≡ e) × (l ≡ m)) ⊎ In (d, l) ds
pair_cases {d = d} {e = e} {l = l} {m = m} {ds = ds} i =
    ⊎_elim (λ (q : ◌≡◌ {A = ℕ × Late} (d, l) (e, m)). inl (ap (λ z. z.0) q, ap (λ z. z.1) q)) (λ (r : In (d, l) ds). inr r) (in_cons i)

module _ (h : Heap) (order : List ℕ) where
  -- when a follow-up is due, and what is handed on, after ordered ones that are due at `after`
  abbrev pub due_after : ℕ → Late → ℕ
  due_after after l = cond l.ordered (max after (own_due h order l)) (own_due h order l)

  abbrev pub next_after : ℕ → Late → ℕ
  next_after after l = cond l.ordered (max after (own_due h order l)) after

  pub due_cons : (after : ℕ) (l : Late) (ls : List Late) → due h order after (l ∷ ls) ≡ (due_after after l, l) ∷ due h order (next_after after l) ls
  due_cons after l ls = go l.ordered
    where
      go : (t : Bool) → cond t ((max after (own_due h order l), l) ∷ due h order (max after (own_due h order l)) ls) ((own_due h order l, l) ∷ due h order after ls) ≡ (cond t (max after (own_due h order l)) (own_due h order l), l) ∷ due h order (cond t (max after (own_due h order l)) after) ls
      go true = refl
      go false = refl

  -- no follow-up is lost, and none is added
  pub due_lates : (after : ℕ) (ls : List Late) → lates_in (due h order after ls) ≡ ls
  due_lates after [] = refl
  due_lates after (l ∷ ls) = ap lates_in (due_cons after l ls) ∙ ap (λ z. l ∷ z) (due_lates (next_after after l) ls)

  pub due_all : (after : ℕ) (ls : List Late) → due_from 0 (due h order after ls) ≡ ls
  due_all after [] = refl
  due_all after (l ∷ ls) =
      let rest = due_from 0 (due h order (next_after after l) ls) in
      ap (due_from 0) (due_cons after l ls)
      ∙ (cond-true (leb 0 (due_after after l)) (l ∷ rest) rest (le-leb 0 (due_after after l) (omega arith)) ∙ ap (λ z. l ∷ z) (due_all (next_after after l) ls))

  -- among those of a list with a head
  due_cases : (after d : ℕ) (l m : Late) (ls : List Late) → In (d, l) (due h order after (m ∷ ls)) → ((d ≡ due_after after m) × (l ≡ m)) ⊎ In (d, l) (due h order (next_after after m) ls)
  due_cases after d l m ls i = pair_cases (subst (In (d, l)) (due_cons after m ls) i)

  pub due_late : (after d : ℕ) (l : Late) (ls : List Late) → In (d, l) (due h order after ls) → In l ls
  due_late after d l [] i = in_nil i
  due_late after d l (m ∷ ls) i =
      ⊎_elim (λ (a : (d ≡ due_after after m) × (l ≡ m)). subst (λ z. In l (z ∷ ls)) a.1 here)
      (λ (b : In (d, l) (due h order (next_after after m) ls)). there (due_late (next_after after m) d l ls b))
      (due_cases after d l m ls i)

  pub late_due : (after : ℕ) (l : Late) (ls : List Late) → In l ls → (d : ℕ) × In (d, l) (due h order after ls)
  late_due after l [] i = in_nil i
  late_due after l (m ∷ ls) i =
      ⊎_elim (λ (a : l ≡ m). (due_after after m, subst (λ z. In (due_after after m, z) (due h order after (m ∷ ls))) (sym a) (subst (In (due_after after m, m)) (sym (due_cons after m ls)) here)))
      (λ (b : In l ls). let r = late_due (next_after after m) l ls b in (r.0, subst (In (r.0, l)) (sym (due_cons after m ls)) (there r.1)))
      (in_cons i)

  -- not before the names in it are bound
  pub due_least : (after d : ℕ) (l : Late) (ls : List Late) → In (d, l) (due h order after ls) → own_due h order l ≤ d
  due_least after d l [] i = in_nil i
  due_least after d l (m ∷ ls) i =
      ⊎_elim (λ (a : (d ≡ due_after after m) × (l ≡ m)). subst (λ z. own_due h order z ≤ d) (sym a.1) (subst (λ z. own_due h order m ≤ z) (sym a.0) (least m.ordered)))
      (λ (b : In (d, l) (due h order (next_after after m) ls)). due_least (next_after after m) d l ls b)
      (due_cases after d l m ls i)
    where
      least : (t : Bool) → own_due h order m ≤ cond t (max after (own_due h order m)) (own_due h order m)
      least true = omega arith
      least false = omega arith

  -- an ordered one not before those before it
  pub due_after_lem : (after d : ℕ) (l : Late) (ls : List Late) → In (d, l) (due h order after ls) → l.ordered ≡ true → after ≤ d
  due_after_lem after d l [] i t = in_nil i
  due_after_lem after d l (m ∷ ls) i t =
      ⊎_elim (λ (a : (d ≡ due_after after m) × (l ≡ m)). let o : m.ordered ≡ true = subst (λ z. z.ordered ≡ true) a.1 t in let e = a.0 ∙ cond-true m.ordered (max after (own_due h order m)) (own_due h order m) o in omega arith)
      (λ (b : In (d, l) (due h order (next_after after m) ls)). let r = due_after_lem (next_after after m) d l ls b t in let n = next m.ordered in omega arith)
      (due_cases after d l m ls i)
    where
      next : (t : Bool) → after ≤ cond t (max after (own_due h order m)) after
      next true = omega arith
      next false = omega arith

  pub due_sorted_after : (after : ℕ) (ls : List Late) (K L : List (ℕ × Late)) (d e : ℕ) (l m : Late) → due h order after ls ≡ K ++ ((d, l) ∷ L) → l.ordered ≡ true → In (e, m) K → m.ordered ≡ true → e ≤ d
  due_sorted_after after ls [] L d e l m q t i u = in_nil i
  due_sorted_after after [] (k ∷ K) L d e l m q t i u = absurd (let z : ◌≡◌ {A = ℕ} 0 1 = cc in omega arith)
  due_sorted_after after (n ∷ ls) (k ∷ K) L d e l m q t i u =
      let w : ◌≡◌ {A = List (ℕ × Late)} ((due_after after n, n) ∷ due h order (next_after after n) ls) (k ∷ (K ++ ((d, l) ∷ L))) = sym (due_cons after n ls) ∙ q in
      let first : ◌≡◌ {A = ℕ × Late} (due_after after n, n) k = cc in
      let rest : due h order (next_after after n) ls ≡ K ++ ((d, l) ∷ L) = cc in
      ⊎_elim
      (λ (a : (e ≡ due_after after n) × (m ≡ n)).
      let o : n.ordered ≡ true = subst (λ z. z.ordered ≡ true) a.1 u in
      let same : due_after after n ≡ next_after after n = cond-true n.ordered (max after (own_due h order n)) (own_due h order n) o ∙ sym (cond-true n.ordered (max after (own_due h order n)) after o) in
      subst (λ z. z ≤ d) (sym (a.0 ∙ same)) (due_after_lem (next_after after n) d l ls (subst (In (d, l)) (sym rest) (in_middle (d, l) K L)) t))
      (λ (b : In (e, m) K). due_sorted_after (next_after after n) ls K L d e l m rest t b u)
      (pair_cases (subst (λ z. In (e, m) (z ∷ K)) (sym first) i))

  -- of two ordered ones, the first is due first
  pub due_sorted : (ls : List Late) (K L : List (ℕ × Late)) (d e : ℕ) (l m : Late) → due h order 0 ls ≡ K ++ ((d, l) ∷ L) → l.ordered ≡ true → In (e, m) K → m.ordered ≡ true → e ≤ d
  due_sorted ls K L d e l m q t i u = due_sorted_after 0 ls K L d e l m q t i u

  -- the slot of a name is at most the greatest of its list
  slots_le : (j : ℕ) (os : List ℕ) → mem j os ≡ true → has_name h order j ≡ true → slot h order j ≤ slots h order os
  slots_le j [] m n = absurd (both_ways false refl m)
  slots_le j (o ∷ os) m n =
      ⊎_elim
      (λ (a : eqb j o ≡ true). let s : slot h order j ≤ cond (has_name h order o) (slot h order o) 0 = subst (λ z. slot h order j ≤ cond (has_name h order z) (slot h order z) 0) (eqb-true j o a) (let c = cond-true (has_name h order j) (slot h order j) 0 n in omega arith) in omega arith)
      (λ (b : mem j os ≡ true). let ih = slots_le j os b n in omega arith)
      (or_cases (eqb j o) (mem j os) m)

  task_slot_le : (t : Task) (j : ℕ) → mem j (task_refs t) ≡ true → has_name h order j ≡ true → slot h order j ≤ task_slot h order t
  task_slot_le (sets k v) j m n = slots_le j (refs v) m n
  task_slot_le (puts k v) j m n =
      ⊎_elim (λ (a : mem j (refs k) ≡ true). let s = slots_le j (refs k) a n in omega arith) (λ (b : mem j (refs v) ≡ true). let s = slots_le j (refs v) b n in omega arith)
      (or_cases (mem j (refs k)) (mem j (refs v)) (sym (mem-++ j (refs k) (refs v)) ∙ m))
  task_slot_le (adds v) j m n = slots_le j (refs v) m n
  task_slot_le (fills k) j m n = absurd (both_ways false refl m)

  -- after the name of its own object
  pub due_own : (o d : ℕ) (l : Late) → In (d, l) (due h order 0 (lates h order o)) → slot h order o ≤ d
  due_own o d l i =
      let least = due_least 0 d l (lates h order o) i in
      subst (λ z. slot h order z ≤ d) (late_target h order o l (due_late 0 d l (lates h order o) i)) (omega arith)

  -- after the names in its task
  pub due_names : (o d : ℕ) (l : Late) (j : ℕ) → In (d, l) (due h order 0 (lates h order o)) → mem j (task_refs l.task) ≡ true → has_name h order j ≡ true → slot h order j ≤ d
  due_names o d l j i m n =
      let least = due_least 0 d l (lates h order o) i in
      let s = task_slot_le l.task j m n in
      omega arith

  -- bytes after the name of the root
  pub due_root : (o d : ℕ) (l : Late) (k : ViewKind) (r : ℕ) → In (d, l) (due h order 0 (lates h order o)) → l.task ≡ fills k → h.root ≡ object r → has_name h order r ≡ true → slot h order r ≤ d
  due_root o d l k r i e root n =
      let least = due_least 0 d l (lates h order o) i in
      let t : task_slot h order l.task ≡ slots h order (r ∷ []) = ap (task_slot h order) e ∙ ap (λ v. slots h order (refs v)) root in
      let s = slots_le r (r ∷ []) (mem_head r []) n in
      omega arith

module _ (h : Heap) (f : Bounded h) (order : List ℕ) (ad : Adequate h order) where
  -- a place at which a name is bound
  abbrev Bound : ℕ → Type 0
  Bound d = (x : ℕ) × (mem x order ≡ true) × (has_name h order x ≡ true) × (slot h order x ≡ d)

  -- the greatest of two places is one of them
  max_bound : (a b : ℕ) → Bound a → (b ≡ 0) ⊎ Bound b → Bound (max a b)
  max_bound a b p q =
      ⊎_elim (λ (z : b ≡ 0). subst Bound (omega arith) p)
      (λ (r : Bound b). ⊎_elim (λ (l : a < b). subst Bound (omega arith) r) (λ (g : b ≤ a). subst Bound (omega arith) p) (cases_lt a b)) q

  either_bound : (a b : ℕ) → (a ≡ 0) ⊎ Bound a → (b ≡ 0) ⊎ Bound b → (max a b ≡ 0) ⊎ Bound (max a b)
  either_bound a b p q = ⊎_elim (λ (z : a ≡ 0). ⊎_elim (λ (y : b ≡ 0). inl (omega arith)) (λ (r : Bound b). inr (subst Bound (omega arith) r)) q) (λ (r : Bound a). inr (max_bound a b r q)) p

  slots_bound : (os : List ℕ) → ((j : ℕ) → mem j os ≡ true → mem j order ≡ true) → (slots h order os ≡ 0) ⊎ Bound (slots h order os)
  slots_bound [] g = inl refl
  slots_bound (o ∷ os) g =
      either_bound (cond (has_name h order o) (slot h order o) 0) (slots h order os) (here_bound (has_name h order o) refl)
      (slots_bound os (λ j m. g j (mem_right j (o ∷ []) os m)))
    where
      here_bound : (t : Bool) → has_name h order o ≡ t → (cond t (slot h order o) 0 ≡ 0) ⊎ Bound (cond t (slot h order o) 0)
      here_bound true e = inr (o, g o (mem_head o os), e, refl)
      here_bound false e = inl refl

  -- what the root refers to is in the order
  pub root_in : (j : ℕ) → mem j (refs h.root) ≡ true → mem j order ≡ true
  root_in j m = by_value h.root refl m
    where
      by_value : (v : Value) → h.root ≡ v → mem j (refs v) ≡ true → mem j order ≡ true
      by_value undefined e u = absurd (both_ways false refl u)
      by_value null e u = absurd (both_ways false refl u)
      by_value hole e u = absurd (both_ways false refl u)
      by_value (boolean v) e u = absurd (both_ways false refl u)
      by_value (whole z) e u = absurd (both_ways false refl u)
      by_value (double bits) e u = absurd (both_ways false refl u)
      by_value (bigint t) e u = absurd (both_ways false refl u)
      by_value (text t) e u = absurd (both_ways false refl u)
      by_value (object r) e u = ⊎_elim (λ (a : eqb j r ≡ true). subst (λ z. mem z order ≡ true) (sym (eqb-true j r a)) (ad.rooted r e)) (λ (b : false ≡ true). absurd (both_ways false refl b)) (or_cases (eqb j r) false u)

  task_bound : (t : Task) → ((j : ℕ) → mem j (task_refs t) ≡ true → mem j order ≡ true) → (task_slot h order t ≡ 0) ⊎ Bound (task_slot h order t)
  task_bound (sets k v) g = slots_bound (refs v) g
  task_bound (puts k v) g = either_bound (slots h order (refs k)) (slots h order (refs v)) (slots_bound (refs k) (λ j m. g j (mem_left j (refs k) (refs v) m))) (slots_bound (refs v) (λ j m. g j (mem_right j (refs k) (refs v) m)))
  task_bound (adds v) g = slots_bound (refs v) g
  task_bound (fills k) g = slots_bound (refs h.root) root_in

  own_bound : (l : Late) → mem l.target order ≡ true → has_name h order l.target ≡ true → ((j : ℕ) → mem j (task_refs l.task) ≡ true → mem j order ≡ true) → Bound (own_due h order l)
  own_bound l m n g = max_bound (slot h order l.target) (task_slot h order l.task) (l.target, m, n, refl) (task_bound l.task g)

  due_bound : (after d : ℕ) (l : Late) (ls : List Late) → (after ≡ 0) ⊎ Bound after → ((m : Late) → In m ls → Bound (own_due h order m)) → In (d, l) (due h order after ls) → Bound d
  due_bound after d l [] a g i = in_nil i
  due_bound after d l (m ∷ ls) a g i =
      ⊎_elim (λ (e : (d ≡ due_after h order after m) × (l ≡ m)). subst Bound (sym e.0) (now m.ordered))
      (λ (r : In (d, l) (due h order (next_after h order after m) ls)). due_bound (next_after h order after m) d l ls (next m.ordered) (λ n k. g n (there k)) r)
      (due_cases h order after d l m ls i)
    where
      own : Bound (own_due h order m)
      own = g m here

      both : Bound (max after (own_due h order m))
      both = subst Bound (omega arith) (max_bound (own_due h order m) after own a)

      now : (t : Bool) → Bound (cond t (max after (own_due h order m)) (own_due h order m))
      now true = both
      now false = own

      next : (t : Bool) → (cond t (max after (own_due h order m)) after ≡ 0) ⊎ Bound (cond t (max after (own_due h order m)) after)
      next true = inr both
      next false = a

  -- the place at which a follow-up is due has a line
  pub due_line : (o d : ℕ) (l : Late) → mem o order ≡ true → has_name h order o ≡ true → In (d, l) (due h order 0 (lates h order o)) → (x : ℕ) × (mem x order ≡ true) × (has_line h order x ≡ true) × (pos h order x ≡ d)
  due_line o d l m n i =
      let b = due_bound 0 d l (lates h order o) (inl refl) (λ k u. own_bound k
      (subst (λ z. mem z order ≡ true) (sym (late_target h order o k u)) m)
      (subst (λ z. has_name h order z ≡ true) (sym (late_target h order o k u)) n)
      (λ j w. ad.closed o j m (late_refs h order o k j u w))) i in
      let a = bound_at h f order ad b.0 b.1 b.2 in
      (a.line, a.member, a.has, a.place ∙ b.3)
