-- The name of an object, or that of its backing view with `.buffer` behind it, evaluates to what stands for the object, and makes nothing.
use Rattle.std.proofs.Common.{◌≡◌, ℕ, ◌<◌, true, false, cond, List, [], is_some, Some, None, sym, refl, ap, ◌∙◌, subst, ⊎_elim, append-nil, arith}
use Rattle.dump.specs.Heaps.{object, Heap}
use Rattle.script.specs.Syntax.{form, named, buffer_of_named}
use Rattle.planner.specs.Visits.{mem}
use Rattle.planner.specs.Names.{pos, backing, slot, has_name}
use Rattle.planner.specs.Builds.{name_expr}
use Rattle.planner.specs.Lates.{Late}
use Rattle.planner.specs.Lines.{target}
use Rattle.evaluator.specs.Options.{and_then, nth}
use Rattle.evaluator.specs.Stores.{ref, Obj, State, made, lookup}
use Rattle.evaluator.specs.Makes.{buffer_of}
use Rattle.evaluator.specs.Isomorphic.{Pairing}
use Rattle.effects.specs.Effects.{grown, expr_made}
use Rattle.rebuilds.specs.Adequate.{Adequate}
use Rattle.rebuilds.specs.Pending.{a_nil, Store}
use Rattle.rebuilds.specs.Good.{Good, Names}
use Rattle.pending.proofs.Stores.{store_at}
use Rattle.places.proofs.Names.{Backs, backs}
use Rattle.places.proofs.Lines.{At, bound_at, line_backed}
use Rattle.expressions.proofs.Stores.{Viewing, viewing}
use Rattle.expressions.proofs.Makes.{view_at_lem}
use Rattle.effects.specs.Bounded.{Bounded}

-- nothing more in the store
pub grown_none : (s : State) → grown s [] ≡ s
grown_none s = ap (λ xs. record { objects = xs; names = s.names }) (append-nil s.objects)

module _ (h : Heap) (f : Bounded h) (order : List ℕ) (ad : Adequate h order) (own : Pairing) (left : ℕ → List Late) (s : State) (t : ℕ) (names : Names h order own t s.names) (store : Store h own left own s.objects) where
  -- the name of a backing view stands for it, and for its buffer
  pub record Backed (b w : ℕ) : Type 0 where
    pub at : ℕ
    pub bound : lookup s.names (pos h order b) ≡ Some (ref at)
    pub stands : nth own at ≡ Some (Some w)

  pub backing_bound : (b w : ℕ) → mem b order ≡ true → backing h order b ≡ Some w → pos h order b < t → Backed b w
  backing_bound b w m e lt =
      let l = line_backed h f order ad b w m e in
      let n = names.bound b m l.0 lt in
      record { at = n.0; bound = n.1; stands = subst (λ x. nth own n.0 ≡ Some (Some x)) l.1 n.2 }

  -- what stands for the backing view, with the place of its buffer
  pub record OnBacked (b w : ℕ) (k : Backs h f order ad b w) (p : ℕ) : Type 0 where
    pub obj : Obj
    pub there : nth s.objects p ≡ Some obj
    pub views : Viewing h own k.kind 0 (Some k.n) b obj

  pub on_backed : (b w : ℕ) (k : Backs h f order ad b w) (p : ℕ) → nth own p ≡ Some (Some w) → OnBacked b w k p
  on_backed b w k p e =
      let o = store_at h own left store p w e in
      record { obj = o.0; there = o.1; views = viewing h own (left w) w k.kind 0 k.n false b o.0 k.view_is k.view_parts o.2 }

  -- vN
  by_name : (x : ℕ) → (a : At h f order ad x) → target h order a.line ≡ x → backing h order x ≡ None → slot h order x < t → (p : ℕ) × (expr_made (name_expr h order x) s ≡ made (ref p) s) × (nth own p ≡ Some (Some x))
  by_name x a e none lt =
      let place = a.place in
      let n = names.bound a.line a.member a.has (omega arith) in (
        n.0,
        ap (λ o. expr_made (cond (is_some o) (form (buffer_of_named (slot h order x))) (form (named (slot h order x)))) s) none
            ∙ ap (λ o. and_then o (λ v. made v s)) (ap (lookup s.names) (sym place) ∙ n.1),
        subst (λ y. nth own n.0 ≡ Some (Some y)) e n.2,
      )

  -- vN.buffer
  by_view_lem : (b w : ℕ) → mem b order ≡ true → backing h order b ≡ Some w → slot h order b < t → (p : ℕ) × (expr_made (name_expr h order b) s ≡ made (ref p) s) × (nth own p ≡ Some (Some b))
  by_view_lem b w m e lt =
      let k = backs h f order ad b w m e in
      let place = k.slot_buffer in
      let n = backing_bound b w m e (omega arith) in
      let o = on_backed b w k n.at n.stands in
      let v = o.views in (
        v.on,
        ap (λ o. expr_made (cond (is_some o) (form (buffer_of_named (slot h order b))) (form (named (slot h order b)))) s) e
            ∙ ap (λ o. and_then o (λ v. buffer_of v s)) (ap (lookup s.names) place ∙ n.bound)
            ∙ ap (λ o. and_then o (λ w. made w.on s)) (view_at_lem s n.at v.on o.obj k.kind 0 (Some k.n) o.there v.shape v.slots),
        v.stands,
      )

  pub name_good : (x : ℕ) → mem x order ≡ true → has_name h order x ≡ true → slot h order x < t → (p : ℕ) × (expr_made (name_expr h order x) s ≡ made (ref p) s) × (nth own p ≡ Some (Some x))
  name_good x m n lt =
      let a = bound_at h f order ad x m n in
      ⊎_elim (λ (d : (target h order a.line ≡ x) × (backing h order x ≡ None)). by_name x a d.0 d.1 lt)
      (λ (d : (a.line ≡ x) × ((w : ℕ) × (backing h order x ≡ Some w))). by_view_lem x d.1.0 m d.1.1 lt) a.is

  -- so it is good, and makes nothing
  pub name_none : (x : ℕ) → mem x order ≡ true → has_name h order x ≡ true → slot h order x < t → Good h order own s (name_expr h order x) (object x) (λ y. 0)
  name_none x m n lt =
      let g = name_good x m n lt in
      record {
        new = [];
        adds = [];
        val = ref g.0;
        runs = g.1 ∙ ap (made (ref g.0)) (sym (grown_none s));
        objects = a_nil;
        says = (g.0, refl, subst (λ ps. nth ps g.0 ≡ Some (Some x)) (sym (append-nil own)) g.2);
        counts = λ y. refl;
      }
