-- Which places have a line, what each line builds, and where a name is bound.
use Rattle.std.proofs.Common.{◌≡◌, ℕ, Bool, true, false, ◌&&◌, eqb, ◌⊎◌, List, Some, None, sym, refl, ap, ◌∙◌, subst, inl, inr, ⊎_elim, arith, eq-eqb, eqb-true}
use borrow.Author.Tests.{eqb-false}
use Rattle.std.proofs.lemmas.Bool.{and_parts, and_cases, and_from, both_ways}
use Rattle.dump.specs.Heaps.{Heap}
use Rattle.planner.specs.Visits.{mem}
use Rattle.planner.specs.Names.{buffer_in, pos, backing, backed, slot, has_name}
use Rattle.planner.specs.Lines.{target_by, target, has_line}
use Rattle.visits.proofs.Orders.{place_same}
use Rattle.rebuilds.specs.Adequate.{Adequate}
use Rattle.effects.proofs.Options.{cases_option}
use Rattle.places.proofs.Names.{backs, backs_of, no_buffer, own_slot}
use Rattle.effects.specs.Bounded.{Bounded}

-- the line at the place of o builds t
abbrev Line : (h : Heap) (order : List ℕ) (o t : ℕ) → Bool
Line h order o t = has_name h order t && eqb (slot h order t) (pos h order o)

module _ (h : Heap) (f : Bounded h) (order : List ℕ) (ad : Adequate h order) where
  -- a place whose object has no backing view builds that object
  pub target_self : (o : ℕ) → backing h order o ≡ None → target h order o ≡ o
  target_self o e = ap (λ w. target_by h order w o) e

  pub target_backed : (b w : ℕ) → backing h order b ≡ Some w → target h order b ≡ w
  target_backed b w e = ap (λ x. target_by h order x b) e

  pub line_self : (o : ℕ) → mem o order ≡ true → backing h order o ≡ None → has_line h order o ≡ true →
      (target h order o ≡ o) × (has_name h order o ≡ true) × (slot h order o ≡ pos h order o) × (backed h order o ≡ None)
  line_self o m e l =
      let t = target_self o e in
      let p = and_parts (has_name h order o) (eqb (slot h order o) (pos h order o)) (subst (λ x. Line h order o x ≡ true) t l) in
      let s = eqb-true (slot h order o) (pos h order o) p.1 in (
        t,
        p.0,
        s,
        ⊎_elim (λ a. a)
            (λ (b : (y : ℕ) × (backed h order o ≡ Some y)). absurd (let k = backs_of h f order ad b.0 o m b.1 in let u = k.before in let v = k.slot_view in omega arith))
            (cases_option (backed h order o)),
      )

  pub line_backed : (b w : ℕ) → mem b order ≡ true → backing h order b ≡ Some w → (has_line h order b ≡ true) × (target h order b ≡ w)
  line_backed b w m e =
      let t = target_backed b w e in
      let k = backs h f order ad b w m e in
      (subst (λ x. Line h order b x ≡ true) (sym t) (and_from (has_name h order w) (eqb (slot h order w) (pos h order b)) k.named_view (eq-eqb (slot h order w) (pos h order b) k.slot_view)), t)

  -- a place without a line: its object has no name, or has it bound at its buffer's place
  pub no_line : (o : ℕ) → mem o order ≡ true → has_line h order o ≡ false → (has_name h order o ≡ false) ⊎ ((b : ℕ) × (backed h order o ≡ Some b))
  no_line o m l =
      ⊎_elim
      (λ (e : backing h order o ≡ None). ⊎_elim (λ a. inl a)
      (λ (d : eqb (slot h order o) (pos h order o) ≡ false). ⊎_elim
      (λ (n : backed h order o ≡ None). absurd (eqb-false (slot h order o) (pos h order o) d (own_slot h order o n)))
      (λ (s : (b : ℕ) × (backed h order o ≡ Some b)). inr s) (cases_option (backed h order o)))
      (and_cases (has_name h order o) (eqb (slot h order o) (pos h order o)) (subst (λ x. Line h order o x ≡ false) (target_self o e) l)))
      (λ (s : (w : ℕ) × (backing h order o ≡ Some w)). absurd (both_ways (has_line h order o) l (line_backed o s.0 m s.1).0))
      (cases_option (backing h order o))

  pub has_line_lem : (o : ℕ) → mem o order ≡ true → has_name h order o ≡ true → backed h order o ≡ None → has_line h order o ≡ true
  has_line_lem o m n e =
      ⊎_elim
      (λ (d : backing h order o ≡ None). subst (λ x. Line h order o x ≡ true) (sym (target_self o d)) (and_from (has_name h order o) (eqb (slot h order o) (pos h order o)) n (eq-eqb (slot h order o) (pos h order o) (own_slot h order o e))))
      (λ (s : (w : ℕ) × (backing h order o ≡ Some w)). (line_backed o s.0 m s.1).0)
      (cases_option (backing h order o))

  -- the object at whose place the name of x is bound
  pub record At (x : ℕ) : Type 0 where
    pub line : ℕ
    pub member : mem line order ≡ true
    pub place : pos h order line ≡ slot h order x
    pub has : has_line h order line ≡ true
    pub is : ((target h order line ≡ x) × (backing h order x ≡ None)) ⊎ ((line ≡ x) × ((w : ℕ) × (backing h order x ≡ Some w)))

  pub bound_at : (x : ℕ) → mem x order ≡ true → has_name h order x ≡ true → At x
  bound_at x m n =
      ⊎_elim
      (λ (e : backed h order x ≡ None). record {
        line = x;
        member = m;
        place = sym (own_slot h order x e);
        has = has_line_lem x m n e;
        is = ⊎_elim (λ (d : backing h order x ≡ None). inl (target_self x d, d)) (λ (s : (w : ℕ) × (backing h order x ≡ Some w)). inr (refl, s)) (cases_option (backing h order x));
      })
      (λ (s : (b : ℕ) × (backed h order x ≡ Some b)).
      let k = backs_of h f order ad s.0 x m s.1 in
      let l = line_backed s.0 x k.buffer_member k.backing in
      record {
        line = s.0;
        member = k.buffer_member;
        place = sym k.slot_view;
        has = l.0;
        is = inl (l.1, no_buffer h order x (ap buffer_in k.view_is));
      })
      (cases_option (backed h order x))

  -- what a line builds is in the order, has a name, and has it bound there
  pub line_target : (o : ℕ) → mem o order ≡ true → has_line h order o ≡ true → (mem (target h order o) order ≡ true) × (has_name h order (target h order o) ≡ true) × (slot h order (target h order o) ≡ pos h order o)
  line_target o m l =
      let p = and_parts (has_name h order (target h order o)) (eqb (slot h order (target h order o)) (pos h order o)) l in
      let in_order : mem (target h order o) order ≡ true = ⊎_elim
      (λ (e : backing h order o ≡ None). subst (λ x. mem x order ≡ true) (sym (target_self o e)) m)
      (λ (s : (w : ℕ) × (backing h order o ≡ Some w)). subst (λ x. mem x order ≡ true) (sym (target_backed o s.0 s.1)) (backs h f order ad o s.0 m s.1).member)
      (cases_option (backing h order o)) in
      (in_order, p.0, eqb-true (slot h order (target h order o)) (pos h order o) p.1)

  -- two lines do not build the same
  pub target_same : (o p : ℕ) → mem o order ≡ true → mem p order ≡ true → has_line h order o ≡ true → has_line h order p ≡ true → target h order o ≡ target h order p → o ≡ p
  target_same o p m n l k e =
      let a = (line_target o m l).2 in
      let b = (line_target p n k).2 in
      place_same o p order m (sym a ∙ (ap (slot h order) e ∙ b))
