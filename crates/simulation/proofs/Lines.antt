-- Line by line: after the lines of the first places the store stands for what they build, and lacks just what is due later.
use Rattle.std.proofs.Common.{◌≡◌, ℕ, suc, ◌+◌, ◌<◌, ◌≤◌, Bool, true, false, cond, not, ◌&&◌, eqb, leb, List, [], ◌∷◌, ◌++◌, length, get_or, is_some, Some, None, Option, sym, refl, ap, ◌∙◌, subst, ⊎_elim, append_assoc, append-nil, arith, length-append, eq-eqb, ne_eqb, eqb-true, leb-false, leb-true}
use Rattle.std.proofs.lemmas.Bool.{cases_Bool, cases_eq, cond-true, cond-false, both_ways, or_left, or_right, or_cases, and_parts}
use Rattle.dump.specs.Heaps.{object, Heap}
use Rattle.script.specs.Syntax.{form, circular, const}
use Rattle.planner.specs.Visits.{mem}
use Rattle.planner.specs.Names.{pos, slot, has_name, backing, backed}
use Rattle.planner.specs.Builds.{built}
use Rattle.planner.specs.Lates.{Late, lates, due}
use Rattle.planner.specs.Lines.{target, has_line, all_due, due_at, lines_at}
use Rattle.evaluator.specs.Options.{and_then, when, nth}
use Rattle.evaluator.specs.Stores.{Val, ref, Bound, bound, State, lookup}
use Rattle.evaluator.specs.Commands.{ran}
use Rattle.evaluator.specs.Isomorphic.{Pairing}
use Rattle.effects.specs.Effects.{stmt_done}
use Rattle.rebuilds.specs.Adequate.{Adequate}
use Rattle.rebuilds.specs.Makes.{one, expr_makes, line_makes, line_makes_by, due_makes, lines_make, root_makes}
use Rattle.rebuilds.specs.Pending.{In, here, there, due_from, left_at, occ}
use Rattle.rebuilds.specs.Good.{Good, Built}
use Rattle.visits.proofs.Lists.{mem_head, mem_right, once_before}
use Rattle.visits.proofs.Orders.{place_same, place_split}
use Rattle.pending.proofs.Lists.{all2-++}
use Rattle.effects.proofs.Options.{nth_left}
use Rattle.pending.proofs.Grows.{ext_append, store_ext}
use Rattle.places.proofs.Names.{backs}
use Rattle.places.proofs.Lines.{line_self, target_backed, bound_at, line_target}
use Rattle.places.proofs.Lates.{no_lates, fixed_lates}
use Rattle.places.proofs.Dues.{lates_in, due_lates, due_own, due_line}
use Rattle.expressions.proofs.Steps.{Ready, occ-++, occ_at, store_on}
use Rattle.expressions.proofs.Values.{Fresh}
use Rattle.simulation.proofs.Runs.{Leads, leads_append, leads_cons}
use Rattle.simulation.proofs.Flushes.{from_next, LatesRun, is_target, left_by, Flushed, flush}
use Rattle.simulation.proofs.Inside.{line_inside, due_inside}
use Rattle.effects.specs.Bounded.{Bounded}

-- where all are due later, all are left
from_all : (t : ℕ) (ds : List (ℕ × Late)) → ((d : ℕ) (l : Late) → In (d, l) ds → t ≤ d) → due_from t ds ≡ lates_in ds
from_all t [] n = refl
from_all t (d ∷ ds) n = Rattle.simulation.proofs.Flushes.from_keeps t d ds (n d.0 d.1 here) ∙ ap (λ z. d.1 ∷ z) (from_all t ds (λ e l i. n e l (there i)))

lookup_left : (bs : List Bound) (b : Bound) (n : ℕ) (v : Val) → lookup bs n ≡ Some v → lookup (bs ++ (b ∷ [])) n ≡ Some v
lookup_left [] b n v e = absurd (let z : ◌≡◌ {A = ℕ} 0 1 = cc in omega arith)
lookup_left (bound m w ∷ bs) b n v e = go (eqb n m) e (lookup_left bs b n v)
  where
    go : (c : Bool) → cond c (Some w) (lookup bs n) ≡ Some v → (lookup bs n ≡ Some v → lookup (bs ++ (b ∷ [])) n ≡ Some v) → cond c (Some w) (lookup (bs ++ (b ∷ [])) n) ≡ Some v
    go true d ih = d
    go false d ih = ih d

lookup_right : (bs : List Bound) (m n : ℕ) (v : Val) → lookup bs n ≡ None → lookup (bs ++ (bound m v ∷ [])) n ≡ cond (eqb n m) (Some v) None
lookup_right [] m n v e = refl
lookup_right (bound k w ∷ bs) m n v e = go (eqb n k) e (lookup_right bs m n v)
  where
    go : (c : Bool) → cond c (Some w) (lookup bs n) ≡ None → (lookup bs n ≡ None → lookup (bs ++ (bound m v ∷ [])) n ≡ cond (eqb n m) (Some v) None) → cond c (Some w) (lookup (bs ++ (bound m v ∷ [])) n) ≡ cond (eqb n m) (Some v) None
    go true d ih = absurd (let z : ◌≡◌ {A = ℕ} 0 1 = cc in omega arith)
    go false d ih = ih d

module _ (h : Heap) (f : Bounded h) (order : List ℕ) (ad : Adequate h order) (late-runs : LatesRun h order) where
  -- the expression of every object that is no backing view evaluates, and that of every backing view with its buffer
  pub record ExprsGood : Type 0 where
    pub self : (x : ℕ) → mem x order ≡ true → backed h order x ≡ None → (own : Pairing) (t : ℕ) (s : State) → Ready h order own t s → pos h order x ≤ t → Fresh own (expr_makes h order x) → Good h order own s (get_or (built h order) (pos h order x) (form circular)) (object x) (expr_makes h order x)
    pub over : (b w : ℕ) → mem b order ≡ true → backing h order b ≡ Some w → (own : Pairing) (t : ℕ) (s : State) → Ready h order own t s → Good h order own s (get_or (built h order) (pos h order w) (form circular)) (object w) (λ y. one y b + one y w)

  module _ (by-expr : ExprsGood) where
    -- before the line at t, with these places to come
    pub record Sim (t : ℕ) (os : List ℕ) (own : Pairing) (s : State) : Type 0 where
      pub built : Built h order own (left_at h order t) t s
      pub members : (y : ℕ) → 1 ≤ occ y own → mem y order ≡ true
      pub fresh : (y : ℕ) → occ y own + lines_make h order os y + root_makes h order y ≤ 1

    is_target_lem : (t : ℕ) (os : List ℕ) (o x : ℕ) → mem o os ≡ true → has_line h order o ≡ true → target h order o ≡ x → is_target h f order ad late-runs t os x ≡ true
    is_target_lem t [] o x m l e = absurd (both_ways false refl m)
    is_target_lem t (p ∷ os) o x m l e = ⊎_elim
        (λ (q : eqb o p ≡ true).
        let r = eqb-true o p q in
        or_left (has_line h order p && eqb x (target h order p)) (is_target h f order ad late-runs t os x)
        (subst (λ z. (has_line h order z && eqb x (target h order z)) ≡ true) r (ap (λ z. z && eqb x (target h order o)) l ∙ eq-eqb x (target h order o) (sym e))))
        (λ (q : mem o os ≡ true). or_right (has_line h order p && eqb x (target h order p)) (is_target h f order ad late-runs t os x) (is_target_lem t os o x q l e))
        (or_cases (eqb o p) (mem o os) m)

    target_of : (t : ℕ) (os : List ℕ) (x : ℕ) → is_target h f order ad late-runs t os x ≡ true → (o : ℕ) × (mem o os ≡ true) × (has_line h order o ≡ true) × (target h order o ≡ x)
    target_of t [] x e = absurd (both_ways false refl e)
    target_of t (p ∷ os) x e = ⊎_elim
        (λ (q : (has_line h order p && eqb x (target h order p)) ≡ true). let r = and_parts (has_line h order p) (eqb x (target h order p)) q in (p, mem_head p os, r.0, sym (eqb-true x (target h order p) r.1)))
        (λ (q : is_target h f order ad late-runs t os x ≡ true). let r = target_of t os x q in (r.0, or_right (eqb r.0 p) (mem r.0 os) r.1, r.2, r.3))
        (or_cases (has_line h order p && eqb x (target h order p)) (is_target h f order ad late-runs t os x) e)

    -- an object that no line builds by itself has no follow-ups
    target_or_none : (x : ℕ) (t : ℕ) → mem x order ≡ true → is_target h f order ad late-runs t order x ≡ false → lates h order x ≡ []
    target_or_none x t m n = ⊎_elim
        (λ (e : has_name h order x ≡ true).
        let a = bound_at h f order ad x m e in
        ⊎_elim
        (λ (i : (target h order a.line ≡ x) × (backing h order x ≡ None)). absurd (both_ways (is_target h f order ad late-runs t order x) n (is_target_lem t order a.line x a.member a.has i.0)))
        (λ (i : (a.line ≡ x) × ((w : ℕ) × (backing h order x ≡ Some w))). let b = backs h f order ad x i.1.0 m i.1.1 in fixed_lates h order x b.bytes b.buffer_is)
        a.is)
        (λ (e : has_name h order x ≡ false). no_lates h f order ad x m e)
        (cases_Bool (has_name h order x))

    -- what an object lacks before the line at t, and once that line is there
    none_left : (t x : ℕ) → lates h order x ≡ [] → left_at h order t x ≡ []
    none_left t x e = ap (λ z. due_from t (due h order 0 z)) e

    left_old : (t x : ℕ) → mem x order ≡ true → left_at h order t x ≡ left_by h f order ad late-runs t order x
    left_old t x m = ⊎_elim
        (λ (e : is_target h f order ad late-runs t order x ≡ true). sym (cond-true (is_target h f order ad late-runs t order x) (left_at h order t x) (left_at h order (suc t) x) e))
        (λ (e : is_target h f order ad late-runs t order x ≡ false). let z = target_or_none x t m e in none_left t x z ∙ sym (cond-false (is_target h f order ad late-runs t order x) (left_at h order t x) (left_at h order (suc t) x) e ∙ none_left (suc t) x z))
        (cases_Bool (is_target h f order ad late-runs t order x))

    -- nothing is due at a place without a line
    no_line_left : (o : ℕ) → mem o order ≡ true → has_line h order o ≡ false → (x : ℕ) → mem x order ≡ true → left_at h order (pos h order o) x ≡ left_at h order (suc (pos h order o)) x
    no_line_left o m l x mx = ⊎_elim
        (λ (e : has_name h order x ≡ true). from_next (pos h order o) (due h order 0 (lates h order x)) (λ d k i q.
        let w = due_line h f order ad x d k mx e i in
        both_ways (has_line h order o) l (subst (λ z. has_line h order z ≡ true) (place_same w.0 o order w.1 (w.3 ∙ q)) w.2)))
        (λ (e : has_name h order x ≡ false). let z = no_lates h f order ad x mx e in none_left (pos h order o) x z ∙ sym (none_left (suc (pos h order o)) x z))
        (cases_Bool (has_name h order x))

    pub step_none : (o : ℕ) (os : List ℕ) (own : Pairing) (s : State) → mem o order ≡ true → has_line h order o ≡ false → Sim (pos h order o) (o ∷ os) own s → Sim (suc (pos h order o)) os own s
    step_none o os own s m l sim =
        record {
          built = record {
            store = store_on h own (left_at h order (pos h order o)) (left_at h order (suc (pos h order o))) (λ x n. no_line_left o m l x (sim.members x n)) sim.built.store;
            names = record {
              bound = λ p mp lp lt. sim.built.names.bound p mp lp (below p mp lp lt);
              free = λ n le. sim.built.names.free n (omega arith);
            };
          };
          members = sim.members;
          fresh = λ y. let a = sim.fresh y in let c = ap (λ z. cond z (line_makes h order o y + due_makes h order (pos h order o) (all_due h order order) y) 0) l in omega arith;
        }
      where
        below : (p : ℕ) → mem p order ≡ true → has_line h order p ≡ true → pos h order p < suc (pos h order o) → pos h order p < pos h order o
        below p mp lp lt = ⊎_elim (λ (q : pos h order p ≡ pos h order o). absurd (both_ways (has_line h order o) l (subst (λ z. has_line h order z ≡ true) (place_same p o order mp q) lp))) (λ (q : pos h order p ≡ pos h order o → ⊥). omega arith) (cases_eq (pos h order p) (pos h order o))

    -- what the line at a place builds
    line_good : (o : ℕ) (own : Pairing) (s : State) → mem o order ≡ true → has_line h order o ≡ true → Ready h order own (pos h order o) s → Fresh own (line_makes h order o)
        → Good h order own s (get_or (Rattle.planner.specs.Builds.built h order) (pos h order (target h order o)) (form circular)) (object (target h order o)) (line_makes h order o)
    line_good o own s m l r fresh = go (backing h order o) refl fresh
      where
        go : (b : Option ℕ) → backing h order o ≡ b → Fresh own (line_makes_by h order b o)
            → Good h order own s (get_or (Rattle.planner.specs.Builds.built h order) (pos h order (target h order o)) (form circular)) (object (target h order o)) (line_makes_by h order b o)
        go None e fr =
            let w = line_self h f order ad o m e l in
            subst (λ z. Good h order own s (get_or (Rattle.planner.specs.Builds.built h order) (pos h order z) (form circular)) (object z) (expr_makes h order o)) (sym w.0)
            (by-expr.self o m w.3 own (pos h order o) s r (omega arith) fr)
        go (Some w) e fr =
            subst (λ z. Good h order own s (get_or (Rattle.planner.specs.Builds.built h order) (pos h order z) (form circular)) (object z) (λ y. one y o + one y w)) (sym (target_backed h f order ad o w e))
            (by-expr.over o w m e own (pos h order o) s r)

    module _ (o : ℕ) (os : List ℕ) (own : Pairing) (s : State) (m : mem o order ≡ true) (l : has_line h order o ≡ true) (sim : Sim (pos h order o) (o ∷ os) own s) where
      t : ℕ
      t = pos h order o

      here_makes : (y : ℕ) → lines_make h order (o ∷ os) y ≡ line_makes h order o y + due_makes h order (pos h order o) (all_due h order order) y + lines_make h order os y
      here_makes y = ap (λ z. cond z (line_makes h order o y + due_makes h order (pos h order o) (all_due h order order) y) 0 + lines_make h order os y) l

      g : Good h order own s (get_or (Rattle.planner.specs.Builds.built h order) (pos h order (target h order o)) (form circular)) (object (target h order o)) (line_makes h order o)
      g = line_good o own s m l (record { left = left_at h order (pos h order o); built = sim.built }) (λ y. let a = sim.fresh y in let b = here_makes y in omega arith)

      own₁ : Pairing
      own₁ = own ++ g.adds

      s₁ : State
      s₁ = record { objects = s.objects ++ g.new; names = s.names ++ (bound (pos h order o) g.val ∷ []) }

      runs₁ : stmt_done (const (pos h order o) (get_or (Rattle.planner.specs.Builds.built h order) (pos h order (target h order o)) (form circular))) s ≡ ran s₁ None
      unfolding s₁
      runs₁ =
          ap (λ z. and_then z (λ x. when (not (is_some (lookup x.state.names (pos h order o)))) (ran (record { objects = x.state.objects; names = x.state.names ++ (bound (pos h order o) x.val ∷ []) }) None))) g.runs
          ∙ ap (λ z. when (not (is_some z)) (ran (record { objects = s.objects ++ g.new; names = s.names ++ (bound (pos h order o) g.val ∷ []) }) None)) (sim.built.names.free (pos h order o) (omega arith))

      -- an object that is made now lacks all of its follow-ups
      left_new : (x : ℕ) → 1 ≤ occ x g.adds → lates h order x ≡ left_by h f order ad late-runs (pos h order o) order x
      left_new x n =
          let mx : mem x order ≡ true = line_inside h order o x m (subst (λ z. 1 ≤ z) (g.counts x) n) in
          ⊎_elim
          (λ (e : is_target h f order ad late-runs (pos h order o) order x ≡ true).
          sym (cond-true (is_target h f order ad late-runs (pos h order o) order x) (left_at h order (pos h order o) x) (left_at h order (suc (pos h order o)) x) e ∙ (from_all (pos h order o) (due h order 0 (lates h order x)) (λ d k i. let a = due_own h order x d k i in let b : pos h order o ≤ slot h order x = later e in omega arith) ∙ due_lates h order 0 (lates h order x))))
          (λ (e : is_target h f order ad late-runs (pos h order o) order x ≡ false).
          let z = target_or_none x (pos h order o) mx e in
          z ∙ sym (cond-false (is_target h f order ad late-runs (pos h order o) order x) (left_at h order (pos h order o) x) (left_at h order (suc (pos h order o)) x) e ∙ none_left (suc (pos h order o)) x z))
          (cases_Bool (is_target h f order ad late-runs (pos h order o) order x))
        where
          -- what was bound before is there already
          later : is_target h f order ad late-runs (pos h order o) order x ≡ true → pos h order o ≤ slot h order x
          later e =
              let w = target_of (pos h order o) order x e in
              let k = line_target h f order ad w.0 w.1 w.2 in
              let sl : slot h order x ≡ pos h order w.0 = subst (λ z. slot h order z ≡ pos h order w.0) w.3 k.2 in
              ⊎_elim (λ (q : leb (pos h order o) (slot h order x) ≡ true). leb-true (pos h order o) (slot h order x) q)
              (λ (q : leb (pos h order o) (slot h order x) ≡ false).
              let lt = leb-false (pos h order o) (slot h order x) q in
              let b = sim.built.names.bound w.0 w.1 w.2 (omega arith) in
              let c = occ_at (target h order w.0) b.0 own b.2 in
              let d : 1 ≤ occ x own = subst (λ z. 1 ≤ occ z own) w.3 c in
              absurd (let a = sim.fresh x in let u = here_makes x in let v = g.counts x in omega arith))
              (cases_Bool (leb (pos h order o) (slot h order x)))

      built₁ : Built h order own₁ (left_by h f order ad late-runs (pos h order o) order) (suc (pos h order o)) s₁
      unfolding own₁ s₁
      built₁ =
          record {
            store = all2-++
                (store_on h (own ++ g.adds) (left_at h order (pos h order o)) (left_by h f order ad late-runs (pos h order o) order) (λ x n. left_old (pos h order o) x (sim.members x n))
                (store_ext own (own ++ g.adds) (ext_append own g.adds) h (left_at h order (pos h order o)) sim.built.store))
                (store_on h (own ++ g.adds) (lates h order) (left_by h f order ad late-runs (pos h order o) order) left_new g.objects);
            names = record {
              bound = λ p mp lp lt. ⊎_elim
                  (λ (q : pos h order p ≡ pos h order o).
                  let e = place_same p o order mp q in
                  let v = g.says in (
                    v.0,
                    ap (lookup (s.names ++ (bound (pos h order o) g.val ∷ []))) q ∙ (lookup_right s.names (pos h order o) (pos h order o) g.val (sim.built.names.free (pos h order o) (omega arith)) ∙ (cond-true (eqb (pos h order o) (pos h order o)) (Some g.val) None (eq-eqb (pos h order o) (pos h order o) refl) ∙ ap Some v.1)),
                    subst (λ z. nth (own ++ g.adds) v.0 ≡ Some (Some (target h order z))) (sym e) v.2,
                  ))
                  (λ (q : pos h order p ≡ pos h order o → ⊥).
                  let b = sim.built.names.bound p mp lp (omega arith) in
                  (b.0, lookup_left s.names (bound (pos h order o) g.val) (pos h order p) (ref b.0) b.1, nth_left own g.adds b.0 (Some (target h order p)) b.2))
                  (cases_eq (pos h order p) (pos h order o));
              free = λ n le. lookup_right s.names (pos h order o) n g.val (sim.built.names.free n (omega arith)) ∙ cond-false (eqb n (pos h order o)) (Some g.val) None (ne_eqb n (pos h order o) (λ q. omega arith));
            };
          }

      fresh₁ : Fresh own₁ (due_makes h order (pos h order o) (all_due h order order))
      unfolding own₁
      fresh₁ y = let a = sim.fresh y in let u = here_makes y in let v = g.counts y in let w = occ-++ y own g.adds in omega arith

      k : Flushed h f order ad late-runs (pos h order o) own₁ s₁ (left_at h order (suc (pos h order o))) (due_at h order (pos h order o) (all_due h order order)) (due_makes h order (pos h order o) (all_due h order order))
      k = flush h f order ad late-runs (pos h order o) order (λ p i. i) ad.once own₁ s₁ built₁ fresh₁

      own₂ : Pairing
      own₂ = own₁ ++ k.adds

      occ₂ : (y : ℕ) → occ y own₂ ≡ occ y own + line_makes h order o y + due_makes h order (pos h order o) (all_due h order order) y
      unfolding own₂ own₁
      occ₂ y = let a = occ-++ y (own ++ g.adds) k.adds in let b = occ-++ y own g.adds in let c = g.counts y in let d = k.counts y in omega arith

      members₂ : (y : ℕ) → 1 ≤ occ y own₂ → mem y order ≡ true
      members₂ y n = ⊎_elim
          (λ (a : leb 1 (occ y own) ≡ true). sim.members y (leb-true 1 (occ y own) a))
          (λ (a : leb 1 (occ y own) ≡ false). ⊎_elim
          (λ (b : leb 1 (line_makes h order o y) ≡ true). line_inside h order o y m (leb-true 1 (line_makes h order o y) b))
          (λ (b : leb 1 (line_makes h order o y) ≡ false). due_inside h order (pos h order o) (all_due h order order) y (let c = occ₂ y in let d = leb-false 1 (occ y own) a in let e = leb-false 1 (line_makes h order o y) b in omega arith))
          (cases_Bool (leb 1 (line_makes h order o y))))
          (cases_Bool (leb 1 (occ y own)))

      sim₂ : Sim (suc (pos h order o)) os own₂ k.state
      unfolding own₂
      sim₂ = record { built = k.built; members = members₂; fresh = λ y. let a = sim.fresh y in let b = here_makes y in let c = occ₂ y in omega arith }

      pub step_line : (own' : Pairing) × (s' : State) × Leads (const (pos h order o) (get_or (Rattle.planner.specs.Builds.built h order) (pos h order (target h order o)) (form circular)) ∷ due_at h order (pos h order o) (all_due h order order)) s s' × Sim (suc (pos h order o)) os own' s'
      step_line = (own₂, k.state, leads_cons (const (pos h order o) (get_or (Rattle.planner.specs.Builds.built h order) (pos h order (target h order o)) (form circular))) (due_at h order (pos h order o) (all_due h order order)) s s₁ k.state runs₁ k.runs, sim₂)

    -- all lines from a place on
    pub all_lines : (os done : List ℕ) → order ≡ done ++ os → (own : Pairing) (s : State) → Sim (length done) os own s → (own' : Pairing) × (s' : State) × Leads (lines_at h order os) s s' × Sim (length order) [] own' s'
    all_lines [] done e own s sim = (own, s, refl, subst (λ z. Sim z [] own s) (sym (ap length (e ∙ append-nil done))) sim)
    all_lines (o ∷ os) done e own s sim =
        let m : mem o order ≡ true = subst (λ z. mem o z ≡ true) (sym e) (mem_right o done (o ∷ os) (mem_head o os)) in
        let q : pos h order o ≡ length done = place_split o order done os e (once_before o order done os (ad.once o) e) in
        let sim' : Sim (pos h order o) (o ∷ os) own s = subst (λ z. Sim z (o ∷ os) own s) (sym q) sim in
        let n : suc (pos h order o) ≡ length (done ++ (o ∷ [])) = ap suc q ∙ sym (length-append done (o ∷ []) ∙ plus_one (length done)) in
        let rest : (own' : Pairing) (s' : State) → Sim (suc (pos h order o)) os own' s' → (own'' : Pairing) × (s'' : State) × Leads (lines_at h order os) s' s'' × Sim (length order) [] own'' s'' =
        λ own' s' z. all_lines os (done ++ (o ∷ [])) (e ∙ sym (append_assoc done (o ∷ []) os)) own' s' (subst (λ w. Sim w os own' s') n z) in
        ⊎_elim
        (λ (l : has_line h order o ≡ true).
        let a = step_line o os own s m l sim' in
        let b = rest a.0 a.1 a.3 in (
          b.0,
          b.1,
          subst (λ z. Leads z s b.1) (sym (cond-true (has_line h order o) (const (pos h order o) (get_or (Rattle.planner.specs.Builds.built h order) (pos h order (target h order o)) (form circular)) ∷ (due_at h order (pos h order o) (all_due h order order) ++ lines_at h order os)) (lines_at h order os) l))
              (leads_append (const (pos h order o) (get_or (Rattle.planner.specs.Builds.built h order) (pos h order (target h order o)) (form circular)) ∷ due_at h order (pos h order o) (all_due h order order)) (lines_at h order os) s a.1 b.1 a.2 b.2),
          b.3,
        ))
        (λ (l : has_line h order o ≡ false).
        let b = rest own s (step_none o os own s m l sim') in (
          b.0,
          b.1,
          subst (λ z. Leads z s b.1) (sym (cond-false (has_line h order o) (const (pos h order o) (get_or (Rattle.planner.specs.Builds.built h order) (pos h order (target h order o)) (form circular)) ∷ (due_at h order (pos h order o) (all_due h order order) ++ lines_at h order os)) (lines_at h order os) l)) b.2,
          b.3,
        ))
        (cases_Bool (has_line h order o))
      where
        plus_one : (n : ℕ) → n + 1 ≡ suc n
        plus_one n = omega arith
