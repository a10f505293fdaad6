-- The follow-ups that are due at one place: each in its turn mends its object.
use Rattle.std.proofs.Common.{◌≡◌, ℕ, suc, ◌+◌, ◌<◌, ◌≤◌, Bool, true, false, cond, ◌&&◌, ◌||◌, eqb, leb, ◌⊎◌, List, [], ◌∷◌, ◌++◌, None, sym, refl, ap, ◌∙◌, subst, inl, inr, ⊎_elim, append_assoc, append-nil, arith, eq-eqb, ne_eqb, eqb-true, le-leb, leb-false, leb-true}
use borrow.Author.Tests.{eqb-false, lt-leb}
use Rattle.std.proofs.lemmas.Bool.{cases_Bool, cases_eq, cond-true, cond-false, both_ways, or_parts, or_from, or_right}
use Rattle.dump.specs.Heaps.{Heap}
use Rattle.script.specs.Syntax.{Stmt}
use Rattle.planner.specs.Visits.{mem}
use Rattle.planner.specs.Names.{count, slot, has_name}
use Rattle.planner.specs.Lates.{Late, lates, due}
use Rattle.planner.specs.Lines.{target, has_line, late_stmt, all_due, due_at}
use Rattle.evaluator.specs.Stores.{State}
use Rattle.evaluator.specs.Commands.{ran}
use Rattle.evaluator.specs.Isomorphic.{Pairing}
use Rattle.effects.specs.Effects.{stmt_done}
use Rattle.rebuilds.specs.Adequate.{Adequate}
use Rattle.rebuilds.specs.Makes.{task_refs, task_makes, due_makes}
use Rattle.rebuilds.specs.Pending.{In, here, there, ordered_tasks, due_from, left_at, occ}
use Rattle.rebuilds.specs.Good.{Built}
use Rattle.visits.proofs.Lists.{mem_head, count_mem}
use Rattle.pending.proofs.Lists.{in_right}
use Rattle.pending.proofs.Stores.{store_left}
use Rattle.places.proofs.Lines.{line_target, target_same}
use Rattle.places.proofs.Lates.{no_lates}
use Rattle.places.proofs.Dues.{due_late, due_own, due_names, due_sorted}
use Rattle.expressions.proofs.Steps.{occ-++}
use Rattle.expressions.proofs.Values.{Fresh}
use Rattle.simulation.proofs.Runs.{Leads, leads_append, leads_cons}
use Rattle.effects.specs.Bounded.{Bounded}

-- lists of follow-ups with their dues

pub from_append : (t : ℕ) (ds es : List (ℕ × Late)) → due_from t (ds ++ es) ≡ due_from t ds ++ due_from t es
from_append t [] es = refl
from_append t (d ∷ ds) es = go (leb t d.0) (from_append t ds es)
  where
    go : (b : Bool) → due_from t (ds ++ es) ≡ due_from t ds ++ due_from t es → cond b (d.1 ∷ due_from t (ds ++ es)) (due_from t (ds ++ es)) ≡ cond b (d.1 ∷ due_from t ds) (due_from t ds) ++ due_from t es
    go true e = ap (λ z. d.1 ∷ z) e
    go false e = e

pub from_keeps : (t : ℕ) (d : ℕ × Late) (ds : List (ℕ × Late)) → t ≤ d.0 → due_from t (d ∷ ds) ≡ d.1 ∷ due_from t ds
from_keeps t d ds le = cond-true (leb t d.0) (d.1 ∷ due_from t ds) (due_from t ds) (le-leb t d.0 le)

pub from_drops : (t : ℕ) (d : ℕ × Late) (ds : List (ℕ × Late)) → d.0 < t → due_from t (d ∷ ds) ≡ due_from t ds
from_drops t d ds lt = cond-false (leb t d.0) (d.1 ∷ due_from t ds) (due_from t ds) (lt-leb t d.0 lt)

-- where none is due at t, as many are left after it as before
pub from_next : (t : ℕ) (ds : List (ℕ × Late)) → ((d : ℕ) (l : Late) → In (d, l) ds → d ≡ t → ⊥) → due_from t ds ≡ due_from (suc t) ds
from_next t [] n = refl
from_next t (d ∷ ds) n =
    let ih = from_next t ds (λ e l i. n e l (there i)) in
    let ne = n d.0 d.1 here in
    ⊎_elim (λ (le : t ≤ d.0). from_keeps t d ds le ∙ (ap (λ z. d.1 ∷ z) ih ∙ sym (from_keeps (suc t) d ds (omega arith))))
    (λ (lt : d.0 < t). from_drops t d ds lt ∙ (ih ∙ sym (from_drops (suc t) d ds (omega arith))))
    (le_or_lt t d.0)
  where
    le_or_lt : (a b : ℕ) → (a ≤ b) ⊎ (b < a)
    le_or_lt a b = ⊎_elim (λ (e : leb a b ≡ true). inl (leb-true a b e)) (λ (e : leb a b ≡ false). inr (leb-false a b e)) (cases_Bool (leb a b))

-- none that is ordered is left of those whose dues are past
pub from_unordered : (t : ℕ) (ds : List (ℕ × Late)) → ((e : ℕ) (m : Late) → In (e, m) ds → m.ordered ≡ true → e < t) → ordered_tasks (due_from t ds) ≡ []
from_unordered t [] n = refl
from_unordered t (d ∷ ds) n =
    let ih = from_unordered t ds (λ e m i. n e m (there i)) in
    ⊎_elim
    (λ (le : leb t d.0 ≡ true).
    let u : d.1.ordered ≡ false = ⊎_elim (λ (y : d.1.ordered ≡ true). absurd (let a = n d.0 d.1 here y in let b = leb-true t d.0 le in omega arith)) (λ z. z) (cases_Bool d.1.ordered) in
    ap ordered_tasks (cond-true (leb t d.0) (d.1 ∷ due_from t ds) (due_from t ds) le) ∙ (cond-false d.1.ordered (d.1.task ∷ ordered_tasks (due_from t ds)) (ordered_tasks (due_from t ds)) u ∙ ih))
    (λ (gt : leb t d.0 ≡ false). ap ordered_tasks (cond-false (leb t d.0) (d.1 ∷ due_from t ds) (due_from t ds) gt) ∙ ih)
    (cases_Bool (leb t d.0))

module _ (h : Heap) (order : List ℕ) where
  pub at_append : (t : ℕ) (ds es : List (ℕ × Late)) → due_at h order t (ds ++ es) ≡ due_at h order t ds ++ due_at h order t es
  at_append t [] es = refl
  at_append t (d ∷ ds) es = go (eqb t d.0) (at_append t ds es)
    where
      go : (b : Bool) → due_at h order t (ds ++ es) ≡ due_at h order t ds ++ due_at h order t es → cond b (late_stmt h order d.1 ∷ due_at h order t (ds ++ es)) (due_at h order t (ds ++ es)) ≡ cond b (late_stmt h order d.1 ∷ due_at h order t ds) (due_at h order t ds) ++ due_at h order t es
      go true e = ap (λ z. late_stmt h order d.1 ∷ z) e
      go false e = e

  pub makes_append : (t : ℕ) (ds es : List (ℕ × Late)) (y : ℕ) → due_makes h order t (ds ++ es) y ≡ due_makes h order t ds y + due_makes h order t es y
  makes_append t [] es y = omega arith
  makes_append t (d ∷ ds) es y = let ih = makes_append t ds es y in omega arith

  -- one follow-up: its statement runs, and its object no longer lacks it
  pub record LateDone (own : Pairing) (s : State) (left : ℕ → List Late) (t X : ℕ) (l : Late) (K L : List Late) : Type 0 where
    pub adds : Pairing
    pub state : State
    pub runs : stmt_done (late_stmt h order l) s ≡ ran state None
    pub built : Built h order (own ++ adds) (λ x. cond (eqb x X) (K ++ L) (left x)) t state
    pub counts : (y : ℕ) → occ y adds ≡ task_makes h order l.task y

  abbrev pub LatesRun : Type 0
  LatesRun =
      (X : ℕ) → mem X order ≡ true → has_name h order X ≡ true → (l : Late) → In l (lates h order X) → (t : ℕ) → slot h order X < t
      → ((j : ℕ) → mem j (task_refs l.task) ≡ true → has_name h order j ≡ true → slot h order j < t) → (own : Pairing) (s : State) (left : ℕ → List Late) (K L : List Late) → Built h order own left t s
      → ((x : ℕ) → mem x order ≡ true → has_name h order x ≡ false → left x ≡ []) → left X ≡ K ++ (l ∷ L) → (l.ordered ≡ true → ordered_tasks K ≡ []) → Fresh own (task_makes h order l.task) → LateDone own s left t X l K L

-- a choice with equal parts
pub choose : {A : Type 0} (b : Bool) (x x' y y' : A) → (b ≡ true → x ≡ x') → (b ≡ false → y ≡ y') → cond b x y ≡ cond b x' y'
choose true x x' y y' p q = p refl
choose false x x' y y' p q = q refl

module _ (h : Heap) (f : Bounded h) (order : List ℕ) (ad : Adequate h order) (late-runs : LatesRun h order) (t : ℕ) where
  pub built_left : (own : Pairing) (left left' : ℕ → List Late) (n : ℕ) (s : State) → ((x : ℕ) → left x ≡ left' x) → Built h order own left n s → Built h order own left' n s
  built_left own left left' n s e b = record { store = store_left h own left left' e b.store; names = b.names }

  -- some statements run, and leave objects lacking less
  pub record Flushed (own : Pairing) (s : State) (left : ℕ → List Late) (xs : List Stmt) (makes : ℕ → ℕ) : Type 0 where
    pub adds : Pairing
    pub state : State
    pub runs : Leads xs s state
    pub built : Built h order (own ++ adds) left (suc t) state
    pub counts : (y : ℕ) → occ y adds ≡ makes y

  flushed_nil : (own : Pairing) (s : State) (left : ℕ → List Late) → Built h order own left (suc t) s → Flushed own s left [] (λ y. 0)
  flushed_nil own s left b = record { adds = []; state = s; runs = refl; built = subst (λ z. Built h order z left (suc t) s) (sym (append-nil own)) b; counts = λ y. refl }

  -- one more follow-up of an object, where those behind it run
  module _ (X : ℕ) (m_x : mem X order ≡ true) (n_x : has_name h order X ≡ true) (left : ℕ → List Late) (still : (x : ℕ) → mem x order ≡ true → has_name h order x ≡ false → left x ≡ []) (d : ℕ × Late) (Dr Dk : List (ℕ × Late)) (e : due h order 0 (lates h order X) ≡ Dk ++ (d ∷ Dr)) where
    abbrev After : List (ℕ × Late) → List (ℕ × Late) → ℕ → List Late
    After kept rest x = cond (eqb x X) (due_from (suc t) kept ++ due_from t rest) (left x)

    abbrev Rest : Type 0
    Rest = (own : Pairing) (s : State) → Built h order own (After (Dk ++ (d ∷ [])) Dr) (suc t) s → Fresh own (due_makes h order t Dr) → Flushed own s (λ x. cond (eqb x X) (due_from (suc t) ((Dk ++ (d ∷ [])) ++ Dr)) (left x)) (due_at h order t Dr) (due_makes h order t Dr)

    abbrev Goal : Pairing → State → Type 0
    Goal own s = Flushed own s (λ x. cond (eqb x X) (due_from (suc t) (Dk ++ (d ∷ Dr))) (left x)) (due_at h order t (d ∷ Dr)) (due_makes h order t (d ∷ Dr))

    back : (own : Pairing) (s : State) → Built h order own (λ x. cond (eqb x X) (due_from (suc t) ((Dk ++ (d ∷ [])) ++ Dr)) (left x)) (suc t) s → Built h order own (λ x. cond (eqb x X) (due_from (suc t) (Dk ++ (d ∷ Dr))) (left x)) (suc t) s
    back own s b = subst (λ z. Built h order own (λ x. cond (eqb x X) (due_from (suc t) z) (left x)) (suc t) s) (append_assoc Dk (d ∷ []) Dr) b

    -- it is due now
    flush_now : t ≡ d.0 → (own : Pairing) (s : State) → Built h order own (After Dk (d ∷ Dr)) (suc t) s → Fresh own (due_makes h order t (d ∷ Dr)) → Rest → Goal own s
    flush_now q own s b fresh rest =
        let inside : In d (due h order 0 (lates h order X)) = subst (λ z. In d z) (sym e) (in_right Dk here) in
        let makes : (y : ℕ) → due_makes h order t (d ∷ Dr) y ≡ task_makes h order d.1.task y + due_makes h order t Dr y = λ y. ap (λ z. cond z (task_makes h order d.1.task y) 0 + due_makes h order t Dr y) (eq-eqb t d.0 q) in
        let g : LateDone h order own s (After Dk (d ∷ Dr)) (suc t) X d.1 (due_from (suc t) Dk) (due_from t Dr) =
        late-runs X m_x n_x d.1 (due_late h order 0 d.0 d.1 (lates h order X) inside) (suc t) (let a = due_own h order X d.0 d.1 inside in omega arith)
        (λ j m n. let a = due_names h order X d.0 d.1 j inside m n in omega arith) own s (After Dk (d ∷ Dr)) (due_from (suc t) Dk) (due_from t Dr) b
        (λ x mx nx. cond-false (eqb x X) (due_from (suc t) Dk ++ due_from t (d ∷ Dr)) (left x) (ne_eqb x X (λ q. both_ways (has_name h order x) nx (subst (λ z. has_name h order z ≡ true) (sym q) n_x))) ∙ still x mx nx)
        (cond-true (eqb X X) (due_from (suc t) Dk ++ due_from t (d ∷ Dr)) (left X) (eq-eqb X X refl) ∙ ap (λ z. due_from (suc t) Dk ++ z) (from_keeps t d Dr (omega arith)))
        (λ o. from_unordered (suc t) Dk (λ c m i om. let a = due_sorted h order (lates h order X) Dk Dr d.0 c d.1 m e o i om in omega arith))
        (λ y. let a = fresh y in let c = makes y in omega arith) in
        let kept : due_from (suc t) Dk ≡ due_from (suc t) (Dk ++ (d ∷ [])) = sym (from_append (suc t) Dk (d ∷ []) ∙ (ap (λ z. due_from (suc t) Dk ++ z) (from_drops (suc t) d [] (omega arith)) ∙ append-nil (due_from (suc t) Dk))) in
        let r = rest (own ++ g.adds) g.state
        (built_left (own ++ g.adds) (λ x. cond (eqb x X) (due_from (suc t) Dk ++ due_from t Dr) (After Dk (d ∷ Dr) x)) (After (Dk ++ (d ∷ [])) Dr) (suc t) g.state
        (λ x. choose (eqb x X) _ _ _ _ (λ z. ap (λ w. w ++ due_from t Dr) kept) (λ z. cond-false (eqb x X) (due_from (suc t) Dk ++ due_from t (d ∷ Dr)) (left x) z)) g.built)
        (λ y. let a = fresh y in let c = makes y in let k = g.counts y in let o = occ-++ y own g.adds in omega arith) in
        record {
          adds = g.adds ++ r.adds;
          state = r.state;
          runs = subst (λ z. Leads z s r.state) (sym (cond-true (eqb t d.0) (late_stmt h order d.1 ∷ due_at h order t Dr) (due_at h order t Dr) (eq-eqb t d.0 q)))
              (leads_cons (late_stmt h order d.1) (due_at h order t Dr) s g.state r.state g.runs r.runs);
          built = back (own ++ (g.adds ++ r.adds)) r.state (subst (λ z. Built h order z (λ x. cond (eqb x X) (due_from (suc t) ((Dk ++ (d ∷ [])) ++ Dr)) (left x)) (suc t) r.state) (append_assoc own g.adds r.adds) r.built);
          counts = λ y. let a = occ-++ y g.adds r.adds in let c = makes y in let k = g.counts y in let o = r.counts y in omega arith;
        }

    -- it is due at another time
    flush_later : (t ≡ d.0 → ⊥) → (own : Pairing) (s : State) → Built h order own (After Dk (d ∷ Dr)) (suc t) s → Fresh own (due_makes h order t (d ∷ Dr)) → Rest → Goal own s
    flush_later q own s b fresh rest =
        let n = ne_eqb t d.0 q in
        let makes : (y : ℕ) → due_makes h order t (d ∷ Dr) y ≡ due_makes h order t Dr y = λ y. ap (λ z. cond z (task_makes h order d.1.task y) 0 + due_makes h order t Dr y) n ∙ zero_plus (due_makes h order t Dr y) in
        let kept : due_from (suc t) Dk ++ due_from t (d ∷ Dr) ≡ due_from (suc t) (Dk ++ (d ∷ [])) ++ due_from t Dr =
        ap (λ z. due_from (suc t) Dk ++ z) (over (leb t d.0) refl) ∙ (sym (append_assoc (due_from (suc t) Dk) (due_from (suc t) (d ∷ [])) (due_from t Dr)) ∙ ap (λ z. z ++ due_from t Dr) (sym (from_append (suc t) Dk (d ∷ [])))) in
        let r = rest own s (built_left own (After Dk (d ∷ Dr)) (After (Dk ++ (d ∷ [])) Dr) (suc t) s (λ x. ap (λ z. cond (eqb x X) z (left x)) kept) b) (λ y. let a = fresh y in let c = makes y in omega arith) in
        record {
          adds = r.adds;
          state = r.state;
          runs = subst (λ z. Leads z s r.state) (sym (cond-false (eqb t d.0) (late_stmt h order d.1 ∷ due_at h order t Dr) (due_at h order t Dr) n)) r.runs;
          built = back (own ++ r.adds) r.state r.built;
          counts = λ y. r.counts y ∙ sym (makes y);
        }
      where
        zero_plus : (n : ℕ) → 0 + n ≡ n
        zero_plus n = omega arith

        over : (b : Bool) → leb t d.0 ≡ b → due_from t (d ∷ Dr) ≡ due_from (suc t) (d ∷ []) ++ due_from t Dr
        over true c = let le = leb-true t d.0 c in from_keeps t d Dr le ∙ ap (λ z. z ++ due_from t Dr) (sym (from_keeps (suc t) d [] (omega arith)))
        over false c = let lt = leb-false t d.0 c in from_drops t d Dr lt ∙ ap (λ z. z ++ due_from t Dr) (sym (from_drops (suc t) d [] (omega arith)))

  -- the follow-ups of one object
  flush_one : (X : ℕ) → mem X order ≡ true → has_name h order X ≡ true → (left : ℕ → List Late) → ((x : ℕ) → mem x order ≡ true → has_name h order x ≡ false → left x ≡ []) → (Dr Dk : List (ℕ × Late)) → due h order 0 (lates h order X) ≡ Dk ++ Dr → (own : Pairing) (s : State)
      → Built h order own (λ x. cond (eqb x X) (due_from (suc t) Dk ++ due_from t Dr) (left x)) (suc t) s → Fresh own (due_makes h order t Dr)
      → Flushed own s (λ x. cond (eqb x X) (due_from (suc t) (Dk ++ Dr)) (left x)) (due_at h order t Dr) (due_makes h order t Dr)
  flush_one X m_x n_x left still [] Dk e own s b fresh =
      flushed_nil own s (λ x. cond (eqb x X) (due_from (suc t) (Dk ++ [])) (left x))
      (built_left own _ (λ x. cond (eqb x X) (due_from (suc t) (Dk ++ [])) (left x)) (suc t) s (λ x. choose (eqb x X) _ _ (left x) (left x) (λ q. append-nil (due_from (suc t) Dk) ∙ sym (ap (due_from (suc t)) (append-nil Dk))) (λ q. refl)) b)
  flush_one X m_x n_x left still (d ∷ Dr) Dk e own s b fresh =
      let rest : Rest X m_x n_x left still d Dr Dk e = λ own' s' b' fresh'. flush_one X m_x n_x left still Dr (Dk ++ (d ∷ [])) (e ∙ sym (append_assoc Dk (d ∷ []) Dr)) own' s' b' fresh' in
      ⊎_elim (λ (q : t ≡ d.0). flush_now X m_x n_x left still d Dr Dk e q own s b fresh rest) (λ (q : t ≡ d.0 → ⊥). flush_later X m_x n_x left still d Dr Dk e q own s b fresh rest) (cases_eq t d.0)

  -- the objects of these places still have what is due at t
  abbrev pub is_target : List ℕ → ℕ → Bool
  is_target [] x = false
  is_target (o ∷ os) x = (has_line h order o && eqb x (target h order o)) || is_target os x

  abbrev pub left_by : List ℕ → ℕ → List Late
  left_by os x = cond (is_target os x) (left_at h order t x) (left_at h order (suc t) x)

  left_still : (os : List ℕ) (x : ℕ) → mem x order ≡ true → has_name h order x ≡ false → left_by os x ≡ []
  left_still os x m n = let e = no_lates h f order ad x m n in choose (is_target os x) (left_at h order t x) [] (left_at h order (suc t) x) [] (λ q. ap (λ z. due_from t (due h order 0 z)) e) (λ q. ap (λ z. due_from (suc t) (due h order 0 z)) e) ∙ same (is_target os x)
    where
      same : (b : Bool) → cond {A = List Late} b [] [] ≡ []
      same true = refl
      same false = refl

  pub no_target : (o : ℕ) (os : List ℕ) → mem o order ≡ true → has_line h order o ≡ true → mem o os ≡ false → ((p : ℕ) → mem p os ≡ true → mem p order ≡ true) → is_target os (target h order o) ≡ false
  no_target o [] m l n sub = refl
  no_target o (p ∷ os) m l n sub =
      let q = or_parts (eqb o p) (mem o os) n in
      or_from (has_line h order p && eqb (target h order o) (target h order p)) (is_target os (target h order o)) (apart (has_line h order p) refl)
      (no_target o os m l q.1 (λ r i. sub r (or_right (eqb r p) (mem r os) i)))
    where
      apart : (b : Bool) → has_line h order p ≡ b → (b && eqb (target h order o) (target h order p)) ≡ false
      apart true c = ne_eqb (target h order o) (target h order p) (λ t≡. eqb-false o p (or_parts (eqb o p) (mem o os) n).0 (target_same h f order ad o p m (sub p (mem_head p os)) l c t≡))
      apart false c = refl

  -- two lots of statements
  flushed_both : (own : Pairing) (s : State) (left left' : ℕ → List Late) (xs ys : List Stmt) (m m' : ℕ → ℕ) → (a : Flushed own s left xs m) → Flushed (own ++ a.adds) a.state left' ys m' → Flushed own s left' (xs ++ ys) (λ y. m y + m' y)
  flushed_both own s left left' xs ys m m' a b =
      record {
        adds = a.adds ++ b.adds;
        state = b.state;
        runs = leads_append xs ys s a.state b.state a.runs b.runs;
        built = subst (λ z. Built h order z left' (suc t) b.state) (append_assoc own a.adds b.adds) b.built;
        counts = λ y. let c = occ-++ y a.adds b.adds in let d = a.counts y in let e = b.counts y in omega arith;
      }

  flushed_makes : (own : Pairing) (s : State) (left : ℕ → List Late) (xs xs' : List Stmt) (m m' : ℕ → ℕ) → xs ≡ xs' → ((y : ℕ) → m y ≡ m' y) → Flushed own s left xs m → Flushed own s left xs' m'
  flushed_makes own s left xs xs' m m' e f a =
      record { adds = a.adds; state = a.state; runs = subst (λ z. Leads z s a.state) e a.runs; built = a.built; counts = λ y. a.counts y ∙ f y }

  module _ (o : ℕ) (os : List ℕ) (sub : (p : ℕ) → mem p (o ∷ os) ≡ true → mem p order ≡ true) (once : (y : ℕ) → count y (o ∷ os) ≤ 1) (own : Pairing) (s : State) where
    X : ℕ
    X = target h order o

    D : List (ℕ × Late)
    D = due h order 0 (lates h order (target h order o))

    not_later : mem o os ≡ false
    not_later = ⊎_elim (λ (m : mem o os ≡ true). absurd (let a = once o in let b = count_mem o os m in let c = eq-eqb o o refl in grind arith)) (λ n. n) (cases_Bool (mem o os))

    abbrev More : Type 0
    More = (own' : Pairing) (s' : State) → Built h order own' (left_by os) (suc t) s' → Fresh own' (due_makes h order t (all_due h order os)) → Flushed own' s' (left_at h order (suc t)) (due_at h order t (all_due h order os)) (due_makes h order t (all_due h order os))

    start_left : has_line h order o ≡ true → (x : ℕ) → left_by (o ∷ os) x ≡ cond (eqb x X) (due_from t D) (left_by os x)
    unfolding X D
    start_left l x = go (eqb x (target h order o)) refl
      where
        go : (b : Bool) → eqb x (target h order o) ≡ b → cond ((has_line h order o && b) || is_target os x) (left_at h order t x) (left_at h order (suc t) x) ≡ cond b (due_from t (due h order 0 (lates h order (target h order o)))) (left_by os x)
        go true e = ap (λ z. cond ((z && true) || is_target os x) (left_at h order t x) (left_at h order (suc t) x)) l ∙ ap (λ z. due_from t (due h order 0 (lates h order z))) (eqb-true x (target h order o) e)
        go false e = ap (λ z. cond ((z && false) || is_target os x) (left_at h order t x) (left_at h order (suc t) x)) l

    end_left : has_line h order o ≡ true → (x : ℕ) → cond (eqb x X) (due_from (suc t) D) (left_by os x) ≡ left_by os x
    unfolding X D
    end_left l x = go (eqb x (target h order o)) refl
      where
        go : (b : Bool) → eqb x (target h order o) ≡ b → cond b (due_from (suc t) (due h order 0 (lates h order (target h order o)))) (left_by os x) ≡ left_by os x
        go true e =
            let q = eqb-true x (target h order o) e in
            ap (λ z. due_from (suc t) (due h order 0 (lates h order z))) (sym q)
            ∙ sym (cond-false (is_target os x) (left_at h order t x) (left_at h order (suc t) x) (ap (is_target os) q ∙ no_target o os (sub o (mem_head o os)) l not_later (λ p i. sub p (or_right (eqb p o) (mem p os) i))))
        go false e = refl

    target_flush : mem (target h order o) order ≡ true → has_name h order (target h order o) ≡ true → Built h order own (λ x. cond (eqb x X) (due_from t D) (left_by os x)) (suc t) s → Fresh own (due_makes h order t D)
        → Flushed own s (λ x. cond (eqb x X) (due_from (suc t) D) (left_by os x)) (due_at h order t D) (due_makes h order t D)
    unfolding X D
    target_flush m_x n_x b fresh = flush_one (target h order o) m_x n_x (left_by os) (left_still os) (due h order 0 (lates h order (target h order o))) [] refl own s b fresh

    flush_line : has_line h order o ≡ true → Built h order own (left_by (o ∷ os)) (suc t) s → Fresh own (due_makes h order t (D ++ all_due h order os)) → More
        → Flushed own s (left_at h order (suc t)) (due_at h order t (D ++ all_due h order os)) (due_makes h order t (D ++ all_due h order os))
    flush_line l b fresh more =
        let lt = line_target h f order ad o (sub o (mem_head o os)) l in
        let r : Flushed own s (λ x. cond (eqb x X) (due_from (suc t) D) (left_by os x)) (due_at h order t D) (due_makes h order t D) =
        target_flush lt.0 lt.1 (built_left own (left_by (o ∷ os)) (λ x. cond (eqb x X) (due_from t D) (left_by os x)) (suc t) s (start_left l) b)
        (λ y. let a = fresh y in let c = makes_append h order t D (all_due h order os) y in omega arith) in
        flushed_makes own s (left_at h order (suc t)) (due_at h order t D ++ due_at h order t (all_due h order os)) (due_at h order t (D ++ all_due h order os))
        (λ y. due_makes h order t D y + due_makes h order t (all_due h order os) y) (due_makes h order t (D ++ all_due h order os)) (sym (at_append h order t D (all_due h order os))) (λ y. sym (makes_append h order t D (all_due h order os) y))
        (flushed_both own s (λ x. cond (eqb x X) (due_from (suc t) D) (left_by os x)) (left_at h order (suc t)) (due_at h order t D) (due_at h order t (all_due h order os)) (due_makes h order t D) (due_makes h order t (all_due h order os)) r
        (more (own ++ r.adds) r.state (built_left (own ++ r.adds) (λ x. cond (eqb x X) (due_from (suc t) D) (left_by os x)) (left_by os) (suc t) r.state (end_left l) r.built)
        (λ y. let a = fresh y in let c = makes_append h order t D (all_due h order os) y in let d = r.counts y in let e = occ-++ y own r.adds in omega arith)))

    flush_cons : Built h order own (left_by (o ∷ os)) (suc t) s → Fresh own (due_makes h order t (all_due h order (o ∷ os))) → More
        → Flushed own s (left_at h order (suc t)) (due_at h order t (all_due h order (o ∷ os))) (due_makes h order t (all_due h order (o ∷ os)))
    unfolding D
    flush_cons b fresh more = go (has_line h order o) refl fresh
      where
        go : (z : Bool) → has_line h order o ≡ z → Fresh own (due_makes h order t (cond z (due h order 0 (lates h order (target h order o)) ++ all_due h order os) (all_due h order os)))
            → Flushed own s (left_at h order (suc t)) (due_at h order t (cond z (due h order 0 (lates h order (target h order o)) ++ all_due h order os) (all_due h order os))) (due_makes h order t (cond z (due h order 0 (lates h order (target h order o)) ++ all_due h order os) (all_due h order os)))
        go true l fr = flush_line l b fr more
        go false l fr = more own s (built_left own (left_by (o ∷ os)) (left_by os) (suc t) s (λ x. ap (λ z. cond ((z && eqb x (target h order o)) || is_target os x) (left_at h order t x) (left_at h order (suc t) x)) l) b) fr

  -- all follow-ups that are due at t
  pub flush : (os : List ℕ) → ((p : ℕ) → mem p os ≡ true → mem p order ≡ true) → ((y : ℕ) → count y os ≤ 1) → (own : Pairing) (s : State) → Built h order own (left_by os) (suc t) s → Fresh own (due_makes h order t (all_due h order os))
      → Flushed own s (left_at h order (suc t)) (due_at h order t (all_due h order os)) (due_makes h order t (all_due h order os))
  flush [] sub once own s b fresh = flushed_nil own s (left_at h order (suc t)) b
  flush (o ∷ os) sub once own s b fresh =
      flush_cons o os sub once own s b fresh (λ own' s' b' fresh'. flush os (λ p i. sub p (or_right (eqb p o) (mem p os) i)) (λ y. let a = once y in omega arith) own' s' b' fresh')
