-- Elements in brackets: each is there, a hole, or a placeholder where it is not ready.
use Rattle.std.proofs.Common.{◌≡◌, ℕ, suc, ◌+◌, Bool, true, false, cond, List, [], ◌∷◌, ◌++◌, length, Some, None, Option, sym, refl, ap, ◌∙◌, subst, ⊎_elim, append_assoc, arith}
use Rattle.std.specs.List.{AllByRecursion as All}
use Rattle.dump.specs.Heaps as heaps
use Rattle.dump.specs.Heaps.{Key, index, Value, Heap, Part, property, element, entry, member, below, cause}
use Rattle.formed.specs.Formed.{ValueFormed, ElementFormed}
use Rattle.script.specs.Syntax.{Expr, Items, item}
use Rattle.planner.specs.Visits.{refs, edges_of}
use Rattle.planner.specs.Names.{count, ready_before}
use Rattle.planner.specs.Builds.{child_expr, element_items, items_of, built}
use Rattle.planner.specs.Lates.{Late, sets, late_elements}
use Rattle.evaluator.specs.Options.{and_then}
use Rattle.evaluator.specs.Stores.{Val, undefined, State}
use Rattle.evaluator.specs.Runs.{element_slots}
use Rattle.evaluator.specs.Isomorphic.{Pairing, Alike}
use Rattle.effects.specs.Effects.{row_made}
use Rattle.rebuilds.specs.Adequate.{Adequate}
use Rattle.rebuilds.specs.Makes.{within, written_parts}
use Rattle.rebuilds.specs.Pending.{In, here, there, Elements, e_end, e_hole, e_same, e_waits, occ}
use Rattle.visits.proofs.Lists.{mem_left, mem_right}
use Rattle.pending.proofs.Grows.{ext_append, alike_ext}
use Rattle.expressions.proofs.Steps.{Ready, Step, step_nil, step_then, step_ready, occ-++}
use Rattle.expressions.proofs.Values.{Fresh, NamesGood, PlacesGood}
use Rattle.expressions.proofs.Rows.{AllHeld, ready_refs, ChildGood, child_good, count_within, element_formed}
use Rattle.effects.specs.Bounded.{Bounded}

-- an element that is no hole is an item
element_item_lem : (h : Heap) (order : List ℕ) (done : List Expr) (t : ℕ) (n : ℕ) (v : Value) (is : Items) → ValueFormed n v → element_items h order done t v is ≡ item (child_expr h order done t v) is
element_item_lem h order done t n heaps.undefined is w = refl
element_item_lem h order done t n heaps.null is w = refl
element_item_lem h order done t n heaps.hole is w = elim w [ ]
element_item_lem h order done t n (heaps.boolean b) is w = refl
element_item_lem h order done t n (heaps.whole z) is w = refl
element_item_lem h order done t n (heaps.double b) is w = refl
element_item_lem h order done t n (heaps.bigint b) is w = refl
element_item_lem h order done t n (heaps.text b) is w = refl
element_item_lem h order done t n (heaps.object o) is w = refl

module _ (h : Heap) (f : Bounded h) (order : List ℕ) (ad : Adequate h order) (by_name : NamesGood h order) (n : ℕ) (by_place : PlacesGood h order n) (x T t : ℕ) (ls : List Late) where
  pub record RowGood (own : Pairing) (s : State) (i : ℕ) (ps : List Part) : Type 0 where
    pub adds : Pairing
    pub state : State
    pub vals : List (Option Val)
    pub runs : row_made (items_of h order (built h order) T ps) s ≡ Some (record { vals = vals; state = state })
    pub step : Step h order own s adds state
    pub says : Elements (own ++ adds) x ls i ps (element_slots i vals)
    pub many : length vals ≡ length ps
    pub counts : (y : ℕ) → occ y adds ≡ count y (within h order (written_parts h order T ps))

  row_cons : (own : Pairing) (s : State) (i : ℕ) (v : Value) (ps : List Part) → ValueFormed (length h.objects) v → (ready_before h order T v ≡ false → In (record { target = x; task = sets (index i) v; ordered = false }) ls)
      → (c : ChildGood h f order ad by_name n by_place x T t ls own s v) → RowGood (own ++ c.adds) c.state (suc i) ps → RowGood own s i (element v ∷ ps)
  row_cons own s i v ps w waits c g =
      let e = append_assoc own c.adds g.adds in
      let q : Elements (own ++ (c.adds ++ g.adds)) x ls (suc i) ps (element_slots (suc i) g.vals) = subst (λ z. Elements z x ls (suc i) ps (element_slots (suc i) g.vals)) e g.says in
      record {
        adds = c.adds ++ g.adds;
        state = g.state;
        vals = Some c.val ∷ g.vals;
        runs =
            ap (λ z. row_made z s) (element_item_lem h order (built h order) T (length h.objects) v (items_of h order (built h order) T ps) w)
            ∙ (ap (λ z. and_then z (λ m. and_then (row_made (items_of h order (built h order) T ps) m.state) (λ l. Some (record { vals = Some m.val ∷ l.vals; state = l.state })))) c.runs
            ∙ ap (λ z. and_then z (λ l. Some (record { vals = Some c.val ∷ l.vals; state = l.state }))) g.runs);
        step = step_then h order own s c.adds c.state g.adds g.state c.step g.step;
        says = ⊎_elim
            (λ (a : Alike (own ++ c.adds) v c.val). e_same (subst (λ z. Alike z v c.val) e (alike_ext (own ++ c.adds) ((own ++ c.adds) ++ g.adds) (ext_append (own ++ c.adds) g.adds) v c.val a)) q)
            (λ (b : (ready_before h order T v ≡ false) × (c.val ≡ undefined)). rw b.1 (e_waits (waits b.0) q))
            c.says;
        many = ap suc g.many;
        counts = λ y. occ-++ y c.adds g.adds ∙ (ap (λ a. a + occ y g.adds) (c.counts y) ∙ (ap (λ a. count y (within h order (ready_refs h f order ad by_name n by_place x T t ls v)) + a) (g.counts y) ∙ sym (count_within h f order ad by_name n by_place x T t ls y (ready_refs h f order ad by_name n by_place x T t ls v) (written_parts h order T ps))));
      }

  row_hole : (own : Pairing) (s : State) (i : ℕ) (ps : List Part) → RowGood own s (suc i) ps → RowGood own s i (element heaps.hole ∷ ps)
  row_hole own s i ps g =
      record {
        adds = g.adds;
        state = g.state;
        vals = None ∷ g.vals;
        runs = ap (λ z. and_then z (λ l. Some (record { vals = None ∷ l.vals; state = l.state }))) g.runs;
        step = g.step;
        says = e_hole g.says;
        many = ap suc g.many;
        counts = g.counts;
      }

  pub row_good : (own : Pairing) (s : State) → Ready h order own t s → (i : ℕ) (ps : List Part) → All (ElementFormed (length h.objects)) ps
      → ((l : Late) → In l (late_elements h order x T i ps) → In l ls) → AllHeld h f order ad by_name n by_place x T t ls (edges_of ps) → Fresh own (λ y. count y (within h order (written_parts h order T ps))) → RowGood own s i ps
  row_good own s r i [] w sub held fresh = record { adds = []; state = s; vals = []; runs = refl; step = step_nil h order own s; says = e_end; many = refl; counts = λ y. refl }
  row_good own s r i (element v ∷ ps) w sub held fresh = ⊎_elim
      (λ (e : v ≡ heaps.hole). subst (λ z. RowGood own s i (element z ∷ ps)) (sym e)
      (row_hole own s i ps (row_good own s r (suc i) ps w.1 (λ l u. sub l (later l (ready_before h order T v) u)) (λ j m. held j (mem_right j (refs v ++ []) (edges_of ps) m))
      (λ y. let q = fresh y in let b = both y in omega arith))))
      (λ (vf : ValueFormed (length h.objects) v).
      let c = child_good h f order ad by_name n by_place x T t ls own s r v vf (λ j m. held j (mem_left j (refs v ++ []) (edges_of ps) (mem_left j (refs v) [] m))) (λ y. let q = fresh y in let u = both y in omega arith) in
      row_cons own s i v ps vf (λ e. sub _ (subst (λ z. In (record { target = x; task = sets (index i) v; ordered = false }) (cond z (late_elements h order x T (suc i) ps) (record { target = x; task = sets (index i) v; ordered = false } ∷ late_elements h order x T (suc i) ps))) (sym e) here)) c
      (row_good (own ++ c.adds) c.state (step_ready h order own t s c.adds c.state r c.step (λ y. let q = fresh y in let u = both y in let d = c.counts y in omega arith))
      (suc i) ps w.1 (λ l u. sub l (later l (ready_before h order T v) u)) (λ j m. held j (mem_right j (refs v ++ []) (edges_of ps) m))
      (λ y. let q = fresh y in let u = both y in let d = c.counts y in let o = occ-++ y own c.adds in omega arith)))
      (element_formed (length h.objects) v w.0)
    where
      both : (y : ℕ) → count y (within h order (written_parts h order T (element v ∷ ps))) ≡ count y (within h order (ready_refs h f order ad by_name n by_place x T t ls v)) + count y (within h order (written_parts h order T ps))
      both y = count_within h f order ad by_name n by_place x T t ls y (ready_refs h f order ad by_name n by_place x T t ls v) (written_parts h order T ps)

      later : (l : Late) (z : Bool) → In l (late_elements h order x T (suc i) ps) → In l (cond z (late_elements h order x T (suc i) ps) (record { target = x; task = sets (index i) v; ordered = false } ∷ late_elements h order x T (suc i) ps))
      later l true u = u
      later l false u = there u
  row_good own s r i (property k v ∷ ps) w sub held fresh = absurd (apart w.0.1)
    where
      apart : {u : Value} → property k v ≡ element u → ⊥
      apart e = let z : ◌≡◌ {A = ℕ} 0 1 = cc in omega arith
  row_good own s r i (entry j v ∷ ps) w sub held fresh = absurd (apart w.0.1)
    where
      apart : {u : Value} → entry j v ≡ element u → ⊥
      apart e = let z : ◌≡◌ {A = ℕ} 0 1 = cc in omega arith
  row_good own s r i (member v ∷ ps) w sub held fresh = absurd (apart w.0.1)
    where
      apart : {u : Value} → member v ≡ element u → ⊥
      apart e = let z : ◌≡◌ {A = ℕ} 0 1 = cc in omega arith
  row_good own s r i (below v ∷ ps) w sub held fresh = absurd (apart w.0.1)
    where
      apart : {u : Value} → below v ≡ element u → ⊥
      apart e = let z : ◌≡◌ {A = ℕ} 0 1 = cc in omega arith
  row_good own s r i (cause v ∷ ps) w sub held fresh = absurd (apart w.0.1)
    where
      apart : {u : Value} → cause v ≡ element u → ⊥
      apart e = let z : ◌≡◌ {A = ℕ} 0 1 = cc in omega arith
