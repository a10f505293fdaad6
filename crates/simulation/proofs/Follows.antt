-- A follow-up runs: its values evaluate, and it mends its object.
use Rattle.std.proofs.Common.{◌≡◌, ℕ, ◌+◌, ◌<◌, ◌≤◌, true, false, cond, eqb, List, [], ◌∷◌, ◌++◌, length, Some, None, sym, refl, ap, ◌∙◌, subst, ⊎_elim, append_assoc, arith, eq-eqb, ne_eqb}
use Rattle.std.proofs.lemmas.Bool.{cond-true, cond-false}
use Rattle.dump.specs.declared.kinds.ViewKind.{ViewKind}
use Rattle.dump.specs.Heaps.{Key, Value, Heap}
use Rattle.formed.specs.Formed.{ValueFormed}
use Rattle.script.specs.Texts.{listing}
use Rattle.planner.specs.Visits.{refs, mem, object_at}
use Rattle.planner.specs.Names.{count, pos, slot, has_name, backing, backed, buffer_in}
use Rattle.planner.specs.Lates.{Task, sets, puts, adds, fills, Late, lates}
use Rattle.planner.specs.Lines.{target, late_stmt, expr_of, bytes_of}
use Rattle.evaluator.specs.Options.{and_then, nth}
use Rattle.evaluator.specs.Stores.{ref, Obj, State, made, lookup, place, object_of, change}
use Rattle.evaluator.specs.Commands.{assigned, ran}
use Rattle.evaluator.specs.Makes.{set_pair, add_one}
use Rattle.evaluator.specs.Isomorphic.{Pairing, Alike, key_text}
use Rattle.effects.specs.Effects.{grown, expr_made, stmt_done, filled_by}
use Rattle.rebuilds.specs.Adequate.{Adequate}
use Rattle.rebuilds.specs.Makes.{within, task_refs, task_makes}
use Rattle.rebuilds.specs.Pending.{In, a_nil, a_cons, Pending, Store, ordered_tasks, occ}
use Rattle.rebuilds.specs.Good.{Good, Built}
use Rattle.visits.proofs.Lists.{mem_left, mem_right}
use Rattle.pending.proofs.Lists.{all2-++}
use Rattle.effects.proofs.Options.{nth_left}
use Rattle.pending.proofs.Grows.{ext_append, alike_ext, pending_ext, store_ext}
use Rattle.pending.proofs.Stores.{store_at, store_set, one_place}
use Rattle.pending.proofs.Sets.{sets_done}
use Rattle.pending.proofs.Maps.{puts_done, adds_done}
use Rattle.pending.proofs.Bytes.{fills_done}
use Rattle.effects.proofs.Options.{cases_option}
use Rattle.places.proofs.Names.{own_slot, child_before, backs, backs_of}
use Rattle.places.proofs.Lines.{bound_at}
use Rattle.places.proofs.Lates.{late_target, late_refs, view_lates, fixed_lates, no_lates}
use Rattle.counts.proofs.Inner.{count_within}
use Rattle.expressions.proofs.Steps.{Ready, step_then, step_good, step_ready, occ-++, store_on}
use Rattle.expressions.proofs.Values.{Fresh, Held, value_good}
use Rattle.simulation.proofs.Flushes.{LateDone, LatesRun}
use Rattle.simulation.proofs.Inside.{counted, inside_within, within_unnamed}
use Rattle.simulation.proofs.Exprs.{names_good, places_good}
use Rattle.simulation.proofs.Tasks.{TaskFormed, task_formed}
use Rattle.effects.specs.Bounded.{Bounded}

no_in : {l : Late} {ls : List Late} → ls ≡ [] → In l ls → ⊥
no_in {l} e i = elim (subst (λ z. In l z) e i) [ ]

module _ (h : Heap) (f : Bounded h) (order : List ℕ) (ad : Adequate h order) where
  module _ (X : ℕ) (m_x : mem X order ≡ true) (n_x : has_name h order X ≡ true) (l : Late) (i : In l (lates h order X)) (t : ℕ) (lt : slot h order X < t)
      (names : (j : ℕ) → mem j (task_refs l.task) ≡ true → has_name h order j ≡ true → slot h order j < t) (own : Pairing) (s : State) (left : ℕ → List Late) (K L : List Late) (b : Built h order own left t s)
      (still : (x : ℕ) → mem x order ≡ true → has_name h order x ≡ false → left x ≡ []) (eq : left X ≡ K ++ (l ∷ L)) (ord : l.ordered ≡ true → ordered_tasks K ≡ []) (fresh : Fresh own (task_makes h order l.task)) where
    range : X < length h.objects
    range = ad.inside X m_x

    -- where the object stands
    spot : (p : ℕ) × (lookup s.names (slot h order X) ≡ Some (ref p)) × (nth own p ≡ Some (Some X))
    spot =
        let a = bound_at h f order ad X m_x n_x in
        let c = b.names.bound a.line a.member a.has (let q = a.place in omega arith) in
        ⊎_elim
        (λ (e : (target h order a.line ≡ X) × (backing h order X ≡ None)). (c.0, ap (lookup s.names) (sym a.place) ∙ c.1, subst (λ z. nth own c.0 ≡ Some (Some z)) e.0 c.2))
        (λ (e : (a.line ≡ X) × ((w : ℕ) × (backing h order X ≡ Some w))). let k = backs h f order ad X e.1.0 m_x e.1.1 in absurd (no_in (fixed_lates h order X k.bytes k.buffer_is) i))
        a.is

    -- it is no backing view
    unbacked : backed h order X ≡ None
    unbacked = ⊎_elim (λ (e : backed h order X ≡ None). e)
        (λ (e : (c : ℕ) × (backed h order X ≡ Some c)). let k = backs_of h f order ad e.0 X m_x e.1 in absurd (no_in (view_lates h order X k.kind 0 k.n false k.view_is) i))
        (cases_option (backed h order X))

    held : (j : ℕ) → mem j (task_refs l.task) ≡ true → Held h order (pos h order X) t j
    held j m =
        let e = late_refs h order X l j i m in
        let sl = own_slot h order X unbacked in
        record { member = ad.closed X j m_x e; named = λ n. names j m n; unnamed = λ n. let q = child_before h f order ad X j m_x e n in (q, omega arith) }

    ready : Ready h order own t s
    ready = record { left = left; built = b }

    p : ℕ
    p = spot.0

    obj : Obj
    obj = (store_at h own left b.store spot.0 X spot.2).0

    obj_at : nth s.objects p ≡ Some obj
    unfolding p obj
    obj_at = (store_at h own left b.store spot.0 X spot.2).1

    obj_pends : Pending h own X (K ++ (l ∷ L)) obj
    unfolding obj
    obj_pends = subst (λ z. Pending h own X z obj) eq (store_at h own left b.store spot.0 X spot.2).2

    named : lookup s.names (slot h order X) ≡ Some (ref p)
    unfolding p
    named = spot.1

    at : nth own p ≡ Some (Some X)
    unfolding p
    at = spot.2

    pub now_left : ℕ → List Late
    now_left x = cond (eqb x X) (K ++ L) (left x)

    -- an object that is made has no follow-ups
    added_left : (more : Pairing) → ((y : ℕ) → occ y more ≡ task_makes h order l.task y) → (x : ℕ) → 1 ≤ occ x more → lates h order x ≡ left x
    added_left more counts x n =
        let m : mem x (within h order (task_refs l.task)) ≡ true = counted x (within h order (task_refs l.task)) (subst (λ z. 1 ≤ z) (counts x) n) in
        let u = within_unnamed h f order ad (task_refs l.task) (λ j mj. ad.closed X j m_x (late_refs h order X l j i mj)) x m in
        let o = inside_within h order (task_refs l.task) x m in
        no_lates h f order ad x o u ∙ sym (still x o u)

    -- once the values are there, the object is mended
    mended : (new : List Obj) (more : Pairing) → Store h (own ++ more) (lates h order) more new → ((y : ℕ) → occ y more ≡ task_makes h order l.task y) → (u : Obj) → Pending h (own ++ more) X (K ++ L) u
        → Built h order (own ++ more) now_left t (change p u (grown s new))
    unfolding now_left
    mended new more objects counts u q =
        record {
          store = store_set h (own ++ more) left (λ x. cond (eqb x X) (K ++ L) (left x))
              (all2-++ (store_ext own (own ++ more) (ext_append own more) h left b.store) (store_on h (own ++ more) (lates h order) left (added_left more counts) objects))
              p X u (nth_left own more p (Some X) at)
              (λ r e. one_place X (own ++ more) (let a = fresh X in let c = counts X in let d = occ-++ X own more in omega arith) p r (nth_left own more p (Some X) at) e)
              (subst (λ z. Pending h (own ++ more) X z u) (sym (cond-true (eqb X X) (K ++ L) (left X) (eq-eqb X X refl))) q)
              (λ j n. cond-false (eqb j X) (K ++ L) (left j) (ne_eqb j X n));
          names = record {
            bound = λ o m k w. let c = b.names.bound o m k w in (c.0, c.1, nth_left own more c.0 (Some (target h order o)) c.2);
            free = b.names.free;
          };
        }

    pends_now : (more : Pairing) → Pending h (own ++ more) X (K ++ (l ∷ L)) obj
    pends_now more = pending_ext own (own ++ more) (ext_append own more) h X (K ++ (l ∷ L)) obj obj_pends

    obj_now : (new : List Obj) → nth (s.objects ++ new) p ≡ Some obj
    obj_now new = nth_left s.objects new p obj obj_at

    pub record Ran (task : Task) : Type 0 where
      pub adds : Pairing
      pub state : State
      pub runs : stmt_done (late_stmt h order (record { target = X; task = task; ordered = l.ordered })) s ≡ ran state None
      pub built : Built h order (own ++ adds) now_left t state
      pub counts : (y : ℕ) → occ y adds ≡ task_makes h order task y

    values : (v : Value) → ValueFormed (length h.objects) v → ((j : ℕ) → mem j (refs v) ≡ true → Held h order (pos h order X) t j) → Fresh own (λ y. count y (within h order (refs v)))
        → Good h order own s (expr_of h order v) v (λ y. count y (within h order (refs v)))
    values v w hd fr = value_good h order f ad (names_good h f order ad) (pos h order X) (places_good h f order ad (pos h order X)) own t s ready v w hd fr

    run_sets : (k : Key) (v : Value) → l.task ≡ sets k v → Ran (sets k v)
    run_sets k v e =
        let g = values v (subst (λ z. TaskFormed (length h.objects) z) e (task_formed h order f X l i)) (λ j m. held j (subst (λ z. mem j (task_refs z) ≡ true) (sym e) m)) (λ y. let a = fresh y in let c = ap (λ z. task_makes h order z y) e in omega arith) in
        let d = sets_done h order (own ++ g.adds) X K L l obj k v g.val f range i ord (pends_now g.adds) e g.says in
        record {
          adds = g.adds;
          state = change p d.0 (grown s g.new);
          runs =
              ap (λ z. and_then z (λ tg. and_then (expr_made (expr_of h order v) s) (λ m. and_then (place tg) (λ q. and_then (object_of m.state tg) (λ o. and_then (assigned (key_text k) m.val o.shape o.slots) (λ u. ran (change q u m.state) None)))))) named
              ∙ (ap (λ z. and_then z (λ m. and_then (object_of m.state (ref p)) (λ o. and_then (assigned (key_text k) m.val o.shape o.slots) (λ u. ran (change p u m.state) None)))) g.runs
              ∙ (ap (λ z. and_then z (λ o. and_then (assigned (key_text k) g.val o.shape o.slots) (λ u. ran (change p u (grown s g.new)) None))) (obj_now g.new)
              ∙ ap (λ z. and_then z (λ u. ran (change p u (grown s g.new)) None)) d.1));
          built = mended g.new g.adds g.objects (λ y. g.counts y ∙ sym (ap (λ z. task_makes h order z y) e)) d.0 d.2;
          counts = g.counts;
        }

    run_adds : (v : Value) → l.task ≡ adds v → Ran (adds v)
    run_adds v e =
        let g = values v (subst (λ z. TaskFormed (length h.objects) z) e (task_formed h order f X l i)) (λ j m. held j (subst (λ z. mem j (task_refs z) ≡ true) (sym e) m)) (λ y. let a = fresh y in let c = ap (λ z. task_makes h order z y) e in omega arith) in
        let d = adds_done h order (own ++ g.adds) X K L l obj v g.val f range i ord (pends_now g.adds) e g.says in
        record {
          adds = g.adds;
          state = change p d.0 (grown s g.new);
          runs =
              ap (λ z. and_then z (λ tg. and_then (expr_made (expr_of h order v) s) (λ m. and_then (place tg) (λ q. and_then (object_of m.state tg) (λ o. and_then (add_one q o.shape o.slots (m.val ∷ []) m.state) (λ u. ran u.state None)))))) named
              ∙ (ap (λ z. and_then z (λ m. and_then (object_of m.state (ref p)) (λ o. and_then (add_one p o.shape o.slots (m.val ∷ []) m.state) (λ u. ran u.state None)))) g.runs
              ∙ (ap (λ z. and_then z (λ o. and_then (add_one p o.shape o.slots (g.val ∷ []) (grown s g.new)) (λ u. ran u.state None))) (obj_now g.new)
              ∙ ap (λ z. and_then z (λ u. ran u.state None)) (d.1 p (grown s g.new))));
          built = mended g.new g.adds g.objects (λ y. g.counts y ∙ sym (ap (λ z. task_makes h order z y) e)) d.0 d.2;
          counts = g.counts;
        }

    run_fills : (k : ViewKind) → l.task ≡ fills k → Ran (fills k)
    run_fills k e =
        let d = fills_done h order own X K L l obj k f range i obj_pends e p s obj_at in
        record {
          adds = junk d.0;
          state = change p d.1 (grown s d.0);
          runs =
              ap (λ z. and_then z (λ tg. and_then (place tg) (λ q. and_then (filled_by (listing k) q tg k (bytes_of h order (buffer_in (object_at h X).kind)) s) (λ u. ran u None)))) named
              ∙ ap (λ z. and_then z (λ u. ran u None)) d.3;
          built = mended d.0 (junk d.0) (junk_store d.0) (λ y. junk_counts d.0 y ∙ sym (ap (λ z. task_makes h order z y) e)) d.1 (pending_ext own (own ++ junk d.0) (ext_append own (junk d.0)) h X (K ++ L) d.1 d.4);
          counts = λ y. junk_counts d.0 y;
        }
      where
        junk : List Obj → Pairing
        junk [] = []
        junk (x ∷ xs) = None ∷ junk xs

        filler : (z : Pairing) (xs : List Obj) → Store h z (lates h order) (junk xs) xs
        filler z [] = a_nil
        filler z (x ∷ xs) = a_cons tt (filler z xs)

        junk_store : (xs : List Obj) → Store h (own ++ junk xs) (lates h order) (junk xs) xs
        junk_store xs = filler (own ++ junk xs) xs

        junk_counts : (xs : List Obj) (y : ℕ) → occ y (junk xs) ≡ 0
        junk_counts [] y = refl
        junk_counts (x ∷ xs) y = junk_counts xs y

    run_puts : (k v : Value) → l.task ≡ puts k v → Ran (puts k v)
    run_puts k v e =
        let w : TaskFormed (length h.objects) (puts k v) = subst (λ z. TaskFormed (length h.objects) z) e (task_formed h order f X l i) in
        let makes : (y : ℕ) → task_makes h order l.task y ≡ count y (within h order (refs k)) + count y (within h order (refs v)) = λ y. ap (λ z. task_makes h order z y) e ∙ count_within h order y (refs k) (refs v) in
        let g = values k w.0 (λ j m. held j (subst (λ z. mem j (task_refs z) ≡ true) (sym e) (mem_left j (refs k) (refs v) m))) (λ y. let a = fresh y in let c = makes y in omega arith) in
        second k v e w makes g
        (value_good h order f ad (names_good h f order ad) (pos h order X) (places_good h f order ad (pos h order X)) (own ++ g.adds) t (grown s g.new)
        (step_ready h order own t s g.adds (grown s g.new) ready (step_good h order g) (λ y. let a = fresh y in let c = makes y in let d = g.counts y in omega arith))
        v w.1 (λ j m. held j (subst (λ z. mem j (task_refs z) ≡ true) (sym e) (mem_right j (refs k) (refs v) m)))
        (λ y. let a = fresh y in let c = makes y in let d = g.counts y in let o = occ-++ y own g.adds in omega arith))
      where
        second : (k v : Value) → l.task ≡ puts k v → TaskFormed (length h.objects) (puts k v) → ((y : ℕ) → task_makes h order l.task y ≡ count y (within h order (refs k)) + count y (within h order (refs v)))
            → (g : Good h order own s (expr_of h order k) k (λ y. count y (within h order (refs k)))) → Good h order (own ++ g.adds) (grown s g.new) (expr_of h order v) v (λ y. count y (within h order (refs v))) → Ran (puts k v)
        second k v e w makes g g₂ =
            let st = step_then h order own s g.adds (grown s g.new) g₂.adds (grown (grown s g.new) g₂.new) (step_good h order g) (step_good h order g₂) in
            let assoc = append_assoc own g.adds g₂.adds in
            let ak : Alike (own ++ (g.adds ++ g₂.adds)) k g.val = subst (λ z. Alike z k g.val) assoc (alike_ext (own ++ g.adds) ((own ++ g.adds) ++ g₂.adds) (ext_append (own ++ g.adds) g₂.adds) k g.val g.says) in
            let av : Alike (own ++ (g.adds ++ g₂.adds)) v g₂.val = subst (λ z. Alike z v g₂.val) assoc g₂.says in
            let d = puts_done h order (own ++ (g.adds ++ g₂.adds)) X K L l obj k v g.val g₂.val f range i ord (pends_now (g.adds ++ g₂.adds)) e ak av in
            let counts : (y : ℕ) → occ y (g.adds ++ g₂.adds) ≡ task_makes h order l.task y = λ y. let a = occ-++ y g.adds g₂.adds in let c = makes y in let x = g.counts y in let z = g₂.counts y in omega arith in
            record {
              adds = g.adds ++ g₂.adds;
              state = change p d.0 (grown s st.new);
              runs =
                  ap (λ z. and_then z (λ tg. and_then (expr_made (expr_of h order k) s) (λ a. and_then (expr_made (expr_of h order v) a.state) (λ c. and_then (place tg) (λ q. and_then (object_of c.state tg) (λ o. and_then (set_pair q o.shape o.slots (a.val ∷ c.val ∷ []) c.state) (λ u. ran u.state None))))))) named
                  ∙ (ap (λ z. and_then z (λ a. and_then (expr_made (expr_of h order v) a.state) (λ c. and_then (object_of c.state (ref p)) (λ o. and_then (set_pair p o.shape o.slots (a.val ∷ c.val ∷ []) c.state) (λ u. ran u.state None))))) g.runs
                  ∙ (ap (λ z. and_then z (λ c. and_then (object_of c.state (ref p)) (λ o. and_then (set_pair p o.shape o.slots (g.val ∷ c.val ∷ []) c.state) (λ u. ran u.state None)))) (g₂.runs ∙ ap (made g₂.val) st.is)
                  ∙ (ap (λ z. and_then z (λ o. and_then (set_pair p o.shape o.slots (g.val ∷ g₂.val ∷ []) (grown s st.new)) (λ u. ran u.state None))) (obj_now st.new)
                  ∙ ap (λ z. and_then z (λ u. ran u.state None)) (d.1 p (grown s st.new)))));
              built = mended st.new (g.adds ++ g₂.adds) st.objects counts d.0 d.2;
              counts = λ y. counts y ∙ ap (λ z. task_makes h order z y) e;
            }

    by_task_lem : (task : Task) → l.task ≡ task → Ran task
    by_task_lem (sets k v) e = run_sets k v e
    by_task_lem (puts k v) e = run_puts k v e
    by_task_lem (adds v) e = run_adds v e
    by_task_lem (fills k) e = run_fills k e

    pub late_done : LateDone h order own s left t X l K L
    unfolding now_left
    late_done =
        let r = by_task_lem l.task refl in
        record {
          adds = r.adds;
          state = r.state;
          runs = ap (λ z. stmt_done (late_stmt h order (record { target = z; task = l.task; ordered = l.ordered })) s) (late_target h order X l i) ∙ r.runs;
          built = r.built;
          counts = r.counts;
        }

  pub lates_run : LatesRun h order
  lates_run X m_x n_x l i t lt names own s left K L b still eq ord fresh = late_done X m_x n_x l i t lt names own s left K L b still eq ord fresh
