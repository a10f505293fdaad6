-- Entries of a Map: those before the first that is not ready are there, each from an array of two, and the others are left to do.
use Rattle.std.proofs.Common.{◌≡◌, ℕ, ◌+◌, Bool, true, false, ◌&&◌, List, [], ◌∷◌, ◌++◌, length, Some, None, Option, sym, refl, ap, ◌∙◌, subst, ⊎_elim, append_assoc, arith}
use Rattle.std.specs.List.{AllByRecursion as All}
use Rattle.std.proofs.lemmas.Bool.{cases_Bool, cond-true, cond-false, and_parts}
use Rattle.dump.specs.Heaps.{Value, Heap, Part, entry}
use Rattle.formed.specs.Formed.{ValueFormed, Pairwise, EntryFormed, EntryApart}
use Rattle.script.specs.Syntax as syntax
use Rattle.script.specs.Syntax.{Items, none}
use Rattle.planner.specs.Visits.{refs, edges_of}
use Rattle.planner.specs.Names.{count, ready_before}
use Rattle.planner.specs.Builds.{value_expr, items_of, built}
use Rattle.planner.specs.Lates.{puts, late_members}
use Rattle.evaluator.specs.Options.{and_then}
use Rattle.evaluator.specs.Stores.{Val, ref, array, Slot, pair, Obj, State}
use Rattle.evaluator.specs.Runs.{element_slots}
use Rattle.evaluator.specs.Isomorphic.{Pairing, Alike, AlikeParts}
use Rattle.effects.specs.Effects.{grown, expr_made, PairsMade, pairs_made, two_made, map_from}
use Rattle.rebuilds.specs.Adequate.{Adequate}
use Rattle.rebuilds.specs.Makes.{within, written_parts}
use Rattle.rebuilds.specs.Pending.{ordered_tasks, part_tasks, occ}
use Rattle.visits.proofs.Lists.{mem_left, mem_right}
use Rattle.pending.proofs.Lists.{all_before}
use Rattle.pending.proofs.Grows.{ext_append, alike_ext}
use Rattle.expressions.proofs.Steps.{Ready, Step, step_nil, step_junk, step_then, step_ready, occ-++}
use Rattle.expressions.proofs.Values.{Fresh, NamesGood, PlacesGood}
use Rattle.expressions.proofs.Rows.{count_within}
use Rattle.expressions.proofs.Apart.{on_entry, pairwise_before, entries_end}
use Rattle.expressions.proofs.Readies.{Holds, ReadyGood, ready_good}
use Rattle.effects.specs.Bounded.{Bounded}

-- once one is late, so are all behind it
late_all : (h : Heap) (order : List ℕ) (x T m : ℕ) (ps : List Part) → All (EntryFormed m) ps → ordered_tasks (late_members h order true x T ps) ≡ part_tasks ps
late_all h order x T m [] w = refl
late_all h order x T m (p ∷ ps) w = on_entry (λ q. ordered_tasks (late_members h order true x T (q ∷ ps)) ≡ part_tasks (q ∷ ps)) m (λ k v a b. ap (λ z. puts k v ∷ z) (late_all h order x T m ps w.1)) p w.0

-- an array of two
abbrev two : Val → Val → Obj
two k v = record { shape = array 2; slots = element_slots 0 (Some k ∷ Some v ∷ []) }

module _ (h : Heap) (f : Bounded h) (order : List ℕ) (ad : Adequate h order) (by_name : NamesGood h order) (n : ℕ) (by_place : PlacesGood h order n) (x T t : ℕ) where
  -- key and value are ready
  abbrev ready_both : Value → Value → Bool
  ready_both k v = ready_before h order T k && ready_before h order T v

  abbrev rest : List Part → Items
  rest ps = items_of h order (built h order) T ps

  -- an entry's key, its value and the array of both
  record Two (own : Pairing) (s : State) (k v : Value) : Type 0 where
    adds : Pairing
    state : State
    key : Val
    val : Val
    arr : Val
    runs : (g : Val → Val → Val → State → Option PairsMade)
        → and_then (expr_made (value_expr h order (built h order) k) s) (λ a. and_then (expr_made (value_expr h order (built h order) v) a.state) (λ b. and_then (two_made a.val b.val b.state) (λ c. g a.val b.val c.val c.state)))
        ≡ g key val arr state
    step : Step h order own s adds state
    says_key : Alike (own ++ adds) k key
    says : Alike (own ++ adds) v val
    counts : (y : ℕ) → occ y adds ≡ count y (within h order (refs k)) + count y (within h order (refs v))

  two_join : (own : Pairing) (s : State) (k v : Value) (a : ReadyGood h f order ad by_name n by_place x T t own s k) → ReadyGood h f order ad by_name n by_place x T t (own ++ a.adds) a.state v → Two own s k v
  two_join own s k v a b =
      let p = append_assoc own a.adds (b.adds ++ (None ∷ [])) in
      let q = append_assoc (own ++ a.adds) b.adds (None ∷ []) in
      record {
        adds = a.adds ++ (b.adds ++ (None ∷ []));
        state = grown b.state (two a.val b.val ∷ []);
        key = a.val;
        val = b.val;
        arr = ref (length b.state.objects);
        runs = λ g.
            ap (λ z. and_then z (λ a. and_then (expr_made (value_expr h order (built h order) v) a.state) (λ b. and_then (two_made a.val b.val b.state) (λ c. g a.val b.val c.val c.state)))) a.runs
            ∙ ap (λ z. and_then z (λ b. and_then (two_made a.val b.val b.state) (λ c. g a.val b.val c.val c.state))) b.runs;
        step = step_then h order own s a.adds a.state (b.adds ++ (None ∷ [])) (grown b.state (two a.val b.val ∷ [])) a.step
            (step_then h order (own ++ a.adds) a.state b.adds b.state (None ∷ []) (grown b.state (two a.val b.val ∷ [])) b.step
            (step_junk h order ((own ++ a.adds) ++ b.adds) b.state (two a.val b.val)));
        says_key = subst (λ z. Alike z k a.val) p (alike_ext (own ++ a.adds) ((own ++ a.adds) ++ (b.adds ++ (None ∷ []))) (ext_append (own ++ a.adds) (b.adds ++ (None ∷ []))) k a.val a.says);
        says = subst (λ z. Alike z v b.val) (q ∙ p) (alike_ext ((own ++ a.adds) ++ b.adds) (((own ++ a.adds) ++ b.adds) ++ (None ∷ [])) (ext_append ((own ++ a.adds) ++ b.adds) (None ∷ [])) v b.val b.says);
        counts = λ y. let i = occ-++ y a.adds (b.adds ++ (None ∷ [])) in let j = occ-++ y b.adds (None ∷ []) in let c = a.counts y in let d = b.counts y in omega arith;
      }

  two_good : (own : Pairing) (s : State) → Ready h order own t s → (k v : Value) → ValueFormed (length h.objects) k → ValueFormed (length h.objects) v → ready_both k v ≡ true
      → Holds h f order ad by_name n by_place x T t (refs k) → Holds h f order ad by_name n by_place x T t (refs v)
      → Fresh own (λ y. count y (within h order (refs k)) + count y (within h order (refs v))) → Two own s k v
  two_good own s r k v fk fv e hk hv fresh =
      let es = and_parts (ready_before h order T k) (ready_before h order T v) e in
      let a = ready_good h f order ad by_name n by_place x T t own s r k fk es.0 hk (λ y. let q = fresh y in omega arith) in
      two_join own s k v a
      (ready_good h f order ad by_name n by_place x T t (own ++ a.adds) a.state
      (step_ready h order own t s a.adds a.state r a.step (λ y. let q = fresh y in let d = a.counts y in omega arith))
      v fv es.1 hv (λ y. let q = fresh y in let d = a.counts y in let o = occ-++ y own a.adds in omega arith))

  -- the entries that are made
  record Pairs (own : Pairing) (s : State) (ps : List Part) : Type 0 where
    adds : Pairing
    state : State
    pairs : List Slot
    arrays : List (Option Val)
    front : List Part
    back : List Part
    runs : pairs_made (rest ps) s ≡ Some (record { pairs = pairs; arrays = arrays; state = state })
    step : Step h order own s adds state
    split : ps ≡ front ++ back
    tasks : ordered_tasks (late_members h order false x T ps) ≡ part_tasks back
    alike : AlikeParts (own ++ adds) 0 front pairs
    counts : (y : ℕ) → occ y adds ≡ count y (within h order (written_parts h order T ps))

  -- none, where the first is not ready
  pairs_late : (own : Pairing) (s : State) (k v : Value) (ps : List Part) → All (EntryFormed (length h.objects)) ps → ready_both k v ≡ false → Pairs own s (entry k v ∷ ps)
  pairs_late own s k v ps w e =
      record {
        adds = [];
        state = s;
        pairs = [];
        arrays = [];
        front = [];
        back = entry k v ∷ ps;
        runs = ap (λ z. pairs_made z s) (cond-false (ready_both k v) (syntax.pair (value_expr h order (built h order) k) (value_expr h order (built h order) v) (rest ps)) none e);
        step = step_nil h order own s;
        split = refl;
        tasks = ap ordered_tasks (cond-false (ready_both k v) (late_members h order false x T ps) (record { target = x; task = puts k v; ordered = true } ∷ late_members h order true x T ps) e)
            ∙ ap (λ z. puts k v ∷ z) (late_all h order x T (length h.objects) ps w);
        alike = refl;
        counts = λ y. sym (ap (λ z. count y (within h order z)) (cond-false (ready_both k v) (refs k ++ (refs v ++ written_parts h order T ps)) [] e));
      }

  -- how often an entry and those behind it make an object
  both_count : (k v : Value) (ps : List Part) → ready_both k v ≡ true → (y : ℕ) → count y (within h order (written_parts h order T (entry k v ∷ ps)))
      ≡ count y (within h order (refs k)) + (count y (within h order (refs v)) + count y (within h order (written_parts h order T ps)))
  both_count k v ps e y =
      ap (λ z. count y (within h order z)) (cond-true (ready_both k v) (refs k ++ (refs v ++ written_parts h order T ps)) [] e)
      ∙ (count_within h f order ad by_name n by_place x T t [] y (refs k) (refs v ++ written_parts h order T ps)
      ∙ ap (λ a. count y (within h order (refs k)) + a) (count_within h f order ad by_name n by_place x T t [] y (refs v) (written_parts h order T ps)))

  pairs_cons : (own : Pairing) (s : State) (k v : Value) (ps : List Part) → ready_both k v ≡ true → (c : Two own s k v) → Pairs (own ++ c.adds) c.state ps → Pairs own s (entry k v ∷ ps)
  pairs_cons own s k v ps e c g =
      let d = append_assoc own c.adds g.adds in
      let more : (u : Value) (w : Val) → Alike (own ++ c.adds) u w → Alike (own ++ (c.adds ++ g.adds)) u w =
      λ u w a. subst (λ z. Alike z u w) d (alike_ext (own ++ c.adds) ((own ++ c.adds) ++ g.adds) (ext_append (own ++ c.adds) g.adds) u w a) in
      record {
        adds = c.adds ++ g.adds;
        state = g.state;
        pairs = pair c.key c.val ∷ g.pairs;
        arrays = Some c.arr ∷ g.arrays;
        front = entry k v ∷ g.front;
        back = g.back;
        runs = ap (λ z. pairs_made z s) (cond-true (ready_both k v) (syntax.pair (value_expr h order (built h order) k) (value_expr h order (built h order) v) (rest ps)) none e)
            ∙ (c.runs (λ a b l z. and_then (pairs_made (rest ps) z) (λ p. Some (record { pairs = pair a b ∷ p.pairs; arrays = Some l ∷ p.arrays; state = p.state })))
            ∙ ap (λ z. and_then z (λ p. Some (record { pairs = pair c.key c.val ∷ p.pairs; arrays = Some c.arr ∷ p.arrays; state = p.state }))) g.runs);
        step = step_then h order own s c.adds c.state g.adds g.state c.step g.step;
        split = ap (λ z. entry k v ∷ z) g.split;
        tasks = ap ordered_tasks (cond-true (ready_both k v) (late_members h order false x T ps) (record { target = x; task = puts k v; ordered = true } ∷ late_members h order true x T ps) e) ∙ g.tasks;
        alike = (c.key, c.val, g.pairs, refl, more k c.key c.says_key, more v c.val c.says, subst (λ z. AlikeParts z 0 g.front g.pairs) d g.alike);
        counts = λ y. let i = occ-++ y c.adds g.adds in let j = c.counts y in let m = g.counts y in let o = both_count k v ps e y in omega arith;
      }

  pairs_good : (own : Pairing) (s : State) → Ready h order own t s → (ps : List Part) → All (EntryFormed (length h.objects)) ps → Holds h f order ad by_name n by_place x T t (edges_of ps)
      → Fresh own (λ y. count y (within h order (written_parts h order T ps))) → Pairs own s ps
  pairs_good own s r [] w held fresh = record { adds = []; state = s; pairs = []; arrays = []; front = []; back = []; runs = refl; step = step_nil h order own s; split = refl; tasks = refl; alike = refl; counts = λ y. refl }
  pairs_good own s r (p ∷ ps) w held fresh =
      on_entry (λ q. Holds h f order ad by_name n by_place x T t (edges_of (q ∷ ps)) → Fresh own (λ y. count y (within h order (written_parts h order T (q ∷ ps)))) → Pairs own s (q ∷ ps)) (length h.objects)
      (λ k v fk fv hold free. ⊎_elim
      (λ (e : ready_both k v ≡ true).
      let both = both_count k v ps e in
      let c = two_good own s r k v fk.0 fv e
      (λ j m. hold j (mem_left j (refs k ++ (refs v ++ [])) (edges_of ps) (mem_left j (refs k) (refs v ++ []) m)))
      (λ j m. hold j (mem_left j (refs k ++ (refs v ++ [])) (edges_of ps) (mem_right j (refs k) (refs v ++ []) (mem_left j (refs v) [] m))))
      (λ y. let q = free y in let u = both y in omega arith) in
      pairs_cons own s k v ps e c
      (pairs_good (own ++ c.adds) c.state (step_ready h order own t s c.adds c.state r c.step (λ y. let q = free y in let u = both y in let d = c.counts y in omega arith)) ps w.1
      (λ j m. hold j (mem_right j (refs k ++ (refs v ++ [])) (edges_of ps) m)) (λ y. let q = free y in let u = both y in let d = c.counts y in let o = occ-++ y own c.adds in omega arith)))
      (λ (e : ready_both k v ≡ false). pairs_late own s k v ps w.1 e)
      (cases_Bool (ready_both k v)))
      p w.0 held fresh

  -- and the slots of a Map of these entries
  pub record EntriesGood (own : Pairing) (s : State) (ps : List Part) : Type 0 where
    pub adds : Pairing
    pub state : State
    pub pairs : List Slot
    pub arrays : List (Option Val)
    pub front : List Part
    pub back : List Part
    pub runs : pairs_made (items_of h order (built h order) T ps) s ≡ Some (record { pairs = pairs; arrays = arrays; state = state })
    pub step : Step h order own s adds state
    pub split : ps ≡ front ++ back
    pub tasks : ordered_tasks (late_members h order false x T ps) ≡ part_tasks back
    pub slots : List Slot
    pub made : map_from pairs [] ≡ slots
    pub alike : AlikeParts (own ++ adds) 0 front slots
    pub counts : (y : ℕ) → occ y adds ≡ count y (within h order (written_parts h order T ps))

  pub entries_good : (own : Pairing) (s : State) → Ready h order own t s → (ps : List Part) → All (EntryFormed (length h.objects)) ps → Pairwise EntryApart ps → Holds h f order ad by_name n by_place x T t (edges_of ps)
      → Fresh own (λ y. count y (within h order (written_parts h order T ps))) → EntriesGood own s ps
  entries_good own s r ps w b held fresh =
      let g = pairs_good own s r ps w held fresh in
      record {
        adds = g.adds;
        state = g.state;
        pairs = g.pairs;
        arrays = g.arrays;
        front = g.front;
        back = g.back;
        runs = g.runs;
        step = g.step;
        split = g.split;
        tasks = g.tasks;
        slots = g.pairs;
        made = entries_end (own ++ g.adds) (length h.objects) g.front g.pairs
            (all_before (EntryFormed (length h.objects)) g.front g.back (subst (All (EntryFormed (length h.objects))) g.split w))
            (pairwise_before EntryApart g.front g.back (subst (Pairwise EntryApart) g.split b)) g.alike;
        alike = g.alike;
        counts = g.counts;
      }
