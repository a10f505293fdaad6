-- Members in a row: those before the first that is not ready are there, in their order, and the others are left to do.
use Rattle.std.proofs.Common.{◌≡◌, ℕ, ◌+◌, true, false, List, [], ◌∷◌, ◌++◌, length, Some, Option, sym, refl, ap, ◌∙◌, subst, ⊎_elim, append_assoc, arith}
use Rattle.std.specs.List.{AllByRecursion as All}
use Rattle.std.proofs.lemmas.Bool.{cases_Bool, cond-true, cond-false}
use Rattle.dump.specs.Heaps.{Value, Heap, Part, member}
use Rattle.formed.specs.Formed.{Pairwise, MemberFormed, MemberApart}
use Rattle.script.specs.Syntax.{none, item}
use Rattle.planner.specs.Visits.{refs, edges_of}
use Rattle.planner.specs.Names.{count, ready_before}
use Rattle.planner.specs.Builds.{value_expr, items_of, built}
use Rattle.planner.specs.Lates as lates
use Rattle.planner.specs.Lates.{late_members}
use Rattle.evaluator.specs.Options.{and_then}
use Rattle.evaluator.specs.Stores.{Val, Slot, State}
use Rattle.evaluator.specs.Makes.{members}
use Rattle.evaluator.specs.Isomorphic.{Pairing, Alike, AlikeParts}
use Rattle.effects.specs.Effects.{row_made, somes}
use Rattle.rebuilds.specs.Adequate.{Adequate}
use Rattle.rebuilds.specs.Makes.{within, written_parts}
use Rattle.rebuilds.specs.Pending.{ordered_tasks, part_tasks, occ}
use Rattle.visits.proofs.Lists.{mem_left, mem_right}
use Rattle.pending.proofs.Lists.{all_before}
use Rattle.pending.proofs.Grows.{ext_append, alike_ext}
use Rattle.expressions.proofs.Steps.{Ready, Step, step_nil, step_then, step_ready, occ-++}
use Rattle.expressions.proofs.Values.{Fresh, NamesGood, PlacesGood}
use Rattle.expressions.proofs.Rows.{count_within}
use Rattle.expressions.proofs.Apart.{on_member, pairwise_before, singles, members_end}
use Rattle.expressions.proofs.Readies.{Holds, ReadyGood, ready_good}
use Rattle.effects.specs.Bounded.{Bounded}

-- once one is late, so are all behind it
late_all : (h : Heap) (order : List ℕ) (x T m : ℕ) (ps : List Part) → All (MemberFormed m) ps → ordered_tasks (late_members h order true x T ps) ≡ part_tasks ps
late_all h order x T m [] w = refl
late_all h order x T m (p ∷ ps) w = on_member (λ q. ordered_tasks (late_members h order true x T (q ∷ ps)) ≡ part_tasks (q ∷ ps)) m (λ v k. ap (λ z. lates.adds v ∷ z) (late_all h order x T m ps w.1)) p w.0

module _ (h : Heap) (f : Bounded h) (order : List ℕ) (ad : Adequate h order) (by_name : NamesGood h order) (n : ℕ) (by_place : PlacesGood h order n) (x T t : ℕ) where
  -- the values that are made
  record Row (own : Pairing) (s : State) (ps : List Part) : Type 0 where
    adds : Pairing
    state : State
    vals : List (Option Val)
    front : List Part
    back : List Part
    runs : row_made (items_of h order (built h order) T ps) s ≡ Some (record { vals = vals; state = state })
    step : Step h order own s adds state
    split : ps ≡ front ++ back
    tasks : ordered_tasks (late_members h order false x T ps) ≡ part_tasks back
    alike : AlikeParts (own ++ adds) 0 front (singles (somes vals))
    counts : (y : ℕ) → occ y adds ≡ count y (within h order (written_parts h order T ps))

  -- none, where the first is not ready
  row_late : (own : Pairing) (s : State) (v : Value) (ps : List Part) → All (MemberFormed (length h.objects)) ps → ready_before h order T v ≡ false → Row own s (member v ∷ ps)
  row_late own s v ps w e =
      record {
        adds = [];
        state = s;
        vals = [];
        front = [];
        back = member v ∷ ps;
        runs = ap (λ z. row_made z s) (cond-false (ready_before h order T v) (item (value_expr h order (built h order) v) (items_of h order (built h order) T ps)) none e);
        step = step_nil h order own s;
        split = refl;
        tasks = ap ordered_tasks (cond-false (ready_before h order T v) (late_members h order false x T ps) (record { target = x; task = lates.adds v; ordered = true } ∷ late_members h order true x T ps) e)
            ∙ ap (λ z. lates.adds v ∷ z) (late_all h order x T (length h.objects) ps w);
        alike = refl;
        counts = λ y. sym (ap (λ z. count y (within h order z)) (cond-false (ready_before h order T v) (refs v ++ written_parts h order T ps) [] e));
      }

  row_cons : (own : Pairing) (s : State) (v : Value) (ps : List Part) → ready_before h order T v ≡ true → (c : ReadyGood h f order ad by_name n by_place x T t own s v) → Row (own ++ c.adds) c.state ps → Row own s (member v ∷ ps)
  row_cons own s v ps e c g =
      let d = append_assoc own c.adds g.adds in
      record {
        adds = c.adds ++ g.adds;
        state = g.state;
        vals = Some c.val ∷ g.vals;
        front = member v ∷ g.front;
        back = g.back;
        runs = ap (λ z. row_made z s) (cond-true (ready_before h order T v) (item (value_expr h order (built h order) v) (items_of h order (built h order) T ps)) none e)
            ∙ (ap (λ z. and_then z (λ m. and_then (row_made (items_of h order (built h order) T ps) m.state) (λ l. Some (record { vals = Some m.val ∷ l.vals; state = l.state })))) c.runs
            ∙ ap (λ z. and_then z (λ l. Some (record { vals = Some c.val ∷ l.vals; state = l.state }))) g.runs);
        step = step_then h order own s c.adds c.state g.adds g.state c.step g.step;
        split = ap (λ z. member v ∷ z) g.split;
        tasks = ap ordered_tasks (cond-true (ready_before h order T v) (late_members h order false x T ps) (record { target = x; task = lates.adds v; ordered = true } ∷ late_members h order true x T ps) e) ∙ g.tasks;
        alike = (
          c.val,
          singles (somes g.vals),
          refl,
          subst (λ z. Alike z v c.val) d (alike_ext (own ++ c.adds) ((own ++ c.adds) ++ g.adds) (ext_append (own ++ c.adds) g.adds) v c.val c.says),
          subst (λ z. AlikeParts z 0 g.front (singles (somes g.vals))) d g.alike,
        );
        counts = λ y. occ-++ y c.adds g.adds
            ∙ (ap (λ a. a + occ y g.adds) (c.counts y)
            ∙ (ap (λ a. count y (within h order (refs v)) + a) (g.counts y)
            ∙ (sym (count_within h f order ad by_name n by_place x T t [] y (refs v) (written_parts h order T ps))
            ∙ sym (ap (λ z. count y (within h order z)) (cond-true (ready_before h order T v) (refs v ++ written_parts h order T ps) [] e)))));
      }

  row_good : (own : Pairing) (s : State) → Ready h order own t s → (ps : List Part) → All (MemberFormed (length h.objects)) ps → Holds h f order ad by_name n by_place x T t (edges_of ps)
      → Fresh own (λ y. count y (within h order (written_parts h order T ps))) → Row own s ps
  row_good own s r [] w held fresh = record { adds = []; state = s; vals = []; front = []; back = []; runs = refl; step = step_nil h order own s; split = refl; tasks = refl; alike = refl; counts = λ y. refl }
  row_good own s r (p ∷ ps) w held fresh =
      on_member (λ q. Holds h f order ad by_name n by_place x T t (edges_of (q ∷ ps)) → Fresh own (λ y. count y (within h order (written_parts h order T (q ∷ ps)))) → Row own s (q ∷ ps)) (length h.objects)
      (λ v k hold free. ⊎_elim
      (λ (e : ready_before h order T v ≡ true).
      let both : (y : ℕ) → count y (within h order (written_parts h order T (member v ∷ ps))) ≡ count y (within h order (refs v)) + count y (within h order (written_parts h order T ps)) =
      λ y. ap (λ z. count y (within h order z)) (cond-true (ready_before h order T v) (refs v ++ written_parts h order T ps) [] e) ∙ count_within h f order ad by_name n by_place x T t [] y (refs v) (written_parts h order T ps) in
      let c = ready_good h f order ad by_name n by_place x T t own s r v k.0 e (λ j m. hold j (mem_left j (refs v ++ []) (edges_of ps) (mem_left j (refs v) [] m))) (λ y. let q = free y in let u = both y in omega arith) in
      row_cons own s v ps e c
      (row_good (own ++ c.adds) c.state (step_ready h order own t s c.adds c.state r c.step (λ y. let q = free y in let u = both y in let d = c.counts y in omega arith)) ps w.1
      (λ j m. hold j (mem_right j (refs v ++ []) (edges_of ps) m)) (λ y. let q = free y in let u = both y in let d = c.counts y in let o = occ-++ y own c.adds in omega arith)))
      (λ (e : ready_before h order T v ≡ false). row_late own s v ps w.1 e)
      (cases_Bool (ready_before h order T v)))
      p w.0 held fresh

  -- and the slots of a Set of these values
  pub record MembersGood (own : Pairing) (s : State) (ps : List Part) : Type 0 where
    pub adds : Pairing
    pub state : State
    pub vals : List (Option Val)
    pub front : List Part
    pub back : List Part
    pub runs : row_made (items_of h order (built h order) T ps) s ≡ Some (record { vals = vals; state = state })
    pub step : Step h order own s adds state
    pub split : ps ≡ front ++ back
    pub tasks : ordered_tasks (late_members h order false x T ps) ≡ part_tasks back
    pub slots : List Slot
    pub made : members (somes vals) [] ≡ slots
    pub alike : AlikeParts (own ++ adds) 0 front slots
    pub counts : (y : ℕ) → occ y adds ≡ count y (within h order (written_parts h order T ps))

  pub members_good : (own : Pairing) (s : State) → Ready h order own t s → (ps : List Part) → All (MemberFormed (length h.objects)) ps → Pairwise MemberApart ps → Holds h f order ad by_name n by_place x T t (edges_of ps)
      → Fresh own (λ y. count y (within h order (written_parts h order T ps))) → MembersGood own s ps
  members_good own s r ps w b held fresh =
      let g = row_good own s r ps w held fresh in
      record {
        adds = g.adds;
        state = g.state;
        vals = g.vals;
        front = g.front;
        back = g.back;
        runs = g.runs;
        step = g.step;
        split = g.split;
        tasks = g.tasks;
        slots = singles (somes g.vals);
        made = members_end (own ++ g.adds) (length h.objects) g.front (somes g.vals)
            (all_before (MemberFormed (length h.objects)) g.front g.back (subst (All (MemberFormed (length h.objects))) g.split w))
            (pairwise_before MemberApart g.front g.back (subst (Pairwise MemberApart) g.split b)) g.alike;
        alike = g.alike;
        counts = g.counts;
      }
