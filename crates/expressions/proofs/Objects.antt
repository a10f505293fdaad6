-- Sets, Maps and Errors: the expression of one makes it, with all that hangs in it, but for what is left to do.
use Rattle.std.proofs.Common.{◌≡◌, ℕ, ◌+◌, ◌≤◌, Bool, true, false, cond, List, [], ◌∷◌, ◌++◌, length, Some, None, codes, Option, sym, refl, ap, ◌∙◌, subst, inl, inr, ⊎_elim, append_assoc, append-nil, arith}
use Rattle.std.proofs.lemmas.Bool.{cases_Bool, cond-true, cond-false}
use Rattle.dump.specs.declared.kinds.ErrorName.{ErrorName}
use Rattle.dump.specs.Heaps as heaps
use Rattle.dump.specs.Heaps.{Text, Value, object, name, Kind, map, set, Part, cause, Heap}
use Rattle.formed.specs.Formed.{ValueFormed, CauseFormed, PartsFormed}
use Rattle.script.specs.Syntax.{none, item}
use Rattle.planner.specs.Visits.{refs, edges, edges_of, object_at}
use Rattle.planner.specs.Names.{count, slot, ready_before}
use Rattle.planner.specs.Builds.{value_expr, kind_expr, object_expr, built}
use Rattle.planner.specs.Lates.{Late, sets, late_members, late_causes, lates_by, lates}
use Rattle.evaluator.specs.Options.{and_then}
use Rattle.evaluator.specs.Stores.{Val, Shape, ordinary, array, mapping, setting, error, Slot, keyed, single, Obj, State, make}
use Rattle.evaluator.specs.Makes.{members}
use Rattle.evaluator.specs.Runs.{element_slots}
use Rattle.evaluator.specs.Isomorphic.{Pairing, Alike, AlikeParts}
use Rattle.effects.specs.Effects.{grown, expr_made, error_made, array_made, map_from, somes, cause_key}
use Rattle.rebuilds.specs.Adequate.{Adequate}
use Rattle.rebuilds.specs.Makes.{within, written_parts, written_by, expr_makes}
use Rattle.rebuilds.specs.Pending.{In, here, ordered_tasks, part_tasks, Front, Pends, occ}
use Rattle.rebuilds.specs.Good.{Good}
use Rattle.visits.proofs.Lists.{mem_left}
use Rattle.pending.proofs.Lists.{in_left, in_right}
use Rattle.pending.proofs.Grows.{ext_append, alike_ext, parts_ext, pending_ext}
use Rattle.places.proofs.Objects.{parts_formed}
use Rattle.expressions.proofs.Steps.{Ready, Step, step_nil, step_junk, step_then, ready_length, occ-++}
use Rattle.expressions.proofs.Values.{Fresh, NamesGood, PlacesGood}
use Rattle.expressions.proofs.Finish.{finish}
use Rattle.expressions.proofs.Readies.{Holds, ReadyGood, ready_good}
use Rattle.expressions.proofs.Members.{MembersGood, members_good}
use Rattle.expressions.proofs.Entries.{EntriesGood, entries_good}
use Rattle.effects.specs.Plans.{stack_text}
use Rattle.effects.specs.Bounded.{Bounded}

-- a part that is a cause
on_cause : (P : Part → Type 0) (n : ℕ) → ((v : Value) → ValueFormed n v → P (cause v)) → (p : Part) → CauseFormed n p → P p
on_cause P n f p w = subst P (sym w.1) (f w.0 w.2)

-- an array literal
abbrev literal : List (Option Val) → Obj
literal vs = record { shape = array (length vs); slots = element_slots 0 vs }

-- the first parts are there, also with one more object in the store
front_more : (own adds : Pairing) (ls : List Late) (ps front back : List Part) (ss : List Slot) → ps ≡ front ++ back → AlikeParts (own ++ adds) 0 front ss → ordered_tasks ls ≡ part_tasks back → Front (own ++ (adds ++ (None ∷ []))) ls ps ss
front_more own adds ls ps front back ss e a d =
    record {
      front = front;
      back = back;
      parts = e;
      alike = subst (λ z. AlikeParts z 0 front ss) (append_assoc own adds (None ∷ [])) (parts_ext (own ++ adds) ((own ++ adds) ++ (None ∷ [])) (ext_append (own ++ adds) (None ∷ [])) 0 front ss a);
      tasks = d;
    }

module _ (h : Heap) (order : List ℕ) (x : ℕ) where
  -- the expression of an object of this kind with these parts makes it
  pub record Whole (own : Pairing) (s : State) (k : Kind) (ps : List Part) : Type 0 where
    pub adds : Pairing
    pub state : State
    pub shape : Shape
    pub slots : List Slot
    pub runs : expr_made (kind_expr h order (built h order) x (slot h order x) k ps) s ≡ make shape slots state
    pub step : Step h order own s adds state
    pub pends : Pends (own ++ adds) x (lates_by h order x (slot h order x) k ps) k ps shape slots
    pub counts : (y : ℕ) → occ y adds ≡ count y (within h order (written_by h order (slot h order x) k ps))

  -- and so the object's own
  pub whole_good : (own : Pairing) (s : State) (k : Kind) → (object_at h x).kind ≡ k → length own ≡ length s.objects → Whole own s k (object_at h x).parts
      → Good h order own s (object_expr h order (built h order) x) (object x) (expr_makes h order x)
  whole_good own s k e len g = done (subst (λ z. Whole own s z (object_at h x).parts) (sym e) g)
    where
      done : Whole own s (object_at h x).kind (object_at h x).parts → Good h order own s (object_expr h order (built h order) x) (object x) (expr_makes h order x)
      done w =
          finish h order own s w.adds w.state x w.shape w.slots (object_expr h order (built h order) x) len w.step w.runs
          (subst (λ z. Pends z x (lates h order x) (object_at h x).kind (object_at h x).parts w.shape w.slots) (append_assoc own w.adds (Some x ∷ []))
          (pending_ext (own ++ w.adds) ((own ++ w.adds) ++ (Some x ∷ [])) (ext_append (own ++ w.adds) (Some x ∷ [])) h x (lates h order x) (record { shape = w.shape; slots = w.slots }) w.pends))
          w.counts

  -- what hangs in it is not there
  pub fresh_written : (own : Pairing) (k : Kind) → (object_at h x).kind ≡ k → Fresh own (expr_makes h order x) → Fresh own (λ y. count y (within h order (written_by h order (slot h order x) k (object_at h x).parts)))
  fresh_written own k e fresh = subst (λ z. Fresh own (λ y. count y (within h order (written_by h order (slot h order x) z (object_at h x).parts)))) e (λ y. let q = fresh y in omega arith)

module _ (h : Heap) (f : Bounded h) (order : List ℕ) (ad : Adequate h order) (by_name : NamesGood h order) (n : ℕ) (by_place : PlacesGood h order n) (x t : ℕ) where
  -- the place at which its name is bound
  abbrev T : ℕ
  T = slot h order x

  abbrev HeldAt : List ℕ → Type 0
  HeldAt js = Holds h f order ad by_name n by_place x T t js

  set_made : (own : Pairing) (s : State) (p : Part) (ps : List Part) → MembersGood h f order ad by_name n by_place x T t own s (p ∷ ps) → Whole h order x own s set (p ∷ ps)
  set_made own s p ps g =
      record {
        adds = g.adds ++ (None ∷ []);
        state = grown g.state (literal g.vals ∷ []);
        shape = setting;
        slots = g.slots;
        runs = ap (λ z. and_then z (λ l. and_then (array_made l.vals l.state) (λ a. make setting (members (somes l.vals) []) a.state))) g.runs
            ∙ ap (λ z. make setting z (grown g.state (literal g.vals ∷ []))) g.made;
        step = step_then h order own s g.adds g.state (None ∷ []) (grown g.state (literal g.vals ∷ [])) g.step (step_junk h order (own ++ g.adds) g.state (literal g.vals));
        pends = (refl, front_more own g.adds (late_members h order false x T (p ∷ ps)) (p ∷ ps) g.front g.back g.slots g.split g.alike g.tasks);
        counts = λ y. let i = occ-++ y g.adds (None ∷ []) in let c = g.counts y in omega arith;
      }

  set_whole : (own : Pairing) (s : State) → Ready h order own t s → (ps : List Part) → PartsFormed h (length h.objects) set ps → HeldAt (edges_of ps) → Fresh own (λ y. count y (within h order (written_parts h order T ps))) → Whole h order x own s set ps
  set_whole own s r [] w held fresh =
      record { adds = []; state = s; shape = setting; slots = []; runs = refl; step = step_nil h order own s; pends = (refl, record { front = []; back = []; parts = refl; alike = refl; tasks = refl }); counts = λ y. refl }
  set_whole own s r (p ∷ ps) w held fresh = set_made own s p ps (members_good h f order ad by_name n by_place x T t own s r (p ∷ ps) w.0 w.1 held fresh)

  map_made : (own : Pairing) (s : State) (p : Part) (ps : List Part) → EntriesGood h f order ad by_name n by_place x T t own s (p ∷ ps) → Whole h order x own s map (p ∷ ps)
  map_made own s p ps g =
      record {
        adds = g.adds ++ (None ∷ []);
        state = grown g.state (literal g.arrays ∷ []);
        shape = mapping;
        slots = g.slots;
        runs = ap (λ z. and_then z (λ l. and_then (array_made l.arrays l.state) (λ a. make mapping (map_from l.pairs []) a.state))) g.runs
            ∙ ap (λ z. make mapping z (grown g.state (literal g.arrays ∷ []))) g.made;
        step = step_then h order own s g.adds g.state (None ∷ []) (grown g.state (literal g.arrays ∷ [])) g.step (step_junk h order (own ++ g.adds) g.state (literal g.arrays));
        pends = (refl, front_more own g.adds (late_members h order false x T (p ∷ ps)) (p ∷ ps) g.front g.back g.slots g.split g.alike g.tasks);
        counts = λ y. let i = occ-++ y g.adds (None ∷ []) in let c = g.counts y in omega arith;
      }

  map_whole : (own : Pairing) (s : State) → Ready h order own t s → (ps : List Part) → PartsFormed h (length h.objects) map ps → HeldAt (edges_of ps) → Fresh own (λ y. count y (within h order (written_parts h order T ps))) → Whole h order x own s map ps
  map_whole own s r [] w held fresh =
      record { adds = []; state = s; shape = mapping; slots = []; runs = refl; step = step_nil h order own s; pends = (refl, record { front = []; back = []; parts = refl; alike = refl; tasks = refl }); counts = λ y. refl }
  map_whole own s r (p ∷ ps) w held fresh = map_made own s p ps (entries_good h f order ad by_name n by_place x T t own s r (p ∷ ps) w.0 w.1 held fresh)

  module _ (m : ErrorName) (message stack : Option Text) where
    -- the stack is always left to do
    stack_waits : (ps : List Part) → In (record { target = x; task = sets (name (codes "stack")) (stack_text stack); ordered = false }) (lates_by h order x T (heaps.error m message stack) ps)
    stack_waits ps = in_right (late_causes h order x T ps) here

    -- the references of a cause, if it is ready
    cause_written : (v : Value) (b : Bool) → ready_before h order T v ≡ b → written_parts h order T (cause v ∷ []) ≡ cond b (refs v) []
    cause_written v b e = append-nil (cond (ready_before h order T v) (refs v) []) ∙ ap (λ z. cond z (refs v) []) e

    -- an error without a cause, with one that is ready, and with one that is not
    error_bare : (own : Pairing) (s : State) → Whole h order x own s (heaps.error m message stack) []
    error_bare own s =
        record {
          adds = [];
          state = s;
          shape = error m message None;
          slots = [];
          runs = refl;
          step = step_nil h order own s;
          pends = record { trace = None; shape = refl; stacked = inr (refl, stack_waits []); caused = inl refl };
          counts = λ y. refl;
        }

    error_ready : (own : Pairing) (s : State) (v : Value) → ready_before h order T v ≡ true → ReadyGood h f order ad by_name n by_place x T t own s v → Whole h order x own s (heaps.error m message stack) (cause v ∷ [])
    error_ready own s v e c =
        let options : Obj = record { shape = ordinary; slots = keyed cause_key c.val ∷ [] } in
        record {
          adds = c.adds ++ (None ∷ []);
          state = grown c.state (options ∷ []);
          shape = error m message None;
          slots = single c.val ∷ [];
          runs = ap (λ z. error_made z m message s) (cond-true (ready_before h order T v) (item (value_expr h order (built h order) v) none) none e)
              ∙ ap (λ z. and_then z (λ c. and_then (make ordinary (keyed cause_key c.val ∷ []) c.state) (λ o. make (error m message None) (single c.val ∷ []) o.state))) c.runs;
          step = step_then h order own s c.adds c.state (None ∷ []) (grown c.state (options ∷ [])) c.step (step_junk h order (own ++ c.adds) c.state options);
          pends = record {
            trace = None;
            shape = refl;
            stacked = inr (refl, stack_waits (cause v ∷ []));
            caused = inl (
              c.val,
              [],
              refl,
              subst (λ z. Alike z v c.val) (append_assoc own c.adds (None ∷ []))
                  (alike_ext (own ++ c.adds) ((own ++ c.adds) ++ (None ∷ [])) (ext_append (own ++ c.adds) (None ∷ [])) v c.val c.says),
              refl,
            );
          };
          counts = λ y. let i = occ-++ y c.adds (None ∷ []) in let d = c.counts y in let w = ap (λ z. count y (within h order z)) (cause_written v true e) in omega arith;
        }

    error_late : (own : Pairing) (s : State) (v : Value) → ready_before h order T v ≡ false → Whole h order x own s (heaps.error m message stack) (cause v ∷ [])
    error_late own s v e =
        record {
          adds = [];
          state = s;
          shape = error m message None;
          slots = [];
          runs = ap (λ z. error_made z m message s) (cond-false (ready_before h order T v) (item (value_expr h order (built h order) v) none) none e);
          step = step_nil h order own s;
          pends = record {
            trace = None;
            shape = refl;
            stacked = inr (refl, stack_waits (cause v ∷ []));
            caused = inr (refl, (v, refl, in_left (stack_late ∷ []) (subst (In cause_late) (sym (cond-false (ready_before h order T v) [] (cause_late ∷ []) e)) here)));
          };
          counts = λ y. sym (ap (λ z. count y (within h order z)) (cause_written v false e));
        }
      where
        cause_late : Late
        cause_late = record { target = x; task = sets (name (codes "cause")) v; ordered = false }

        stack_late : Late
        stack_late = record { target = x; task = sets (name (codes "stack")) (stack_text stack); ordered = false }

    error_whole : (own : Pairing) (s : State) → Ready h order own t s → (ps : List Part) → PartsFormed h (length h.objects) (heaps.error m message stack) ps → HeldAt (edges_of ps) → Fresh own (λ y. count y (within h order (written_parts h order T ps)))
        → Whole h order x own s (heaps.error m message stack) ps
    error_whole own s r [] w held fresh = error_bare own s
    error_whole own s r (p ∷ []) w held fresh =
        on_cause (λ q. HeldAt (edges_of (q ∷ [])) → Fresh own (λ y. count y (within h order (written_parts h order T (q ∷ [])))) → Whole h order x own s (heaps.error m message stack) (q ∷ [])) (length h.objects)
        (λ v c hold free. ⊎_elim
        (λ (e : ready_before h order T v ≡ true).
        error_ready own s v e
        (ready_good h f order ad by_name n by_place x T t own s r v c e (λ j i. hold j (mem_left j (refs v ++ []) [] (mem_left j (refs v) [] i)))
        (λ y. subst (λ z. occ y own + count y (within h order z) ≤ 1) (cause_written v true e) (free y))))
        (λ (e : ready_before h order T v ≡ false). error_late own s v e)
        (cases_Bool (ready_before h order T v)))
        p w.1.0 held fresh
    error_whole own s r (p ∷ q ∷ ps) w held fresh = absurd (let l = w.0 in omega arith)

  pub set_good : (own : Pairing) (s : State) → Ready h order own t s → (object_at h x).kind ≡ set → Holds h f order ad by_name n by_place x (slot h order x) t (edges h x) → Fresh own (expr_makes h order x)
      → Good h order own s (object_expr h order (built h order) x) (object x) (expr_makes h order x)
  set_good own s r e held fresh =
      whole_good h order x own s set e (ready_length h order own t s r)
      (set_whole own s r (object_at h x).parts (parts_formed h f x set e) held (fresh_written h order x own set e fresh))

  pub map_good : (own : Pairing) (s : State) → Ready h order own t s → (object_at h x).kind ≡ map → Holds h f order ad by_name n by_place x (slot h order x) t (edges h x) → Fresh own (expr_makes h order x)
      → Good h order own s (object_expr h order (built h order) x) (object x) (expr_makes h order x)
  map_good own s r e held fresh =
      whole_good h order x own s map e (ready_length h order own t s r)
      (map_whole own s r (object_at h x).parts (parts_formed h f x map e) held (fresh_written h order x own map e fresh))

  pub error_good : (own : Pairing) (s : State) → Ready h order own t s → (m : ErrorName) (message stack : Option Text) → (object_at h x).kind ≡ heaps.error m message stack → Holds h f order ad by_name n by_place x (slot h order x) t (edges h x) → Fresh own (expr_makes h order x)
      → Good h order own s (object_expr h order (built h order) x) (object x) (expr_makes h order x)
  error_good own s r m message stack e held fresh =
      whole_good h order x own s (heaps.error m message stack) e (ready_length h order own t s r)
      (error_whole m message stack own s r (object_at h x).parts (parts_formed h f x (heaps.error m message stack) e) held (fresh_written h order x own (heaps.error m message stack) e fresh))
