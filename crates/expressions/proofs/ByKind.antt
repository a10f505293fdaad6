-- Objects by kind: wrapped values, dates and patterns, plain objects and arrays evaluate.
use Rattle.std.proofs.Common.{◌≡◌, ℕ, suc, ◌≤◌, Bool, true, false, cond, not, ltb, List, [], ◌∷◌, ◌++◌, length, take, drop, Some, None, sym, refl, ap, ◌∙◌, subst, ⊎_elim, append_assoc, append-nil, arith, length-take, ltb-true}
use Rattle.std.specs.List.{AllByRecursion as All}
use Rattle.std.proofs.lemmas.Bool.{or_cases, both_ways}
use Rattle.dump.specs.Heaps.{Key, index, Value, object, Heap, Kind, plain, sparse, dense, Part, property, element, entry, member, below, cause}
use Rattle.formed.specs.Formed.{PropertyFormed, PartsFormed}
use Rattle.script.specs.Syntax as syntax
use Rattle.script.specs.Syntax.{Expr, group, braces, brackets}
use Rattle.planner.specs.Visits.{edges, edges_of, mem, object_at}
use Rattle.planner.specs.Names.{count, pos, slot, has_name, backed, ready_before}
use Rattle.planner.specs.Builds.{kind_expr, items_of, built}
use Rattle.planner.specs.Lates.{Late, sets, lates_by, lates, late_properties, late_elements}
use Rattle.evaluator.specs.Options.{and_then}
use Rattle.evaluator.specs.Stores as stores
use Rattle.evaluator.specs.Stores.{Shape, Slot, State, make}
use Rattle.evaluator.specs.Runs.{element_slots}
use Rattle.evaluator.specs.Isomorphic.{Pairing}
use Rattle.effects.specs.Effects.{expr_made, array_made}
use Rattle.rebuilds.specs.Adequate.{Adequate}
use Rattle.rebuilds.specs.Makes.{within, written_by, written, expr_makes}
use Rattle.rebuilds.specs.Pending.{Properties, Elements, ordered_tasks, part_tasks, Pends}
use Rattle.rebuilds.specs.Good.{Good}
use Rattle.pending.proofs.Lists.{in_left}
use Rattle.pending.proofs.Grows.{ext_append, properties_ext, elements_ext}
use Rattle.places.proofs.Names.{own_slot, child_before}
use Rattle.places.proofs.Lates.{edges_take}
use Rattle.expressions.proofs.Steps.{Ready, step_nil, ready_length}
use Rattle.expressions.proofs.Values.{Fresh, Held, NamesGood, PlacesGood}
use Rattle.expressions.proofs.Keys.{b_end}
use Rattle.expressions.proofs.Rows.{AllBehind, KeysGood, keys_good}
use Rattle.expressions.proofs.Elements.{RowGood, row_good}
use Rattle.expressions.proofs.Finish.{finish}
use Rattle.effects.specs.Bounded.{Bounded}

-- tasks in their order

pub tasks_append : (ls ms : List Late) → ordered_tasks (ls ++ ms) ≡ ordered_tasks ls ++ ordered_tasks ms
tasks_append [] ms = refl
tasks_append (l ∷ ls) ms = go l.ordered (tasks_append ls ms)
  where
    go : (b : Bool) → ordered_tasks (ls ++ ms) ≡ ordered_tasks ls ++ ordered_tasks ms → cond b (l.task ∷ ordered_tasks (ls ++ ms)) (ordered_tasks (ls ++ ms)) ≡ cond b (l.task ∷ ordered_tasks ls) (ordered_tasks ls) ++ ordered_tasks ms
    go true e = ap (λ z. l.task ∷ z) e
    go false e = e

module _ (h : Heap) (order : List ℕ) (x T : ℕ) where
  pub elements_unordered : (i : ℕ) (ps : List Part) → ordered_tasks (late_elements h order x T i ps) ≡ []
  elements_unordered i [] = refl
  elements_unordered i (property k v ∷ ps) = elements_unordered (suc i) ps
  elements_unordered i (element v ∷ ps) = go (ready_before h order T v) (elements_unordered (suc i) ps)
    where
      go : (b : Bool) → ordered_tasks (late_elements h order x T (suc i) ps) ≡ [] → ordered_tasks (cond b (late_elements h order x T (suc i) ps) (record { target = x; task = sets (index i) v; ordered = false } ∷ late_elements h order x T (suc i) ps)) ≡ []
      go true e = e
      go false e = e
  elements_unordered i (entry k v ∷ ps) = elements_unordered (suc i) ps
  elements_unordered i (member v ∷ ps) = elements_unordered (suc i) ps
  elements_unordered i (below b ∷ ps) = elements_unordered (suc i) ps
  elements_unordered i (cause v ∷ ps) = elements_unordered (suc i) ps

  pub properties_ordered : (n limit : ℕ) (array : Bool) (ps : List Part) → All (PropertyFormed n limit array) ps → ordered_tasks (late_properties h order true x T ps) ≡ part_tasks ps
  properties_ordered n limit array [] w = refl
  properties_ordered n limit array (property k v ∷ ps) w = ap (λ z. sets k v ∷ z) (properties_ordered n limit array ps w.1)
  properties_ordered n limit array (element v ∷ ps) w = properties_ordered n limit array ps w.1
  properties_ordered n limit array (entry k v ∷ ps) w = absurd (apart w.0.2)
    where
      apart : {j : Key} {u : Value} → entry k v ≡ property j u → ⊥
      apart e = let z : ◌≡◌ {A = ℕ} 0 1 = cc in omega arith
  properties_ordered n limit array (member v ∷ ps) w = absurd (apart w.0.2)
    where
      apart : {j : Key} {u : Value} → member v ≡ property j u → ⊥
      apart e = let z : ◌≡◌ {A = ℕ} 0 1 = cc in omega arith
  properties_ordered n limit array (below b ∷ ps) w = properties_ordered n limit array ps w.1
  properties_ordered n limit array (cause v ∷ ps) w = properties_ordered n limit array ps w.1

-- nothing comes before what is first
all_first : (ps : List Part) → AllBehind [] ps
all_first [] = tt
all_first (p ∷ ps) = (λ k v e. b_end, all_first ps)

module _ (h : Heap) (f : Bounded h) (order : List ℕ) (ad : Adequate h order) (x : ℕ) (mx : mem x order ≡ true) (nb : backed h order x ≡ None) (t : ℕ) (le : pos h order x ≤ t) where
  -- what an object refers to and is ready is held
  pub held : (j : ℕ) → mem j (edges h x) ≡ true → ready_before h order (slot h order x) (object j) ≡ true → Held h order (pos h order x) t j
  held j m e =
      let sl = own_slot h order x nb in
      record {
        member = ad.closed x j mx m;
        named = λ n. let lt = ltb-true (slot h order j) (slot h order x) (⊎_elim (λ (a : not (has_name h order j) ≡ true). absurd (both_ways (not (has_name h order j)) (ap not n) a)) (λ b. b) (or_cases (not (has_name h order j)) (ltb (slot h order j) (slot h order x)) e)) in omega arith;
        unnamed = λ n. let lt = child_before h f order ad x j mx m n in (lt, omega arith);
      }

  -- kind and parts as they are known
  pub pends_is : (own : Pairing) (k : Kind) (ps : List Part) (sh : Shape) (ss : List Slot) → (object_at h x).kind ≡ k → (object_at h x).parts ≡ ps → Pends own x (lates_by h order x (slot h order x) k ps) k ps sh ss → Pends own x (lates h order x) (object_at h x).kind (object_at h x).parts sh ss
  pends_is own k ps sh ss e d p =
      subst (λ z. Pends own x (lates_by h order x (slot h order x) z (object_at h x).parts) z (object_at h x).parts sh ss) (sym e)
      (subst (λ z. Pends own x (lates_by h order x (slot h order x) k z) k z sh ss) (sym d) p)

  pub written_is : (k : Kind) (ps : List Part) → (object_at h x).kind ≡ k → (object_at h x).parts ≡ ps → written h order x ≡ written_by h order (slot h order x) k ps
  written_is k ps e d = ap (λ z. written_by h order (slot h order x) z (object_at h x).parts) e ∙ ap (λ z. written_by h order (slot h order x) k z) d

  module _ (by_name : NamesGood h order) (by_place : PlacesGood h order (pos h order x)) (own : Pairing) (s : State) (r : Ready h order own t s) (fresh : Fresh own (expr_makes h order x)) where
    len : length own ≡ length s.objects
    len = ready_length h order own t s r

    -- an object that refers to none
    pub bare_good : (k : Kind) (e : Expr) (sh : Shape) → (object_at h x).kind ≡ k → (object_at h x).parts ≡ [] → expr_made e s ≡ make sh [] s → written_by h order (slot h order x) k [] ≡ []
        → Pends (own ++ (Some x ∷ [])) x (lates_by h order x (slot h order x) k []) k [] sh [] → Good h order own s e (object x) (expr_makes h order x)
    bare_good k e sh ek ep runs w p = finish h order own s [] s x sh [] e len (step_nil h order own s) runs (pends_is (own ++ (Some x ∷ [])) k [] sh [] ek ep p) (λ y. sym (ap (λ z. count y (within h order z)) (written_is k [] ek ep ∙ w)))

    pub plain_good : (ps : List Part) → (object_at h x).kind ≡ plain → (object_at h x).parts ≡ ps → PartsFormed h (length h.objects) plain ps → Good h order own s (kind_expr h order (built h order) x (slot h order x) plain ps) (object x) (expr_makes h order x)
    plain_good ps ek ep w =
        let T = slot h order x in
        let ls = lates_by h order x T plain ps in
        let wr = written_is plain ps ek ep in
        let g : KeysGood h f order ad by_name (pos h order x) by_place x T t ls own s [] ps =
        keys_good h f order ad by_name (pos h order x) by_place x T t ls own s r [] ps 4294967295 (omega arith) w.0 w.1 (all_first ps) (λ l i. i)
        (λ j m. held j (subst (λ z. mem j (edges_of z) ≡ true) (sym ep) m))
        (λ y. let q = fresh y in let u = ap (λ z. count y (within h order z)) wr in omega arith) in
        finish h order own s g.adds g.state x stores.ordinary g.slots (group braces (items_of h order (built h order) T ps)) len g.step
        (ap (λ z. and_then z (λ b. make stores.ordinary b.slots b.state)) g.runs)
        (pends_is (own ++ (g.adds ++ (Some x ∷ []))) plain ps stores.ordinary g.slots ek ep
        (refl, subst (λ z. Properties z x ls ps g.slots) (append_assoc own g.adds (Some x ∷ [])) (properties_ext (own ++ g.adds) ((own ++ g.adds) ++ (Some x ∷ [])) (ext_append (own ++ g.adds) (Some x ∷ [])) x ls g.says)))
        (λ y. g.counts y ∙ sym (ap (λ z. count y (within h order z)) wr))

    pub sparse_good : (n : ℕ) (ps : List Part) → (object_at h x).kind ≡ sparse n → (object_at h x).parts ≡ ps → PartsFormed h (length h.objects) (sparse n) ps → Good h order own s (kind_expr h order (built h order) x (slot h order x) (sparse n) ps) (object x) (expr_makes h order x)
    sparse_good n ps ek ep w =
        finish h order own s [] s x (stores.array n) [] (syntax.form (syntax.new_array n)) len (step_nil h order own s) refl
        (pends_is (own ++ (Some x ∷ [])) (sparse n) ps (stores.array n) [] ek ep (refl, record { front = []; back = ps; parts = refl; alike = refl; tasks = properties_ordered h order x (slot h order x) (length h.objects) n true ps w.0 }))
        (λ y. sym (ap (λ z. count y (within h order z)) (written_is (sparse n) ps ek ep)))

    pub dense_good : (n : ℕ) (ps : List Part) → (object_at h x).kind ≡ dense n → (object_at h x).parts ≡ ps → PartsFormed h (length h.objects) (dense n) ps → Good h order own s (kind_expr h order (built h order) x (slot h order x) (dense n) ps) (object x) (expr_makes h order x)
    dense_good n ps ek ep w =
        let T = slot h order x in
        let es = late_elements h order x T 0 (take n ps) in
        let qs = late_properties h order true x T (drop n ps) in
        let wr = written_is (dense n) ps ek ep in
        let g : RowGood h f order ad by_name (pos h order x) by_place x T t (es ++ qs) own s 0 (take n ps) =
        row_good h f order ad by_name (pos h order x) by_place x T t (es ++ qs) own s r 0 (take n ps) w.1 (λ l i. in_left qs i)
        (λ j m. held j (subst (λ z. mem j (edges_of z) ≡ true) (sym ep) (edges_take n ps j m)))
        (λ y. let q = fresh y in let u = ap (λ z. count y (within h order z)) wr in omega arith) in
        let many : length g.vals ≡ n = g.many ∙ (let l = length-take n ps in let b = w.0 in omega arith) in
        finish h order own s g.adds g.state x (stores.array n) (element_slots 0 g.vals) (group brackets (items_of h order (built h order) T (take n ps))) len g.step
        (ap (λ z. and_then z (λ l. array_made l.vals l.state)) g.runs ∙ ap (λ z. make (stores.array z) (element_slots 0 g.vals) g.state) many)
        (pends_is (own ++ (g.adds ++ (Some x ∷ []))) (dense n) ps (stores.array n) (element_slots 0 g.vals) ek ep (
          refl,
          record {
            first = element_slots 0 g.vals;
            rest = [];
            slots = sym (append-nil (element_slots 0 g.vals));
            elements = subst (λ z. Elements z x (es ++ qs) 0 (take n ps) (element_slots 0 g.vals)) (append_assoc own g.adds (Some x ∷ [])) (elements_ext (own ++ g.adds) ((own ++ g.adds) ++ (Some x ∷ [])) (ext_append (own ++ g.adds) (Some x ∷ [])) x (es ++ qs) g.says);
            properties = record {
              front = [];
              back = drop n ps;
              parts = refl;
              alike = refl;
              tasks = tasks_append es qs ∙ (ap (λ z. z ++ ordered_tasks qs) (elements_unordered h order x T 0 (take n ps)) ∙ properties_ordered h order x T (length h.objects) 0 true (drop n ps) w.2.0);
            };
          },
        ))
        (λ y. g.counts y ∙ sym (ap (λ z. count y (within h order z)) wr))
