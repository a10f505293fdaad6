-- The whole script: all lines run, the last gives the root, and what was built is isomorphic to the heap.
use Rattle.std.proofs.Common.{◌≡◌, ℕ, ◌<◌, ◌≤◌, Bool, true, false, cond, leb, List, [], ◌∷◌, ◌++◌, length, Some, refl, ap, ◌∙◌, subst, ⊎_elim, arith, leb-false, leb-true}
use Rattle.std.proofs.lemmas.Bool.{cases_Bool}
use Rattle.dump.specs.Heaps.{Heap}
use Rattle.script.specs.Syntax.{Stmt, opening, last, return}
use Rattle.planner.specs.Visits.{refs, mem}
use Rattle.planner.specs.Names.{has_name}
use Rattle.planner.specs.Lates.{Late, lates, due}
use Rattle.planner.specs.Lines.{Format, expr_of, body, wrapped, stmts}
use Rattle.evaluator.specs.Options.{and_then}
use Rattle.evaluator.specs.Stores.{Val, State, start}
use Rattle.evaluator.specs.Commands.{Ran, ran}
use Rattle.evaluator.specs.Isomorphic.{Pairing, Isomorphic}
use Rattle.effects.specs.Effects.{grown, expr_made, stmts_done}
use Rattle.rebuilds.specs.Adequate.{Adequate}
use Rattle.rebuilds.specs.Makes.{within, root_makes}
use Rattle.rebuilds.specs.Pending.{In, here, there, a_nil, Store, due_from, left_at, occ}
use Rattle.rebuilds.specs.Good.{Good}
use Rattle.visits.proofs.Orders.{place_in_lem}
use Rattle.pending.proofs.Lists.{all2-++}
use Rattle.pending.proofs.Grows.{ext_append, store_ext}
use Rattle.pending.proofs.Stores.{none_twice_lem}
use Rattle.pending.proofs.Done.{all_alike}
use Rattle.places.proofs.Names.{slot_le}
use Rattle.places.proofs.Lates.{no_lates}
use Rattle.places.proofs.Dues.{root_in, due_line}
use Rattle.counts.proofs.Once.{once_made}
use Rattle.expressions.proofs.Steps.{occ-++, store_on}
use Rattle.expressions.proofs.Values.{value_good}
use Rattle.simulation.proofs.Runs.{going, Leads, stmts_append}
use Rattle.simulation.proofs.Flushes.{from_drops}
use Rattle.simulation.proofs.Inside.{counted, inside_within, within_unnamed}
use Rattle.simulation.proofs.Exprs.{names_good, places_good, self_good, over_good}
use Rattle.simulation.proofs.Follows.{lates_run}
use Rattle.simulation.proofs.Lines.{ExprsGood, Sim, all_lines}
use Rattle.effects.specs.Plans.{braced}
use Rattle.effects.specs.Bounded.{Bounded}

from_none : (t : ℕ) (ds : List (ℕ × Late)) → ((d : ℕ) (l : Late) → In (d, l) ds → d < t) → due_from t ds ≡ []
from_none t [] n = refl
from_none t (d ∷ ds) n = from_drops t d ds (n d.0 d.1 here) ∙ from_none t ds (λ e l i. n e l (there i))

module _ (h : Heap) (f : Bounded h) (order : List ℕ) (ad : Adequate h order) where
  exprs : ExprsGood h f order ad (lates_run h f order ad)
  exprs = record { self = self_good h f order ad; over = over_good h f order ad }

  abbrev Simulates : ℕ → List ℕ → Pairing → State → Type 0
  Simulates = Sim h f order ad (lates_run h f order ad) exprs

  first : Simulates 0 order [] start
  first =
      record {
        built = record { store = a_nil; names = record { bound = λ o m l lt. absurd (omega arith); free = λ n le. refl } };
        members = λ y n. absurd (omega arith);
        fresh = λ y. let a = once_made h order f ad y in omega arith;
      }

  -- at the end nothing is left to do
  none_left : (x : ℕ) → mem x order ≡ true → left_at h order (length order) x ≡ []
  none_left x m = ⊎_elim
      (λ (e : has_name h order x ≡ true). from_none (length order) (due h order 0 (lates h order x)) (λ d l i. let w = due_line h f order ad x d l m e i in let q = place_in_lem w.0 order w.1 in let z = w.3 in omega arith))
      (λ (e : has_name h order x ≡ false). ap (λ z. due_from (length order) (due h order 0 z)) (no_lates h f order ad x m e))
      (cases_Bool (has_name h order x))

  -- the last line
  pub record Rebuilt (s : State) : Type 0 where
    pub val : Val
    pub state : State
    pub runs : expr_made (expr_of h order h.root) s ≡ Some (record { val = val; state = state })
    pub same : Isomorphic h state val

  root_made : (own : Pairing) (s : State) → Simulates (length order) [] own s → Good h order own s (expr_of h order h.root) h.root (root_makes h order)
  root_made own s sim =
      value_good h order f ad (names_good h f order ad) (length order) (places_good h f order ad (length order)) own (length order) s (record { left = left_at h order (length order); built = sim.built }) h.root f.formed.root
      (λ j m. let i = root_in h f order ad j m in let p = place_in_lem j order i in let q = slot_le h f order ad j i in record { member = i; named = λ n. omega arith; unnamed = λ n. (p, omega arith) })
      (λ y. let a = sim.fresh y in omega arith)

  rebuilt : (own : Pairing) (s : State) → Simulates (length order) [] own s → Good h order own s (expr_of h order h.root) h.root (root_makes h order) → Rebuilt s
  rebuilt own s sim g =
      let inside : (x : ℕ) → 1 ≤ occ x g.adds → mem x (within h order (refs h.root)) ≡ true = λ x n. counted x (within h order (refs h.root)) (subst (λ z. 1 ≤ z) (g.counts x) n) in
      let all : Store h (own ++ g.adds) (λ o. []) (own ++ g.adds) (s.objects ++ g.new) = all2-++
      (store_on h (own ++ g.adds) (left_at h order (length order)) (λ o. []) (λ x n. none_left x (sim.members x n)) (store_ext own (own ++ g.adds) (ext_append own g.adds) h (left_at h order (length order)) sim.built.store))
      (store_on h (own ++ g.adds) (lates h order) (λ o. []) (λ x n. no_lates h f order ad x (inside_within h order (refs h.root) x (inside x n)) (within_unnamed h f order ad (refs h.root) (root_in h f order ad) x (inside x n))) g.objects) in
      record {
        val = g.val;
        state = grown s g.new;
        runs = g.runs;
        same = record {
          own = own ++ g.adds;
          once = none_twice_lem (own ++ g.adds) (λ y. let a = sim.fresh y in let b = occ-++ y own g.adds in let c = g.counts y in omega arith);
          alike = all_alike h (own ++ g.adds) (s.objects ++ g.new) f (λ y n. ad.inside y (member y n)) all;
          root = g.says;
        };
      }
    where
      member : (y : ℕ) → 1 ≤ occ y (own ++ g.adds) → mem y order ≡ true
      member y n = ⊎_elim
          (λ (a : leb 1 (occ y own) ≡ true). sim.members y (leb-true 1 (occ y own) a))
          (λ (a : leb 1 (occ y own) ≡ false). inside_within h order (refs h.root) y (counted y (within h order (refs h.root)) (let b = occ-++ y own g.adds in let c = g.counts y in let d = leb-false 1 (occ y own) a in omega arith)))
          (cases_Bool (leb 1 (occ y own)))

  -- the script runs from the start to a result that is isomorphic to the root
  pub record Whole (xs : List Stmt) : Type 0 where
    pub ran : Ran
    pub val : Val
    pub runs : stmts_done xs (going start) ≡ Some ran
    pub result : ran.result ≡ Some val
    pub same : Isomorphic h ran.state val

  pub whole : (fm : Format) → Whole (stmts h order fm)
  whole fm =
      let a = all_lines h f order ad (lates_run h f order ad) exprs order [] refl [] start first in
      let r = rebuilt a.0 a.1 a.3 (root_made a.0 a.1 a.3) in
      go (wrapped h order fm) a.1 a.2 r
    where
      go : (w : Bool) (s : State) → Leads (body h order) start s → Rebuilt s → Whole (cond w (opening ∷ (body h order ++ (return (expr_of h order h.root) ∷ []))) (body h order ++ (last (braced (expr_of h order h.root)) (expr_of h order h.root) ∷ [])))
      go true s l r =
          record {
            ran = record { state = r.state; result = Some r.val };
            val = r.val;
            runs = stmts_append (body h order) (return (expr_of h order h.root) ∷ []) (going start) (going s) l
                ∙ ap (λ z. and_then (and_then z (λ m. ran m.state (Some m.val))) (stmts_done [])) r.runs;
            result = refl;
            same = r.same;
          }
      go false s l r =
          record {
            ran = record { state = r.state; result = Some r.val };
            val = r.val;
            runs = stmts_append (body h order) (last (braced (expr_of h order h.root)) (expr_of h order h.root) ∷ []) (going start) (going s) l
                ∙ ap (λ z. and_then (and_then z (λ m. ran m.state (Some m.val))) (stmts_done [])) r.runs;
            result = refl;
            same = r.same;
          }
