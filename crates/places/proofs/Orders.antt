-- The visit's order of a formed heap has what a plan by places needs.
use Rattle.std.proofs.Common.{◌≡◌, ℕ, ◌≤◌, true, false, [], sym, refl, ap, ◌∙◌, subst, ⊎_elim, arith}
use Rattle.std.proofs.lemmas.Bool.{both_ways}
use Rattle.dump.specs.Heaps.{Value, undefined, null, hole, boolean, whole, double, bigint, text, object, Heap}
use Rattle.planner.specs.Visits.{refs, edges, mem, visit, reached, order}
use Rattle.planner.specs.Names.{place_in}
use Rattle.visits.specs.Stands.{Reach, at_root, by_edge}
use Rattle.visits.proofs.Lists.{nil_app}
use Rattle.visits.proofs.Edges.{inlines_back}
use Rattle.visits.proofs.Ranges.{formed_range, root_range}
use Rattle.visits.proofs.Visits.{visit_inside, visit_closed, visit_rooted}
use Rattle.visits.proofs.Stand.{stands}
use Rattle.rebuilds.specs.Adequate.{Adequate}
use Rattle.effects.specs.Bounded.{Bounded}

-- an object without edges reaches only itself
pub leaf_reach : (h : Heap) (j i : ℕ) → edges h j ≡ [] → Reach h j i → i ≡ j
leaf_reach h j i e at_root = refl
leaf_reach h j i e (by_edge {i = k} t u) =
    let same = leaf_reach h j k e t in
    absurd (both_ways false refl (subst (λ es. mem i es ≡ true) e (subst (λ x. mem i (edges h x) ≡ true) same u)))

-- the empty order, of a root that is no object
none_adequate : (h : Heap) → refs h.root ≡ [] → Adequate h []
none_adequate h n = record {
  once = λ y. omega arith;
  inside = λ y m. absurd (both_ways false refl m);
  closed = λ i j m u. absurd (both_ways false refl m);
  rooted = λ r e. absurd (nil_app [] r [] (sym n ∙ ap refs e));
  leaf = λ i j m u e. absurd (both_ways false refl m);
  back = inlines_back h [];
  ahead = λ i x e m u. absurd (both_ways false refl m);
  single = λ x e m. absurd (both_ways false refl m);
}

object_same : (a b : ℕ) → object a ≡ object b → a ≡ b
object_same a b e = cc

visit_adequate : (h : Heap) → Bounded h → (r : ℕ) → h.root ≡ object r → Adequate h (visit h r)
visit_adequate h f r e =
    let wf = formed_range h f.formed in
    let lt = root_range h f.formed r e in
    let s = stands h r f.formed e in
    record {
      once = s.once;
      inside = visit_inside h r wf lt;
      closed = visit_closed h r wf lt;
      rooted = λ q d. subst (λ x. mem x (visit h r) ≡ true) (object_same r q (sym e ∙ d)) (visit_rooted h r wf lt);
      leaf = λ i j m u n. ⊎_elim (λ a. a)
          (λ (b : (place_in (visit h r) i ≤ place_in (visit h r) j) × Reach h j i).
          let same = leaf_reach h j i n b.1 in
          absurd (both_ways false refl (subst (λ es. mem j es ≡ true) n (subst (λ x. mem j (edges h x) ≡ true) same u)))) (s.goes i j m u);
      back = s.back;
      ahead = s.ahead;
      single = s.single;
    }

pub adequate : (h : Heap) → Bounded h → Adequate h (order h)
adequate h f = by_root h.root refl
  where
    by_root : (v : Value) → h.root ≡ v → Adequate h (reached h (refs v))
    by_root undefined e = none_adequate h (ap refs e)
    by_root null e = none_adequate h (ap refs e)
    by_root hole e = none_adequate h (ap refs e)
    by_root (boolean v) e = none_adequate h (ap refs e)
    by_root (whole z) e = none_adequate h (ap refs e)
    by_root (double bits) e = none_adequate h (ap refs e)
    by_root (bigint t) e = none_adequate h (ap refs e)
    by_root (text t) e = none_adequate h (ap refs e)
    by_root (object r) e = visit_adequate h f r e
