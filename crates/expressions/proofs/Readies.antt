-- Values that are ready: each evaluates to what is alike to it, with all that hangs in it.
use Rattle.std.proofs.Common.{◌≡◌, ℕ, ◌+◌, ◌≤◌, true, false, List, [], ◌++◌, length, sym, ap, ◌∙◌, subst, ⊎_elim}
use Rattle.std.proofs.lemmas.Bool.{cond-true, both_ways}
use Rattle.dump.specs.Heaps.{Value, Heap}
use Rattle.formed.specs.Formed.{ValueFormed}
use Rattle.script.specs.Syntax.{form, circular}
use Rattle.planner.specs.Visits.{refs}
use Rattle.planner.specs.Names.{count, ready_before}
use Rattle.planner.specs.Builds.{value_expr, built}
use Rattle.evaluator.specs.Stores.{Val, undefined, State, made}
use Rattle.evaluator.specs.Isomorphic.{Pairing, Alike}
use Rattle.effects.specs.Effects.{expr_made}
use Rattle.rebuilds.specs.Adequate.{Adequate}
use Rattle.rebuilds.specs.Makes.{within}
use Rattle.rebuilds.specs.Pending.{occ}
use Rattle.expressions.proofs.Steps.{Ready, Step}
use Rattle.expressions.proofs.Values.{Fresh, NamesGood, PlacesGood}
use Rattle.expressions.proofs.Rows.{AllHeld, child_good}
use Rattle.effects.specs.Bounded.{Bounded}

module _ (h : Heap) (f : Bounded h) (order : List ℕ) (ad : Adequate h order) (by_name : NamesGood h order) (n : ℕ) (by_place : PlacesGood h order n) (x T t : ℕ) where
  -- references that are ready are held
  abbrev pub Holds : List ℕ → Type 0
  Holds js = AllHeld h f order ad by_name n by_place x T t [] js

  pub record ReadyGood (own : Pairing) (s : State) (v : Value) : Type 0 where
    pub adds : Pairing
    pub state : State
    pub val : Val
    pub runs : expr_made (value_expr h order (built h order) v) s ≡ made val state
    pub step : Step h order own s adds state
    pub says : Alike (own ++ adds) v val
    pub counts : (y : ℕ) → occ y adds ≡ count y (within h order (refs v))

  pub ready_good : (own : Pairing) (s : State) → Ready h order own t s → (v : Value) → ValueFormed (length h.objects) v → ready_before h order T v ≡ true → Holds (refs v) → Fresh own (λ y. count y (within h order (refs v))) → ReadyGood own s v
  ready_good own s r v w e held fresh =
      let d = cond-true (ready_before h order T v) (refs v) [] e in
      let c = child_good h f order ad by_name n by_place x T t [] own s r v w held (λ y. subst (λ z. occ y own + count y (within h order z) ≤ 1) (sym d) (fresh y)) in
      record {
        adds = c.adds;
        state = c.state;
        val = c.val;
        runs = ap (λ z. expr_made z s) (sym (cond-true (ready_before h order T v) (value_expr h order (built h order) v) (form circular) e)) ∙ c.runs;
        step = c.step;
        says = ⊎_elim (λ (a : Alike (own ++ c.adds) v c.val). a) (λ (b : (ready_before h order T v ≡ false) × (c.val ≡ undefined)). absurd (both_ways (ready_before h order T v) b.0 e)) c.says;
        counts = λ y. c.counts y ∙ ap (λ z. count y (within h order z)) d;
      }
