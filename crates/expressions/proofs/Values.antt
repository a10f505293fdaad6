-- Values: what is plain stands as it is, an object with a name by its name, and any other by its own expression.
use Rattle.std.proofs.Common.{◌≡◌, ℕ, ◌+◌, ◌<◌, ◌≤◌, true, false, List, [], ◌∷◌, length, get_or, Some, sym, refl, ap, ◌∙◌, subst, ⊎_elim, append-nil, arith}
use Rattle.std.proofs.lemmas.Bool.{cases_Bool, cond-true, cond-false}
use Rattle.dump.specs.Heaps as heaps
use Rattle.dump.specs.Heaps.{Value, object, Heap}
use Rattle.formed.specs.Formed.{ValueFormed}
use Rattle.script.specs.Syntax as syntax
use Rattle.script.specs.Syntax.{Expr, form, circular}
use Rattle.planner.specs.Visits.{refs, mem}
use Rattle.planner.specs.Names.{count, pos, slot, has_name}
use Rattle.planner.specs.Builds.{name_expr, value_expr, built}
use Rattle.evaluator.specs.Options.{nth}
use Rattle.evaluator.specs.Stores.{Val, ref, undefined, State, made}
use Rattle.evaluator.specs.Isomorphic.{Pairing, Alike}
use Rattle.effects.specs.Effects.{grown, plain_val, expr_made}
use Rattle.rebuilds.specs.Adequate.{Adequate}
use Rattle.rebuilds.specs.Makes.{within, expr_makes}
use Rattle.rebuilds.specs.Pending.{a_nil, occ}
use Rattle.rebuilds.specs.Good.{Good}
use Rattle.visits.proofs.Lists.{mem_head}
use Rattle.counts.proofs.Within.{within_named, within_unnamed}
use Rattle.expressions.proofs.Plain.{grown_nil, double_alike, whole_alike}
use Rattle.expressions.proofs.Steps.{Ready}
use Rattle.effects.specs.Bounded.{Bounded}

-- no object is made that is there
abbrev pub Fresh : Pairing → (ℕ → ℕ) → Type 0
Fresh own makes = (y : ℕ) → occ y own + makes y ≤ 1

module _ (h : Heap) (order : List ℕ) where
  pub good_makes : {own : Pairing} {s : State} {e : Expr} {v : Value} (m m' : ℕ → ℕ) → ((y : ℕ) → m y ≡ m' y) → Good h order own s e v m → Good h order own s e v m'
  good_makes m m' f g = record { new = g.new; adds = g.adds; val = g.val; runs = g.runs; objects = g.objects; says = g.says; counts = λ y. g.counts y ∙ f y }

  -- an expression that makes nothing
  pub good_still : (own : Pairing) (s : State) (e : Expr) (v : Value) (w : Val) (m : ℕ → ℕ) → expr_made e s ≡ made w s → Alike own v w → ((y : ℕ) → m y ≡ 0) → Good h order own s e v m
  good_still own s e v w m r a z =
      record { new = []; adds = []; val = w; runs = r ∙ ap (made w) (sym (grown_nil s)); objects = a_nil; says = subst (λ o. Alike o v w) (sym (append-nil own)) a; counts = λ y. sym (z y) }

  -- of a reference that is written before the name t is bound, inside an object at the place n: it is bound before, or its object stands at a smaller place
  pub record Held (n t j : ℕ) : Type 0 where
    pub member : mem j order ≡ true
    pub named : has_name h order j ≡ true → slot h order j < t
    pub unnamed : has_name h order j ≡ false → (pos h order j < n) × (pos h order j ≤ t)

  -- an object that is bound evaluates by its name
  abbrev pub NamesGood : Type 0
  NamesGood = (x : ℕ) → mem x order ≡ true → has_name h order x ≡ true → (own : Pairing) (t : ℕ) (s : State) → Ready h order own t s → slot h order x < t → (p : ℕ) × (expr_made (name_expr h order x) s ≡ made (ref p) s) × (nth own p ≡ Some (Some x))

  -- objects without a name at places below n evaluate
  abbrev pub PlacesGood : ℕ → Type 0
  PlacesGood n =
      (j : ℕ) → mem j order ≡ true → has_name h order j ≡ false → pos h order j < n → (own : Pairing) (t : ℕ) (s : State) → Ready h order own t s → pos h order j ≤ t → Fresh own (expr_makes h order j)
      → Good h order own s (get_or (built h order) (pos h order j) (form circular)) (object j) (expr_makes h order j)

  module _ (f : Bounded h) (ad : Adequate h order) (by_name : NamesGood) (n : ℕ) (by_place : PlacesGood n) (own : Pairing) (t : ℕ) (s : State) (r : Ready h order own t s) where
    object_good : (j : ℕ) → Held n t j → Fresh own (λ y. count y (within h order (j ∷ []))) → Good h order own s (value_expr h order (built h order) (object j)) (object j) (λ y. count y (within h order (j ∷ [])))
    object_good j x fresh = ⊎_elim
        (λ (e : has_name h order j ≡ true).
        let g = by_name j x.member e own t s r (x.named e) in
        subst (λ z. Good h order own s z (object j) (λ y. count y (within h order (j ∷ [])))) (sym (cond-true (has_name h order j) (name_expr h order j) (get_or (built h order) (pos h order j) (form circular)) e))
        (good_still own s (name_expr h order j) (object j) (ref g.0) (λ y. count y (within h order (j ∷ []))) g.1 (g.0, refl, g.2) (λ y. ap (count y) (within_named h order j e))))
        (λ (e : has_name h order j ≡ false).
        let p = x.unnamed e in
        let w = within_unnamed h order j f ad x.member e in
        subst (λ z. Good h order own s z (object j) (λ y. count y (within h order (j ∷ [])))) (sym (cond-false (has_name h order j) (name_expr h order j) (get_or (built h order) (pos h order j) (form circular)) e))
        (good_makes (expr_makes h order j) (λ y. count y (within h order (j ∷ []))) (λ y. sym (w y)) (by_place j x.member e p.0 own t s r p.1 (λ y. let q = fresh y in let u = w y in omega arith))))
        (cases_Bool (has_name h order j))

    pub value_good : (v : Value) → ValueFormed (length h.objects) v → ((j : ℕ) → mem j (refs v) ≡ true → Held n t j) → Fresh own (λ y. count y (within h order (refs v)))
        → Good h order own s (value_expr h order (built h order) v) v (λ y. count y (within h order (refs v)))
    value_good heaps.undefined w x fresh = good_still own s (syntax.value heaps.undefined) heaps.undefined undefined (λ y. 0) refl refl (λ y. refl)
    value_good heaps.null w x fresh = good_still own s (syntax.value heaps.null) heaps.null Rattle.evaluator.specs.Stores.null (λ y. 0) refl refl (λ y. refl)
    value_good heaps.hole w x fresh = elim w [ ]
    value_good (heaps.boolean b) w x fresh = good_still own s (syntax.value (heaps.boolean b)) (heaps.boolean b) (Rattle.evaluator.specs.Stores.boolean b) (λ y. 0) refl refl (λ y. refl)
    value_good (heaps.whole z) w x fresh = good_still own s (syntax.value (heaps.whole z)) (heaps.whole z) (Rattle.evaluator.specs.Stores.number (Rattle.evaluator.specs.Isomorphic.whole_double z)) (λ y. 0) refl (whole_alike own z) (λ y. refl)
    value_good (heaps.double bits) w x fresh = good_still own s (syntax.value (heaps.double bits)) (heaps.double bits) (Rattle.evaluator.specs.Stores.number (Rattle.effects.specs.Effects.canonical bits)) (λ y. 0) refl (double_alike own bits w) (λ y. refl)
    value_good (heaps.bigint b) w x fresh = good_still own s (syntax.value (heaps.bigint b)) (heaps.bigint b) (Rattle.evaluator.specs.Stores.big (Rattle.evaluator.specs.Isomorphic.big_value b)) (λ y. 0) refl refl (λ y. refl)
    value_good (heaps.text b) w x fresh = good_still own s (syntax.value (heaps.text b)) (heaps.text b) (Rattle.evaluator.specs.Stores.text b) (λ y. 0) refl refl (λ y. refl)
    value_good (heaps.object j) w x fresh = object_good j (x j (mem_head j [])) fresh
