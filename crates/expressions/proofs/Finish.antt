-- The last step of an object's expression: the object itself, behind all that hangs in it.
use Rattle.std.proofs.Common.{◌≡◌, ℕ, List, [], ◌∷◌, ◌++◌, length, Some, sym, refl, ap, ◌∙◌, subst, append_assoc, arith}
use Rattle.dump.specs.Heaps.{object, Heap}
use Rattle.script.specs.Syntax.{Expr}
use Rattle.planner.specs.Visits.{object_at}
use Rattle.planner.specs.Names.{count}
use Rattle.planner.specs.Lates.{lates}
use Rattle.evaluator.specs.Options.{nth}
use Rattle.evaluator.specs.Stores.{ref, Shape, Slot, State, make}
use Rattle.evaluator.specs.Isomorphic.{Pairing}
use Rattle.effects.specs.Effects.{grown, expr_made}
use Rattle.rebuilds.specs.Makes.{within, written, expr_makes}
use Rattle.rebuilds.specs.Pending.{a_nil, a_cons, Pends, occ}
use Rattle.rebuilds.specs.Good.{Good}
use Rattle.expressions.proofs.Steps.{Step, step_then, step_length, made_last, occ-++}

module _ (h : Heap) (order : List ℕ) where
  -- an object of this shape and these slots, made in the state after a step
  pub made_step : (own : Pairing) (s : State) (adds : Pairing) (state : State) (x : ℕ) (sh : Shape) (ss : List Slot) → Step h order own s adds state
      → Pends (own ++ (adds ++ (Some x ∷ []))) x (lates h order x) (object_at h x).kind (object_at h x).parts sh ss
      → Step h order own s (adds ++ (Some x ∷ [])) (grown state (record { shape = sh; slots = ss } ∷ []))
  made_step own s adds state x sh ss f p =
      step_then h order own s adds state (Some x ∷ []) (grown state (record { shape = sh; slots = ss } ∷ [])) f
      (record { new = record { shape = sh; slots = ss } ∷ []; is = refl; objects = a_cons (subst (λ z. Pends z x (lates h order x) (object_at h x).kind (object_at h x).parts sh ss) (sym (append_assoc own adds (Some x ∷ []))) p) a_nil })

  pub finish : (own : Pairing) (s : State) (adds : Pairing) (state : State) (x : ℕ) (sh : Shape) (ss : List Slot) (e : Expr) → length own ≡ length s.objects → Step h order own s adds state
      → expr_made e s ≡ make sh ss state
      → Pends (own ++ (adds ++ (Some x ∷ []))) x (lates h order x) (object_at h x).kind (object_at h x).parts sh ss
      → ((y : ℕ) → occ y adds ≡ count y (within h order (written h order x))) → Good h order own s e (object x) (expr_makes h order x)
  finish own s adds state x sh ss e len f runs p counts =
      let g = made_step own s adds state x sh ss f p in
      record {
        new = g.new;
        adds = adds ++ (Some x ∷ []);
        val = ref (length state.objects);
        runs = runs ∙ ap (λ z. Some (record { val = ref (length state.objects); state = z })) g.is;
        objects = g.objects;
        says = (length state.objects, refl, ap (λ z. nth z (length state.objects)) (sym (append_assoc own adds (Some x ∷ []))) ∙ made_last h order (own ++ adds) state x (step_length h order own s adds state len f));
        counts = λ y. let u = occ-++ y adds (Some x ∷ []) in let c = counts y in omega arith;
      }
