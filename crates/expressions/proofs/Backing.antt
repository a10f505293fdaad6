-- A typed array that covers its buffer is made with it: the buffer of a backing view, and one that inlines.
use Rattle.std.proofs.Common.{◌≡◌, ℕ, ◌+◌, ◌*◌, ◌/◌, false, eqb, List, [], ◌∷◌, ◌++◌, length, Some, None, sym, refl, ap, ◌∙◌, subst, arith}
use Rattle.std.proofs.lemmas.Bool.{cond-true, eq-eqb}
use Rattle.dump.specs.declared.kinds.ViewKind.{ViewKind}
use Rattle.dump.specs.Heaps as heaps
use Rattle.dump.specs.Heaps.{below, object, Heap}
use Rattle.dump.specs.Kinds.{width}
use Rattle.script.specs.Syntax.{form, new_typed}
use Rattle.planner.specs.Visits.{object_at}
use Rattle.planner.specs.Builds.{object_expr, built}
use Rattle.planner.specs.Lates.{Late, lates}
use Rattle.evaluator.specs.Stores.{ref, view, single, State}
use Rattle.evaluator.specs.Isomorphic.{Pairing}
use Rattle.effects.specs.Effects.{typed_made, typed_ref}
use Rattle.rebuilds.specs.Adequate.{Adequate}
use Rattle.rebuilds.specs.Makes.{one}
use Rattle.rebuilds.specs.Pending.{Pending, Store}
use Rattle.rebuilds.specs.Good.{Good}
use Rattle.pending.proofs.Lists.{all2_length}
use Rattle.places.proofs.Names.{Backs}
use Rattle.expressions.proofs.Stores.{view_pending}
use Rattle.expressions.proofs.Makes.{elements_of}
use Rattle.expressions.proofs.Typed.{typed}
use Rattle.expressions.proofs.Buffers.{whole_buffer}
use Rattle.expressions.proofs.Exprs.{named_expr}
use Rattle.effects.specs.Bounded.{Bounded}

module _ (h : Heap) (f : Bounded h) (order : List ℕ) where
  pub covering_good : (x b : ℕ) (k : ViewKind) (n : ℕ) (bytes : List ℕ) →
      (object_at h x).kind ≡ heaps.view k 0 n false → (object_at h x).parts ≡ below b ∷ [] → (object_at h b).kind ≡ heaps.buffer bytes None → n * width k ≡ length bytes →
      (own : Pairing) (s : State) → length own ≡ length s.objects → Good h order own s (form (new_typed k bytes)) (object x) (λ y. one y b + one y x)
  covering_good x b k n bytes vx px kb whole own s len =
      let t = typed h own s.objects len k bytes b (Some x) in
      let all = own ++ t.adds in
      let stands : Pending h all x (lates h order x) (record { shape = view k 0 (Some (length bytes / width k)); slots = single (ref t.on) ∷ [] }) =
      subst (λ m. Pending h all x (lates h order x) (record { shape = view k 0 (Some m); slots = single (ref t.on) ∷ [] })) (sym (elements_of k n (length bytes) whole))
      (view_pending h all (lates h order x) x k 0 n false b t.on vx px t.on_own) in
      record {
        new = typed_made k bytes (length s.objects);
        adds = t.adds;
        val = typed_ref k bytes s;
        runs = refl;
        objects = t.stored all (lates h order) (whole_buffer h f order all b (lates h order b) bytes None kb) stands;
        says = (t.at, ap ref t.at_is, t.at_own);
        counts = λ y. omega (arith, t.counts y);
      }

module _ (h : Heap) (f : Bounded h) (order : List ℕ) (ad : Adequate h order) where
  pub backing_good : (b w : ℕ) → Backs h f order ad b w → (own : Pairing) (left : ℕ → List Late) (s : State) → Store h own left own s.objects →
      Good h order own s (object_expr h order (built h order) w) (object w) (λ y. one y b + one y w)
  backing_good b w k own left s st =
      subst (λ e. Good h order own s e (object w) (λ y. one y b + one y w))
      (sym (named_expr h order (built h order) w b k.kind 0 k.n false k.view_is k.view_parts k.bytes (Some w) k.buffer_is k.not_inlined k.backing
      ∙ cond-true (eqb w w) (form (new_typed k.kind k.bytes)) _ (eq-eqb w w refl)))
      (covering_good h f order w b k.kind k.n k.bytes k.view_is k.view_parts k.buffer_is k.covers own s (all2_length st))
