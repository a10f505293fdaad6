-- The expression of a buffer evaluates to a buffer that stands for it: with its bytes, or with zeros of which the follow-up is to come.
use Rattle.std.proofs.Common.{◌≡◌, ℕ, suc, true, false, eqb, ◌⊎◌, List, [], ◌∷◌, ◌++◌, length, Some, None, Option, sym, refl, ap, ◌∙◌, subst, inl, inr, ⊎_elim, append_assoc, arith, length-append}
use Rattle.std.proofs.lemmas.Bool.{cases_Bool, and_parts, eqb-true}
use Rattle.dump.specs.declared.kinds.ViewKind.{ViewKind}
use Rattle.dump.specs.Heaps as heaps
use Rattle.dump.specs.Heaps.{object, Heap}
use Rattle.script.specs.Syntax.{form, buffer_form, new_resizable, data_buffer}
use Rattle.script.specs.Texts.{all_zero, listing}
use Rattle.planner.specs.Visits.{object_at}
use Rattle.planner.specs.Names.{slot, data_kind}
use Rattle.planner.specs.Builds.{buffer_expr}
use Rattle.planner.specs.Lates.{Late, fills, bytes_kind, lates_by, lates}
use Rattle.evaluator.specs.Stores.{ref, ordinary, buffer, keyed, Obj, State, made}
use Rattle.evaluator.specs.Makes.{zeros}
use Rattle.evaluator.specs.Isomorphic.{Pairing}
use Rattle.effects.specs.Effects.{grown, count, fixed, typed_made, typed_on, maximum_key}
use Rattle.rebuilds.specs.Makes.{one}
use Rattle.rebuilds.specs.Pending.{here, a_nil, a_cons, Waits, Pending, Store}
use Rattle.rebuilds.specs.Good.{Good}
use Rattle.pending.proofs.Lists.{all2_length}
use Rattle.places.proofs.Objects.{buffer_parts}
use Rattle.expressions.proofs.Stores.{nth_beyond, pending_by}
use Rattle.expressions.proofs.Typed.{typed}
use Rattle.effects.specs.Bounded.{Bounded}

-- bytes that are all zero
pub all_zeros : (bytes : List ℕ) → all_zero bytes ≡ true → zeros (length bytes) ≡ bytes
all_zeros [] e = refl
all_zeros (x ∷ xs) e = let p = and_parts (eqb x 0) (all_zero xs) e in let z = sym (eqb-true x 0 p.0) in λ i. z i ∷ all_zeros xs p.1 i

module _ (h : Heap) (f : Bounded h) (order : List ℕ) where
  -- a built buffer that has its bytes
  pub whole_buffer : (own : Pairing) (x : ℕ) (ls : List Late) (bytes : List ℕ) (maximum : Option ℕ) → (object_at h x).kind ≡ heaps.buffer bytes maximum → Pending h own x ls (record { shape = buffer bytes maximum; slots = [] })
  whole_buffer own x ls bytes maximum e =
      pending_by h own x ls (heaps.buffer bytes maximum) [] (record { shape = buffer bytes maximum; slots = [] }) e (buffer_parts h f x bytes maximum e)
      (record { held = bytes; shape = refl; holds = inl refl }, refl)

  -- a resizable buffer, whose bytes come later unless they are all zero
  zeros_waits : (x : ℕ) (bytes : List ℕ) (m : ℕ) → (object_at h x).kind ≡ heaps.buffer bytes (Some m) → (zeros (length bytes) ≡ bytes) ⊎ ((k : ViewKind) × Waits x (lates h order x) (fills k))
  zeros_waits x bytes m e =
      ⊎_elim (λ (z : all_zero bytes ≡ true). inl (all_zeros bytes z))
      (λ (z : all_zero bytes ≡ false).
      let k = bytes_kind (data_kind h order x) (listing (data_kind h order x)) in
      let l : lates h order x ≡ record { target = x; task = fills k; ordered = false } ∷ [] = ap (λ k. lates_by h order x (slot h order x) k (object_at h x).parts) e ∙ simp z in
      inr (k, subst (λ ls. Waits x ls (fills k)) (sym l) here)) (cases_Bool (all_zero bytes))

  empty_buffer : (own : Pairing) (x : ℕ) (bytes : List ℕ) (m : ℕ) → (object_at h x).kind ≡ heaps.buffer bytes (Some m) → Pending h own x (lates h order x) (record { shape = buffer (zeros (length bytes)) (Some m); slots = [] })
  empty_buffer own x bytes m e =
      pending_by h own x (lates h order x) (heaps.buffer bytes (Some m)) [] (record { shape = buffer (zeros (length bytes)) (Some m); slots = [] }) e (buffer_parts h f x bytes (Some m) e)
      (record { held = zeros (length bytes); shape = refl; holds = ⊎_elim (λ (a : zeros (length bytes) ≡ bytes). inl a) (λ (w : (k : ViewKind) × Waits x (lates h order x) (fills k)). inr (refl, w)) (zeros_waits x bytes m e) }, refl)

  module _ (own : Pairing) (s : State) (len : length own ≡ length s.objects) (x : ℕ) (bytes : List ℕ) where
    resizable_good : (m : ℕ) → (object_at h x).kind ≡ heaps.buffer bytes (Some m) → Good h order own s (form (new_resizable (length bytes) m)) (object x) (λ y. one y x)
    resizable_good m e =
        let options : Obj = record { shape = ordinary; slots = keyed maximum_key (count m) ∷ [] } in
        let empty : Obj = record { shape = buffer (zeros (length bytes)) (Some m); slots = [] } in
        let place : length (s.objects ++ (options ∷ [])) ≡ suc (length s.objects) = omega (arith, length-append s.objects (options ∷ [])) in
        record {
          new = options ∷ empty ∷ [];
          adds = None ∷ Some x ∷ [];
          val = ref (suc (length s.objects));
          runs = λ i. made (ref (place i)) (record { objects = append_assoc s.objects (options ∷ []) (empty ∷ []) i; names = s.names });
          objects = a_cons tt (a_cons (empty_buffer (own ++ (None ∷ Some x ∷ [])) x bytes m e) a_nil);
          says = (suc (length s.objects), refl, nth_beyond own (None ∷ Some x ∷ []) (length s.objects) 1 (suc (length s.objects)) len (omega arith));
          counts = λ y. omega arith;
        }

    zero_good : (object_at h x).kind ≡ heaps.buffer bytes None → all_zero bytes ≡ true → Good h order own s (form (buffer_form (length bytes))) (object x) (λ y. one y x)
    zero_good e z = record {
      new = fixed bytes ∷ [];
      adds = Some x ∷ [];
      val = ref (length s.objects);
      runs = ap (λ bs. made (ref (length s.objects)) (grown s (fixed bs ∷ []))) (all_zeros bytes z);
      objects = a_cons (whole_buffer (own ++ (Some x ∷ [])) x (lates h order x) bytes None e) a_nil;
      says = (length s.objects, refl, nth_beyond own (Some x ∷ []) (length s.objects) 0 (length s.objects) len (omega arith));
      counts = λ y. omega arith;
    }

    data_good : (k : ViewKind) → (object_at h x).kind ≡ heaps.buffer bytes None → Good h order own s (form (data_buffer k bytes)) (object x) (λ y. one y x)
    data_good k e =
        let t = typed h own s.objects len k bytes x None in
        record {
          new = typed_made k bytes (length s.objects);
          adds = t.adds;
          val = ref (typed_on bytes (length s.objects));
          runs = refl;
          objects = t.stored (own ++ t.adds) (lates h order) (whole_buffer (own ++ t.adds) x (lates h order x) bytes None e) tt;
          says = (t.on, ap ref t.on_is, t.on_own);
          counts = λ y. omega (arith, t.counts y);
        }

    fixed_good : (object_at h x).kind ≡ heaps.buffer bytes None → Good h order own s (buffer_expr h order x bytes None) (object x) (λ y. one y x)
    fixed_good e =
        ⊎_elim (λ (z : all_zero bytes ≡ true). rw z (zero_good e z))
        (λ (z : all_zero bytes ≡ false). rw z (data_good (data_kind h order x) e)) (cases_Bool (all_zero bytes))

    by_maximum : (maximum : Option ℕ) → (object_at h x).kind ≡ heaps.buffer bytes maximum → Good h order own s (buffer_expr h order x bytes maximum) (object x) (λ y. one y x)
    by_maximum None e = fixed_good e
    by_maximum (Some m) e = resizable_good m e

  pub buffer_good : (x : ℕ) (bytes : List ℕ) (maximum : Option ℕ) → (object_at h x).kind ≡ heaps.buffer bytes maximum →
      (own : Pairing) (left : ℕ → List Late) (s : State) → Store h own left own s.objects → Good h order own s (buffer_expr h order x bytes maximum) (object x) (λ y. one y x)
  buffer_good x bytes maximum e own left s st = by_maximum own s (all2_length st) x bytes maximum e
