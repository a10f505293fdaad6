-- A part of a typed array, of one with data of its own or of a backing view, stands for a view on its buffer.
use Rattle.std.proofs.Common.{◌≡◌, ℕ, ◌+◌, ◌*◌, ◌/◌, ◌%◌, ◌<◌, ◌≤◌, Bool, true, false, cond, eqb, List, [], ◌∷◌, ◌++◌, length, Some, None, Option, sym, refl, ap, ◌∙◌, append-nil, add-mul, arith}
use Rattle.std.proofs.lemmas.Bool.{eqb-true}
use Rattle.dump.specs.declared.kinds.ViewKind.{ViewKind}
use Rattle.dump.specs.Heaps as heaps
use Rattle.dump.specs.Heaps.{below, object, Heap}
use Rattle.dump.specs.Kinds.{width}
use Rattle.script.specs.Syntax as syntax
use Rattle.script.specs.Syntax.{form, typed_part}
use Rattle.planner.specs.Visits.{object_at}
use Rattle.planner.specs.Names.{is_view, pos, slot}
use Rattle.planner.specs.Builds as builds
use Rattle.planner.specs.Lates.{Late, lates}
use Rattle.evaluator.specs.Options.{and_then, nth}
use Rattle.evaluator.specs.Stores.{Val, ref, view, single, State, Made, make, lookup}
use Rattle.evaluator.specs.Makes.{subarray}
use Rattle.evaluator.specs.Isomorphic.{Pairing}
use Rattle.effects.specs.Effects.{count, expr_made, fixed, typed_view, typed_made, typed_state}
use Rattle.rebuilds.specs.Adequate.{Adequate}
use Rattle.rebuilds.specs.Makes.{one}
use Rattle.rebuilds.specs.Pending.{a_nil, Store}
use Rattle.rebuilds.specs.Good.{Good, Names}
use Rattle.pending.proofs.Lists.{all2_length}
use Rattle.pending.proofs.Stores.{store_at}
use Rattle.effects.proofs.Objects.{buffer_short}
use Rattle.places.proofs.Names.{Backs}
use Rattle.expressions.proofs.Stores.{Sized, buffered}
use Rattle.expressions.proofs.Makes.{elements_back, elements_of, Bounds, from, both, parted}
use Rattle.expressions.proofs.Makes as makes
use Rattle.expressions.proofs.Typed.{typed}
use Rattle.expressions.proofs.Buffers.{whole_buffer}
use Rattle.expressions.proofs.Named.{grown_none, backing_bound, on_backed}
use Rattle.expressions.proofs.Over.{recount, push_view}
use Rattle.effects.specs.Bounded.{Bounded}

-- The arguments as they are written: the end is left out where the array ends, and then a start of 0.
module _ (s : State) (w : ℕ) (v : Val) (start end size : ℕ) (out : Option Made) (bound : lookup s.names w ≡ Some v) (gives : (vs : List Val) → Bounds start end size vs → subarray v vs s ≡ out) where
  sub_made : (to_end_lem : Bool) → (to_end_lem ≡ true → end ≡ size) → expr_made (builds.subarray_of w start end to_end_lem) s ≡ out
  sub_made false e = ap (λ o. and_then o (λ v. subarray v (count start ∷ count end ∷ []) s)) bound ∙ gives (count start ∷ count end ∷ []) both
  sub_made true e = go (eqb start 0) refl
    where
      go : (z : Bool) → eqb start 0 ≡ z → expr_made (form (syntax.subarray w (cond z None (Some start)) None)) s ≡ out
      go true z = ap (λ o. and_then o (λ v. subarray v [] s)) bound ∙ gives [] (makes.none (eqb-true start 0 z) (e refl))
      go false z = ap (λ o. and_then o (λ v. subarray v (count start ∷ []) s)) bound ∙ gives (count start ∷ []) (from (e refl))

module _ (h : Heap) (f : Bounded h) (order : List ℕ) (own : Pairing) (s : State) (x b : ℕ) (k : ViewKind) (offset n : ℕ) (bytes : List ℕ)
    (viewed : (object_at h x).kind ≡ heaps.view k offset n false) (on : (object_at h x).parts ≡ below b ∷ []) (is_buffer : (object_at h b).kind ≡ heaps.buffer bytes None)
    (typed-array : is_view k ≡ true) (aligned : offset % width k ≡ 0) (even : length bytes % width k ≡ 0) (inside : offset + n * width k ≤ length bytes) where
  -- the bytes of a buffer are few
  few : length bytes ≤ 9007199254740991
  few = let a = buffer_short h f b bytes None is_buffer in omega arith

  -- new K([..]).subarray(start, end)
  pub part_good : length own ≡ length s.objects → Good h order own s (form (typed_part k bytes (offset / width k) (offset / width k + n))) (object x) (λ y. one y b + one y x)
  part_good len =
      let t = typed h own s.objects len k bytes b None in
      push_view h order own s len x b k offset n false viewed on t.adds (typed_made k bytes (length s.objects)) t.on
      (form (typed_part k bytes (offset / width k) (offset / width k + n))) (λ y. one y b)
      (t.stored (own ++ t.adds) (lates h order) (whole_buffer h f order (own ++ t.adds) b (lates h order b) bytes None is_buffer) tt) t.on_own
      (ap (λ p. subarray (ref p) (count (offset / width k) ∷ count (offset / width k + n) ∷ []) (typed_state k bytes s)) t.at_is
      ∙ parted k offset n (length bytes / width k) t.at t.on (typed_view k t.on bytes) (fixed bytes) bytes None
      (count (offset / width k) ∷ count (offset / width k + n) ∷ []) (typed_state k bytes s)
      t.at_made refl refl t.on_made refl few (elements_back k (length bytes) even) typed-array aligned inside both)
      (λ y. omega (arith, t.counts y))

  -- vN.subarray(start, end) of the backing view of the same kind
  pub sub_good : (ad : Adequate h order) (left : ℕ → List Late) (t : ℕ) → Names h order own t s.names → Store h own left own s.objects →
      (w : ℕ) (a : Backs h f order ad b w) → a.kind ≡ k → pos h order b < t →
      Good h order own s (builds.subarray_of (slot h order w) (offset / width k) (offset / width k + n) (eqb (offset + n * width k) (length bytes))) (object x) (λ y. one y x)
  sub_good ad left t names store w a same lt =
      let bound = backing_bound h f order ad own left s t names store b w a.buffer_member a.backing lt in
      let o = on_backed h f order ad own left s t names store b w a bound.at bound.stands in
      let v = o.views in
      let c = store_at h own left store v.on b v.stands in
      let z : Sized h bytes None c.0 = buffered h own left (Some b) c.0 c.2 bytes None is_buffer in
      let size = z.size in
      let bs : a.bytes ≡ bytes = let q = sym a.buffer_is ∙ is_buffer in cc in
      let whole : a.n * width k ≡ length bytes = ap (λ l. a.n * width l) (sym same) ∙ a.covers ∙ ap length bs in
      let back = elements_back k offset aligned in
      let start = offset / width k in
      let runs = sub_made s (slot h order w) (ref bound.at) start (start + n) a.n (make (view k offset (Some n)) (single (ref v.on) ∷ []) s)
      (ap (lookup s.names) a.slot_view ∙ bound.bound)
      (λ vs bs. parted k offset n a.n bound.at v.on o.obj c.0 z.held None vs s o.there (v.shape ∙ ap (λ l. view l 0 (Some a.n)) same) v.slots c.1 z.shape
      (omega (arith, few)) (whole ∙ sym size) typed-array aligned (omega arith) bs)
      (eqb (offset + n * width k) (length bytes))
      (λ r. let reach = eqb-true (offset + n * width k) (length bytes) r in sym (elements_of k (start + n) (length bytes) (add-mul start n (width k) ∙ omega arith)) ∙ elements_of k a.n (length bytes) whole) in
      let e = builds.subarray_of (slot h order w) start (start + n) (eqb (offset + n * width k) (length bytes)) in
      recount h order own s e (object x) (λ y. 0 + one y x) (λ y. one y x) (λ y. omega arith)
      (push_view h order own s (all2_length store) x b k offset n false viewed on [] [] v.on e (λ y. 0) a_nil (ap (λ ps. nth ps v.on) (append-nil own) ∙ v.stands)
      (runs ∙ ap (make (view k offset (Some n)) (single (ref v.on) ∷ [])) (sym (grown_none s))) (λ y. refl))
