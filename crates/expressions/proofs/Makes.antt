-- What the evaluator makes of a view on a buffer, and of a part of a typed array: no test fails, and nothing is cut.
use Rattle.std.proofs.Common.{◌≡◌, ℕ, ◌+◌, ◌-◌, ◌*◌, ◌/◌, ◌%◌, ◌<◌, ◌≤◌, min, Bool, true, false, cond, not, ◌&&◌, eqb, List, [], ◌∷◌, length, is_some, Some, None, Option, sym, refl, ap, ◌∙◌, ⊎_elim, add-mul, div-add-mod', le-mul_of_pos_right, le_of_mul-le-mul_right, mul-div_cancel, arith}
use Rattle.std.proofs.lemmas.Bool.{cases_Bool, le-leb, eqb-true}
use Rattle.dump.specs.declared.kinds.ViewKind.{ViewKind}
use Rattle.dump.specs.declared.kinds.ViewKind.TheVariants.{Int8Array, Uint8Array, Uint8ClampedArray, Int16Array, Uint16Array, Int32Array, Uint32Array, Float32Array, Float64Array, BigInt64Array, BigUint64Array, DataView}
use Rattle.dump.specs.Kinds.{width, view_kind, view_number}
use Rattle.planner.specs.Names.{is_view}
use Rattle.evaluator.specs.Options.{and_then, when, nth}
use Rattle.evaluator.specs.Stores.{Val, ref, buffer, view, single, Obj, State, make}
use Rattle.evaluator.specs.Makes.{ViewHeld, width_of, is_typed, index_in, buffer_in, view_held, buffer_at, view_at, place_view, view_on, count_in, part, subarray_of, subarray}
use Rattle.effects.specs.Effects.{count, offset_of}
use Rattle.leaves.proofs.Wholes.{index_in_lem}

-- the evaluator's own tables agree
pub width_is : (k : ViewKind) → width_of k ≡ width k
width_is Int8Array = refl
width_is Uint8Array = refl
width_is Uint8ClampedArray = refl
width_is Int16Array = refl
width_is Uint16Array = refl
width_is Int32Array = refl
width_is Uint32Array = refl
width_is Float32Array = refl
width_is Float64Array = refl
width_is BigInt64Array = refl
width_is BigUint64Array = refl
width_is DataView = refl

pub typed_is : (k : ViewKind) → is_typed k ≡ is_view k
typed_is Int8Array = refl
typed_is Uint8Array = refl
typed_is Uint8ClampedArray = refl
typed_is Int16Array = refl
typed_is Uint16Array = refl
typed_is Int32Array = refl
typed_is Uint32Array = refl
typed_is Float32Array = refl
typed_is Float64Array = refl
typed_is BigInt64Array = refl
typed_is BigUint64Array = refl
typed_is DataView = refl

pub width_some : (k : ViewKind) → 0 < width k
width_some Int8Array = omega arith
width_some Uint8Array = omega arith
width_some Uint8ClampedArray = omega arith
width_some Int16Array = omega arith
width_some Uint16Array = omega arith
width_some Int32Array = omega arith
width_some Uint32Array = omega arith
width_some Float32Array = omega arith
width_some Float64Array = omega arith
width_some BigInt64Array = omega arith
width_some BigUint64Array = omega arith
width_some DataView = omega arith

-- kinds are told by their numbers
kind_back : (k : ViewKind) → view_kind (view_number k) ≡ k
kind_back Int8Array = refl
kind_back Uint8Array = refl
kind_back Uint8ClampedArray = refl
kind_back Int16Array = refl
kind_back Uint16Array = refl
kind_back Int32Array = refl
kind_back Uint32Array = refl
kind_back Float32Array = refl
kind_back Float64Array = refl
kind_back BigInt64Array = refl
kind_back BigUint64Array = refl
kind_back DataView = refl

pub kind_same : (k l : ViewKind) → eqb (view_number k) (view_number l) ≡ true → k ≡ l
kind_same k l e = sym (kind_back k) ∙ ap view_kind (eqb-true (view_number k) (view_number l) e) ∙ kind_back l

-- whole elements
pub elements_back : (k : ViewKind) (n : ℕ) → n % width k ≡ 0 → n / width k * width k ≡ n
elements_back k n e = omega (arith, div-add-mod' n (width k))

pub elements_of : (k : ViewKind) (n m : ℕ) → n * width k ≡ m → m / width k ≡ n
elements_of k n m e = ap (λ z. z / width k) (sym e) ∙ mul-div_cancel n (width_some k)

-- a place of the store that is a buffer, or a view
pub buffer_at_lem : (s : State) (p : ℕ) (x : Obj) (held : List ℕ) (maximum : Option ℕ) → nth s.objects p ≡ Some x → x.shape ≡ buffer held maximum → buffer_at s (ref p) ≡ Some (record { bytes = held; maximum = maximum })
buffer_at_lem s p x held maximum e d = ap (λ o. and_then o (λ y. buffer_in y.shape)) e ∙ ap buffer_in d

pub view_at_lem : (s : State) (p q : ℕ) (x : Obj) (k : ViewKind) (offset : ℕ) (n : Option ℕ) → nth s.objects p ≡ Some x → x.shape ≡ view k offset n → x.slots ≡ single (ref q) ∷ [] →
    view_at s (ref p) ≡ Some (record { kind = k; offset = offset; count = n; on = ref q })
view_at_lem s p q x k offset n e d c = ap (λ o. and_then o (λ y. view_held y.shape y.slots)) e ∙ (λ i. view_held (d i) (c i))

-- The length of a view as it is written: given, left out up to the end of a fixed buffer, or left out for a view that tracks.
pub data Counts (k : ViewKind) (offset n : ℕ) (tracking : Bool) (size : ℕ) (maximum : Option ℕ) : Option ℕ → Type 0 where
  given : tracking ≡ false → Counts k offset n tracking size maximum (Some n)
  to_end_lem : tracking ≡ false → is_some maximum ≡ false → size % width k ≡ 0 → offset + n * width k ≡ size → Counts k offset n tracking size maximum None
  tracks : tracking ≡ true → is_some maximum ≡ true → Counts k offset n tracking size maximum None

-- on a buffer of that size a view is made
pub placed : (k : ViewKind) (offset n : ℕ) (tracking : Bool) (on : Val) (held : List ℕ) (maximum c : Option ℕ) (s : State) →
    offset % width k ≡ 0 → offset + n * width k ≤ length held → Counts k offset n tracking (length held) maximum c →
    place_view k on offset c (record { bytes = held; maximum = maximum }) s ≡ make (view k offset (cond tracking None (Some n))) (single on ∷ []) s
placed k offset n tracking on held maximum (Some m) s a i (given t) = simp (t, width_is k, a, le-leb (offset + n * width k) (length held) i)
placed k offset n tracking on held maximum None s a i (to_end_lem t f ev e) = simp (t, width_is k, a, f, ev, le-leb offset (length held) (omega arith), elements_of k n (length held - offset) (omega arith))
placed k offset n tracking on held maximum None s a i (tracks t f) = simp (t, width_is k, a, f, le-leb offset (length held) (omega arith))

-- the offset as it is written stands for the offset
pub offset_is : (offset : ℕ) (c : Option ℕ) → offset_of (cond (eqb offset 0 && not (is_some c)) None (Some offset)) ≡ offset
offset_is offset (Some n) = grind arith
offset_is offset None = ⊎_elim (λ (e : eqb offset 0 ≡ true). let z = eqb-true offset 0 e in simp z) (λ (e : eqb offset 0 ≡ false). simp e) (cases_Bool (eqb offset 0))

-- The arguments of `subarray` for the elements from one index to another of so many: left out where they say nothing.
pub data Bounds (start end size : ℕ) : List Val → Type 0 where
  none : start ≡ 0 → end ≡ size → Bounds start end size []
  from : end ≡ size → Bounds start end size (count start ∷ [])
  both : Bounds start end size (count start ∷ count end ∷ [])

cut : (w : ViewHeld) (start end size : ℕ) (vs : List Val) (s : State) → start ≤ size → end ≤ size → size ≤ 9007199254740991 → Bounds start end size vs →
    subarray_of w size vs s ≡ part w start end s
cut w start end size vs s a b small (none e d) = simp (e, d)
cut w start end size vs s a b small (from d) =
    ap (λ o. and_then o (λ f. part w (min f size) size s)) (index_in_lem start (omega arith))
    ∙ (let m : min start size ≡ start = omega arith in simp (m, d))
cut w start end size vs s a b small both =
    ap (λ o. and_then o (λ f. and_then (index_in (count end)) (λ t. part w (min f size) (min t size) s))) (index_in_lem start (omega arith))
    ∙ ap (λ o. and_then o (λ t. part w (min start size) (min t size) s)) (index_in_lem end (omega arith))
    ∙ (let m : min start size ≡ start = omega arith in let n : min end size ≡ end = omega arith in simp (m, n))

-- A part of a typed array from the start of a buffer to its end, from an offset on and of a count.
pub parted : (k : ViewKind) (offset n size : ℕ) (p q : ℕ) (v b : Obj) (held : List ℕ) (maximum : Option ℕ) (vs : List Val) (s : State) →
    nth s.objects p ≡ Some v → v.shape ≡ view k 0 (Some size) → v.slots ≡ single (ref q) ∷ [] →
    nth s.objects q ≡ Some b → b.shape ≡ buffer held maximum → length held ≤ 9007199254740991 → size * width k ≡ length held →
    is_view k ≡ true → offset % width k ≡ 0 → offset + n * width k ≤ length held → Bounds (offset / width k) (offset / width k + n) size vs →
    subarray (ref p) vs s ≡ make (view k offset (Some n)) (single (ref q) ∷ []) s
parted k offset n size p q v b held maximum vs s pv shape slots qb bshape small whole typed aligned inside bounds =
    let w : ViewHeld = record { kind = k; offset = 0; count = Some size; on = ref q } in
    let back = elements_back k offset aligned in
    let sum = add-mul (offset / width k) n (width k) in
    let end : offset / width k + n ≤ size = le_of_mul-le-mul_right {k = width k} (omega arith) (width_some k) in
    let few : size ≤ 9007199254740991 = omega (arith, le-mul_of_pos_right size (width_some k)) in
    let start : 0 + offset / width k * width_of k ≡ offset = ap (λ z. 0 + offset / width k * z) (width_is k) ∙ omega arith in
    let many : offset / width k + n - offset / width k ≡ n = omega arith in
    ap (λ o. and_then o (λ w. and_then (buffer_at s w.on) (λ b. when (is_some w.count) (subarray_of w (count_in w b) vs s)))) (view_at_lem s p q v k 0 (Some size) pv shape slots)
    ∙ ap (λ o. and_then o (λ b. subarray_of w size vs s)) (buffer_at_lem s q b held maximum qb bshape)
    ∙ cut w (offset / width k) (offset / width k + n) size vs s (omega arith) end few bounds
    ∙ ap (λ t. when t (view_on k (ref q) (0 + offset / width k * width_of k) (Some (offset / width k + n - offset / width k)) s)) (typed_is k ∙ typed)
    ∙ (λ i. view_on k (ref q) (start i) (Some (many i)) s)
    ∙ ap (λ o. and_then o (λ b. place_view k (ref q) offset (Some n) b s)) (buffer_at_lem s q b held maximum qb bshape)
    ∙ placed k offset n false (ref q) held maximum (Some n) s aligned inside (given refl)
