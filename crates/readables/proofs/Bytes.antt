-- The bytes of a buffer are data of the kind of every typed array on it, so of the kind in which they are listed; and a view's numbers are small.
use Rattle.std.proofs.Common.{◌≡◌, ℕ, ◌+◌, ◌*◌, ◌%◌, ◌<◌, ◌≤◌, Bool, true, false, not, ◌&&◌, eqb, List, [], ◌∷◌, length, is_some, Some, None, Option, sym, refl, ap, ◌∙◌, subst, ⊎_elim, mul-le-mul_left, arith, eqb-true}
use native.Mathlib.Nat.{mod-one}
use Rattle.std.specs.List.{AllByRecursion as All}
use Rattle.std.proofs.lemmas.Bool.{and_parts, or_cases, both_ways, cond_both}
use Rattle.dump.specs.declared.kinds.ViewKind.{ViewKind}
use Rattle.dump.specs.declared.kinds.ViewKind.TheVariants.{Int8Array, Uint8Array, Uint8ClampedArray, Int16Array, Uint16Array, Int32Array, Uint32Array, Float32Array, Float64Array, BigInt64Array, BigUint64Array, DataView}
use Rattle.dump.specs.Kinds.{width}
use Rattle.dump.specs.Heaps as heaps
use Rattle.dump.specs.Heaps.{Kind, buffer, view, Part, below, nobody, Heap}
use Rattle.formed.specs.Formed.{KindFormed, PartsFormed, ViewFormed}
use Rattle.effects.specs.Bounded.{Bounded}
use Rattle.script.specs.Texts.{listing}
use Rattle.evaluator.specs.Makes.{is_typed}
use Rattle.planner.specs.Visits.{edges_of, edges, object_at, mem}
use Rattle.planner.specs.Names.{first, is_view, ViewContent, view_in, buffer_in, is_on, spans, covers_buffer, covers, lists_in, kind_or_bytes, data_kind_by, data_kind}
use Rattle.planner.specs.Lates.{bytes_kind}
use Rattle.effects.specs.Readable.{Data, IsNumbers}
use Rattle.effects.proofs.Objects.{formed_at, buffer_short}

-- what the first that passes a test has
abbrev pub FirstOk : (ℕ → Bool) → Option ℕ → Type 0
FirstOk p None = Unit {0}
FirstOk p (Some x) = p x ≡ true

pub first_ok : (p : ℕ → Bool) (xs : List ℕ) → FirstOk p (first p xs)
first_ok p [] = tt
first_ok p (x ∷ xs) = cond_both (p x) (Some x) (first p xs) (FirstOk p) (λ e. e) (λ e. first_ok p xs)

-- an element has at least a byte
pub width_least : (k : ViewKind) → 1 ≤ width k
width_least Int8Array = omega arith
width_least Uint8Array = omega arith
width_least Uint8ClampedArray = omega arith
width_least Int16Array = omega arith
width_least Uint16Array = omega arith
width_least Int32Array = omega arith
width_least Uint32Array = omega arith
width_least Float32Array = omega arith
width_least Float64Array = omega arith
width_least BigInt64Array = omega arith
width_least BigUint64Array = omega arith
width_least DataView = omega arith

-- no DataView is a typed array, and all others are
pub typed_view_lem : (k : ViewKind) → is_typed k ≡ is_view k
typed_view_lem Int8Array = refl
typed_view_lem Uint8Array = refl
typed_view_lem Uint8ClampedArray = refl
typed_view_lem Int16Array = refl
typed_view_lem Uint16Array = refl
typed_view_lem Int32Array = refl
typed_view_lem Uint32Array = refl
typed_view_lem Float32Array = refl
typed_view_lem Float64Array = refl
typed_view_lem BigInt64Array = refl
typed_view_lem BigUint64Array = refl
typed_view_lem DataView = refl

-- the bytes of a resizable buffer are listed as numbers
pub numbers_listed : (k : ViewKind) → IsNumbers (listing (bytes_kind k (listing k)))
numbers_listed Int8Array = tt
numbers_listed Uint8Array = tt
numbers_listed Uint8ClampedArray = tt
numbers_listed Int16Array = tt
numbers_listed Uint16Array = tt
numbers_listed Int32Array = tt
numbers_listed Uint32Array = tt
numbers_listed Float32Array = tt
numbers_listed Float64Array = tt
numbers_listed BigInt64Array = tt
numbers_listed BigUint64Array = tt
numbers_listed DataView = tt

-- and are data of that kind if they are of the first
pub listed_data : (k : ViewKind) (bytes : List ℕ) → Data k bytes → Data Uint8Array bytes → Data (bytes_kind k (listing k)) bytes
listed_data Int8Array bytes d u = d
listed_data Uint8Array bytes d u = d
listed_data Uint8ClampedArray bytes d u = d
listed_data Int16Array bytes d u = d
listed_data Uint16Array bytes d u = d
listed_data Int32Array bytes d u = d
listed_data Uint32Array bytes d u = d
listed_data Float32Array bytes d u = u
listed_data Float64Array bytes d u = u
listed_data BigInt64Array bytes d u = d
listed_data BigUint64Array bytes d u = d
listed_data DataView bytes d u = d

-- a view lies in its buffer, which has whole elements of its kind
pub record ViewFits (k : ViewKind) (offset count : ℕ) (bytes : List ℕ) : Type 0 where
  pub even : length bytes % width k ≡ 0
  pub inside : offset + count * width k ≤ length bytes

-- bytes of a formed buffer
abbrev pub BytesFormed : List ℕ → Type 0
BytesFormed bytes = All (λ x. x < 256) bytes × (length bytes ≤ 1048576)

pub bytes_data : (k : ViewKind) (bytes : List ℕ) → is_view k ≡ true → length bytes % width k ≡ 0 → BytesFormed bytes → Data k bytes
bytes_data k bytes v e b = let l = b.1 in record { typed = typed_view_lem k ∙ v; small = omega arith; octets = b.0; even = e }

pub octets_data : (bytes : List ℕ) → BytesFormed bytes → Data Uint8Array bytes
octets_data bytes b = bytes_data Uint8Array bytes refl (mod-one (length bytes)) b

-- the numbers of a view that fits
pub fits_count : (k : ViewKind) (offset count : ℕ) (bytes : List ℕ) → ViewFits k offset count bytes → BytesFormed bytes → offset + count ≤ 1048576
fits_count k offset count bytes v b =
    let w = width_least k in
    let m : count * 1 ≤ count * width k = mul-le-mul_left count w in
    let i = v.inside in
    let l = b.1 in
    omega arith

-- the content of a typed array
abbrev typed_in : Option ViewContent → Bool
typed_in None = false
typed_in (Some v) = is_view v.kind

abbrev ViewOf : Kind → Type 0
ViewOf kind = (v : ViewContent) × (kind ≡ view v.kind v.offset v.count v.tracking)

-- a kind that has a view's content is a view
view_of_lem : (kind : Kind) → is_some (view_in kind) ≡ true → ViewOf kind
view_of_lem (heaps.boolean_object v) e = absurd (both_ways false refl e)
view_of_lem (heaps.number_object bits) e = absurd (both_ways false refl e)
view_of_lem (heaps.bigint_object t) e = absurd (both_ways false refl e)
view_of_lem (heaps.string_object t) e = absurd (both_ways false refl e)
view_of_lem (heaps.regexp t flags) e = absurd (both_ways false refl e)
view_of_lem (heaps.date time) e = absurd (both_ways false refl e)
view_of_lem heaps.plain e = absurd (both_ways false refl e)
view_of_lem (heaps.sparse n) e = absurd (both_ways false refl e)
view_of_lem (heaps.dense n) e = absurd (both_ways false refl e)
view_of_lem heaps.map e = absurd (both_ways false refl e)
view_of_lem heaps.set e = absurd (both_ways false refl e)
view_of_lem (heaps.buffer bytes maximum) e = absurd (both_ways false refl e)
view_of_lem (heaps.view k offset n tracking) e = (record { kind = k; offset = offset; count = n; tracking = tracking }, refl)
view_of_lem (heaps.error n message stack) e = absurd (both_ways false refl e)

module _ (h : Heap) (f : Bounded h) where
  pub bytes_formed : (b : ℕ) (bytes : List ℕ) (maximum : Option ℕ) → (object_at h b).kind ≡ buffer bytes maximum → BytesFormed bytes
  bytes_formed b bytes maximum e = let g : KindFormed (buffer bytes maximum) = subst KindFormed e (formed_at h f b).0 in (g.0, buffer_short h f b bytes maximum e)

  pub view_formed : (x : ℕ) (k : ViewKind) (offset count : ℕ) (tracking : Bool) → (object_at h x).kind ≡ view k offset count tracking → ViewFormed h k offset count tracking (object_at h x).parts
  view_formed x k offset count tracking e = subst (λ kind. PartsFormed h (length h.objects) kind (object_at h x).parts) e (formed_at h f x).1

  -- the one edge of a view goes to its buffer
  edge_below : (b on : ℕ) (ps : List Part) → ps ≡ below on ∷ [] → mem b (edges_of ps) ≡ true → b ≡ on
  edge_below b on ps e m =
      ⊎_elim (λ (a : eqb b on ≡ true). eqb-true b on a) (λ (a : false ≡ true). absurd (both_ways false refl a))
      (or_cases (eqb b on) false (subst (λ qs. mem b (edges_of qs) ≡ true) e m))

  -- a view on a buffer fits its bytes
  pub view_fits : (x b : ℕ) (k : ViewKind) (offset count : ℕ) (tracking : Bool) (bytes : List ℕ) (maximum : Option ℕ) →
      (object_at h x).kind ≡ view k offset count tracking → mem b (edges h x) ≡ true → (object_at h b).kind ≡ buffer bytes maximum → ViewFits k offset count bytes
  view_fits x b k offset count tracking bytes maximum e m c =
      let v = view_formed x k offset count tracking e in
      let q = edge_below b v.on (object_at h x).parts v.part m in
      let same : buffer v.bytes v.maximum ≡ buffer bytes maximum = sym v.on_buffer ∙ (ap (λ z. (object_at h z).kind) (sym q) ∙ c) in
      let same_bytes : v.bytes ≡ bytes = cc in
      record { even = subst (λ z. length z % width k ≡ 0) same_bytes v.even; inside = subst (λ z. offset + count * width k ≤ length z) same_bytes v.inside }

  module _ (order : List ℕ) (b : ℕ) (bytes : List ℕ) (maximum : Option ℕ) (c : (object_at h b).kind ≡ buffer bytes maximum) where
    -- what lists the bytes of a buffer is a typed array on it
    listed_in : (x : ℕ) → lists_in h order b x ≡ true → Data (data_kind_by h order (Some x)) bytes
    listed_in x e =
        let lists = and_parts (is_on h order b x) (typed_in (view_in (object_at h x).kind)) e in
        let on = and_parts (is_some (view_in (object_at h x).kind)) (mem b (edges h x)) lists.0 in
        by_view_lem (view_of_lem (object_at h x).kind on.0) on.1 lists.1
      where
        by_view_lem : ViewOf (object_at h x).kind → mem b (edges h x) ≡ true → typed_in (view_in (object_at h x).kind) ≡ true → Data (data_kind_by h order (Some x)) bytes
        by_view_lem v m t =
            let fits = view_fits x b v.0.kind v.0.offset v.0.count v.0.tracking bytes maximum v.1 m c in
            let typed : is_view v.0.kind ≡ true = subst (λ kind. typed_in (view_in kind) ≡ true) v.1 t in
            subst (λ (kind : Kind). Data (kind_or_bytes h order (view_in kind)) bytes) (sym v.1) (bytes_data v.0.kind bytes typed fits.even (bytes_formed b bytes maximum c))

    listed_by : (x : Option ℕ) → FirstOk (lists_in h order b) x → Data (data_kind_by h order x) bytes
    listed_by None e = octets_data bytes (bytes_formed b bytes maximum c)
    listed_by (Some x) e = listed_in x e

    -- so its bytes are data of the kind in which they are listed
    pub kind_data : Data (data_kind h order b) bytes
    kind_data = listed_by (first (lists_in h order b) order) (first_ok (lists_in h order b) order)

    -- what covers a buffer is a typed array
    pub covers_view : (x : ℕ) (v : ViewContent) → view_in (object_at h x).kind ≡ Some v → covers h order b x ≡ true → is_view v.kind ≡ true
    covers_view x v q e =
        let on_bytes : covers_buffer h order b (buffer_in (buffer bytes maximum)) x ≡ true = subst (λ kind. covers_buffer h order b (buffer_in kind) x ≡ true) c e in
        let on = and_parts (not (is_some maximum)) (is_on h order b x && spans h order (length bytes) (view_in (object_at h x).kind)) on_bytes in
        let spanning = and_parts (is_on h order b x) (spans h order (length bytes) (view_in (object_at h x).kind)) on.1 in
        let all : spans h order (length bytes) (Some v) ≡ true = subst (λ z. spans h order (length bytes) z ≡ true) q spanning.1 in
        (and_parts (is_view v.kind) (eqb v.offset 0 && (not v.tracking && eqb (v.count * width v.kind) (length bytes))) all).0
