-- Who needs a name, who inlines, which view backs a buffer, and when a name is bound. All are said of a heap and an order of its objects.
use Rattle.std.specs.Prelude.{ℕ, suc, ◌+◌, ◌*◌, Bool, true, false, cond, not, ◌&&◌, ◌||◌, List, [], ◌∷◌, length, is_some, Some, None, Option, ◌==◌, nat_le, nat_lt}
use Rattle.dump.specs.declared.kinds.ViewKind.{ViewKind}
use Rattle.dump.specs.declared.kinds.ViewKind.TheVariants.{Int8Array, Uint8Array, Uint8ClampedArray, Int16Array, Uint16Array, Int32Array, Uint32Array, Float32Array, Float64Array, BigInt64Array, BigUint64Array, DataView}
use Rattle.dump.specs.Heaps.{Value, undefined, null, hole, boolean, whole, double, bigint, text, object, Kind, boolean_object, number_object, bigint_object, string_object, regexp, date, plain, sparse, dense, map, set, buffer, view, error, Heap}
use Rattle.dump.specs.Kinds.{width}
use Rattle.planner.specs.Visits.{refs, edges, object_at, mem}

-- the place of an object in an order, its length for one that is not there
abbrev pub place_in : List ℕ → ℕ → ℕ
place_in [] x = 0
place_in (y ∷ ys) x = cond (x == y) 0 (suc (place_in ys x))

abbrev pub count : ℕ → List ℕ → ℕ
count x [] = 0
count x (y ∷ ys) = cond (x == y) 1 0 + count x ys

abbrev pub any : (ℕ → Bool) → List ℕ → Bool
any p [] = false
any p (x ∷ xs) = p x || any p xs

abbrev pub first : (ℕ → Bool) → List ℕ → Option ℕ
first p [] = None
first p (x ∷ xs) = cond (p x) (Some x) (first p xs)

abbrev pub is_view : ViewKind → Bool
is_view Int8Array = true
is_view Uint8Array = true
is_view Uint8ClampedArray = true
is_view Int16Array = true
is_view Uint16Array = true
is_view Int32Array = true
is_view Uint32Array = true
is_view Float32Array = true
is_view Float64Array = true
is_view BigInt64Array = true
is_view BigUint64Array = true
is_view DataView = false

-- what a view and a buffer are, none for another kind
pub record ViewContent : Type 0 where
  pub kind : ViewKind
  pub offset : ℕ
  pub count : ℕ
  pub tracking : Bool

pub record BufferContent : Type 0 where
  pub bytes : List ℕ
  pub maximum : Option ℕ

abbrev pub view_in : Kind → Option ViewContent
view_in (boolean_object v) = None
view_in (number_object bits) = None
view_in (bigint_object t) = None
view_in (string_object t) = None
view_in (regexp t flags) = None
view_in (date time) = None
view_in plain = None
view_in (sparse n) = None
view_in (dense n) = None
view_in map = None
view_in set = None
view_in (buffer bytes maximum) = None
view_in (view k offset n tracking) = Some (record { kind = k; offset = offset; count = n; tracking = tracking })
view_in (error n message stack) = None

abbrev pub buffer_in : Kind → Option BufferContent
buffer_in (boolean_object v) = None
buffer_in (number_object bits) = None
buffer_in (bigint_object t) = None
buffer_in (string_object t) = None
buffer_in (regexp t flags) = None
buffer_in (date time) = None
buffer_in plain = None
buffer_in (sparse n) = None
buffer_in (dense n) = None
buffer_in map = None
buffer_in set = None
buffer_in (buffer bytes maximum) = Some (record { bytes = bytes; maximum = maximum })
buffer_in (view k offset n tracking) = None
buffer_in (error n message stack) = None

-- A kind whose objects always have a name: errors, resizable buffers, arrays with properties (parts behind the elements).
abbrev pub kind_needs_name : Kind → ℕ → Bool
kind_needs_name (boolean_object v) parts = false
kind_needs_name (number_object bits) parts = false
kind_needs_name (bigint_object t) parts = false
kind_needs_name (string_object t) parts = false
kind_needs_name (regexp t flags) parts = false
kind_needs_name (date time) parts = false
kind_needs_name plain parts = false
kind_needs_name (sparse n) parts = nat_lt 0 parts
kind_needs_name (dense n) parts = nat_lt n parts
kind_needs_name map parts = false
kind_needs_name set parts = false
kind_needs_name (buffer bytes maximum) parts = is_some maximum
kind_needs_name (view k offset n tracking) parts = false
kind_needs_name (error n message stack) parts = true

module _ (h : Heap) (order : List ℕ) where
  abbrev pub pos : ℕ → ℕ
  pos x = place_in order x

  -- how many edges of reached objects go to x, and one more for the root
  abbrev pub uses_by : List ℕ → ℕ → ℕ
  uses_by [] x = 0
  uses_by (i ∷ is) x = count x (edges h i) + uses_by is x

  abbrev pub uses : ℕ → ℕ
  uses x = count x (refs h.root) + uses_by order x

  -- an edge to an object that is still being visited: its place is not before
  abbrev pub turns : ℕ → Bool
  turns x = any (λ y. nat_le (pos x) (pos y)) (edges h x)

  abbrev pub needs_name : ℕ → Bool
  needs_name x = kind_needs_name (object_at h x).kind (length (object_at h x).parts) || turns x

  abbrev pub inlines : ℕ → Bool
  inlines x = not (needs_name x) && nat_lt (uses x) 2

  -- a view on b
  abbrev pub is_on : ℕ → ℕ → Bool
  is_on b x = is_some (view_in (object_at h x).kind) && mem b (edges h x)

  -- a view that is no DataView, starts at 0 and covers so many bytes
  abbrev pub spans : ℕ → Option ViewContent → Bool
  spans n None = false
  spans n (Some v) = is_view v.kind && (v.offset == 0 && (not v.tracking && v.count * width v.kind == n))

  abbrev pub covers_buffer : ℕ → Option BufferContent → ℕ → Bool
  covers_buffer b None x = false
  covers_buffer b (Some c) x = not (is_some c.maximum) && (is_on b x && spans (length c.bytes) (view_in (object_at h x).kind))

  -- x is no DataView and covers the fixed buffer b
  abbrev pub covers : ℕ → ℕ → Bool
  covers b x = covers_buffer b (buffer_in (object_at h b).kind) x

  -- the view to which a buffer that does not inline gives its name
  abbrev pub backing : ℕ → Option ℕ
  backing b = cond (inlines b) None (first (covers b) order)

  abbrev pub is_same : Option ℕ → ℕ → Bool
  is_same None x = false
  is_same (Some y) x = x == y

  -- the buffer that x backs
  abbrev pub backed : ℕ → Option ℕ
  backed x = first (λ b. is_same (backing b) x) (edges h x)

  abbrev pub slot_by : Option ℕ → ℕ → ℕ
  slot_by None x = pos x
  slot_by (Some b) x = pos b

  -- when the name of x is bound: at its place, but for a backing view at its buffer's
  abbrev pub slot : ℕ → ℕ
  slot x = slot_by (backed x) x

  -- an object that is written by a name
  abbrev pub has_name : ℕ → Bool
  has_name x = not (inlines x) || is_some (backed x)

  -- a value may be written before the name t is bound
  abbrev pub ready_before : ℕ → Value → Bool
  ready_before t undefined = true
  ready_before t null = true
  ready_before t hole = true
  ready_before t (boolean v) = true
  ready_before t (whole z) = true
  ready_before t (double bits) = true
  ready_before t (bigint s) = true
  ready_before t (text s) = true
  ready_before t (object o) = not (has_name o) || nat_lt (slot o) t

  -- the kind in which the bytes of b are listed: that of the first view on it that is no DataView
  abbrev pub kind_or_bytes : Option ViewContent → ViewKind
  kind_or_bytes None = Uint8Array
  kind_or_bytes (Some v) = v.kind

  abbrev pub lists_in : ℕ → ℕ → Bool
  lists_in b x = is_on b x && is_typed (view_in (object_at h x).kind)
    where
      is_typed : Option ViewContent → Bool
      is_typed None = false
      is_typed (Some v) = is_view v.kind

  abbrev pub data_kind_by : Option ℕ → ViewKind
  data_kind_by None = Uint8Array
  data_kind_by (Some x) = kind_or_bytes (view_in (object_at h x).kind)

  abbrev pub data_kind : ℕ → ViewKind
  data_kind b = data_kind_by (first (lists_in b) order)
