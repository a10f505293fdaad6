-- What `new` makes for each form of a script.
use Rattle.std.proofs.Common.{◌≡◌, ℕ, zero, suc, ◌+◌, ◌-◌, ◌*◌, ◌/◌, ◌%◌, ◌<◌, ◌≤◌, Bool, true, false, cond, eqb, ltb, leb, List, [], ◌∷◌, ◌++◌, length, ℤ, Some, None, codes, Option, sym, refl, ap, ◌∙◌, append_assoc, div-add-mod', div-le_self, arith, length-append}
use native.Mathlib.Nat.{zero-mod, sub-zero}
use Rattle.std.proofs.lemmas.Bool.{and_parts, and_from, eqb-true, eq-eqb, le-leb, lt-ltb}
use Rattle.dump.specs.declared.kinds.ViewKind.{ViewKind}
use Rattle.dump.specs.declared.kinds.ViewKind.TheVariants.{Int8Array, Uint8Array, Uint8ClampedArray, Int16Array, Uint16Array, Int32Array, Uint32Array, Float32Array, Float64Array, BigInt64Array, BigUint64Array, DataView}
use Rattle.dump.specs.declared.kinds.ErrorName.{ErrorName}
use Rattle.dump.specs.declared.kinds.ErrorName.TheVariants.{Error, EvalError, RangeError, ReferenceError, SyntaxError, TypeError, UriError}
use Rattle.dump.specs.Heaps.{Text}
use Rattle.dump.specs.Kinds.{width}
use Rattle.shapes.specs.Rows.{flags_ok}
use Rattle.formed.specs.Formed.{TimeFits}
use Rattle.script.specs.Texts.{view_name, error_word, flag_letters, Listing, numbers, floats, listing, all_zero}
use Rattle.evaluator.specs.Options.{and_then, when, or_else, nth}
use Rattle.evaluator.specs.Stores.{Val, undefined, null, number, boolean, big, text, ref, Shape, wrapped, regexp, date, ordinary, array, mapping, setting, buffer, view, error, Slot, keyed, single, Obj, State, Made, made, make, object_of}
use Rattle.evaluator.specs.Makes.{index_in, option, option_in, Typed, view_of, width_of, sort_of, is_typed, list_in, list_of, BufferHeld, buffer_in, buffer_at, view_held, elements, zeros, fresh_typed, place_view, view_on, new_first, new_view, new_error, entries, members, construct, buffer_of}
use Rattle.evaluator.specs.Isomorphic.{whole_double}
use Rattle.effects.specs.Effects.{count, grown, list_vals, listed, typed_view, fixed, list_made, typed_on, typed_state, typed_ref, maximum_key, cause_key, somes}
use Rattle.effects.specs.Readable.{Data}
use Rattle.leaves.proofs.Wholes.{index_in_lem, time_in_lem, time_nan}
use Rattle.leaves.proofs.Lists.{lists_back, floats_back, list_of_lem}
use Rattle.leaves.proofs.Flags.{flags_from_lem}

-- wrappers
module _ (s : State) where
  pub new_boolean_made : (b : Bool) → construct (codes "Boolean") (boolean b ∷ []) s ≡ make (wrapped (boolean b)) [] s
  new_boolean_made b = refl

  pub new_number_made : (bits : ℕ) → construct (codes "Number") (number bits ∷ []) s ≡ make (wrapped (number bits)) [] s
  new_number_made bits = refl

  pub new_bigint_made : (z : ℤ) → construct (codes "Object") (big z ∷ []) s ≡ make (wrapped (big z)) [] s
  new_bigint_made z = refl

  pub new_string_made : (t : Text) → construct (codes "String") (text t ∷ []) s ≡ make (wrapped (text t)) [] s
  new_string_made t = refl

  -- RegExp, without flags and with
  pub new_regexp_plain : (t : Text) → construct (codes "RegExp") (text t ∷ []) s ≡ make (regexp t 0) [] s
  new_regexp_plain t = refl

  pub new_regexp_flags : (t : Text) (flags : ℕ) → flags_ok flags ≡ true → construct (codes "RegExp") (text t ∷ text (flag_letters flags) ∷ []) s ≡ make (regexp t flags) [] s
  new_regexp_flags t flags ok = ap (λ o. and_then o (λ n. make (regexp t n) [] s)) (flags_from_lem flags ok)

  -- Date
  pub new_date_made : (z : ℤ) → TimeFits (Some z) → construct (codes "Date") (number (whole_double z) ∷ []) s ≡ make (date (Some z)) [] s
  new_date_made z fits = ap (λ o. and_then o (λ t. make (date t) [] s)) (time_in_lem z fits)

  pub new_date_nan : construct (codes "Date") (number 9221120237041090560 ∷ []) s ≡ make (date None) [] s
  new_date_nan = ap (λ o. and_then o (λ t. make (date t) [] s)) time_nan

  -- Array, Map, Set
  pub new_array_made : (n : ℕ) → n < 4294967296 → construct (codes "Array") (count n ∷ []) s ≡ make (array n) [] s
  new_array_made n small =
      ap (λ o. and_then o (λ m. when (ltb m 4294967296) (make (array m) [] s))) (index_in_lem n (omega arith))
      ∙ ap (λ b. when b (make (array n) [] s)) (lt-ltb n 4294967296 small)

  pub empty_map_made : construct (codes "Map") [] s ≡ make mapping [] s
  empty_map_made = refl

  pub empty_set_made : construct (codes "Set") [] s ≡ make setting [] s
  empty_set_made = refl

  pub new_map_made : (v : Val) (vs : List Val) (ss : List Slot) → list_of s v ≡ Some vs → entries s vs [] ≡ Some ss → construct (codes "Map") (v ∷ []) s ≡ make mapping ss s
  new_map_made v vs ss h e = ap (λ o. and_then o (λ us. and_then (entries s us []) (λ rs. make mapping rs s))) h ∙ ap (λ o. and_then o (λ rs. make mapping rs s)) e

  pub new_set_made : (v : Val) (vs : List Val) → list_of s v ≡ Some vs → construct (codes "Set") (v ∷ []) s ≡ make setting (members vs []) s
  new_set_made v vs h = ap (λ o. and_then o (λ us. make setting (members us []) s)) h

  -- ArrayBuffer: empty, of a size, resizable with its maximum in an object at place o
  pub empty_buffer_made : construct (codes "ArrayBuffer") [] s ≡ make (buffer [] None) [] s
  empty_buffer_made = refl

  pub new_buffer_made : (n : ℕ) → n ≤ 9007199254740991 → construct (codes "ArrayBuffer") (count n ∷ []) s ≡ make (buffer (zeros n) None) [] s
  new_buffer_made n small = ap (λ o. and_then o (λ size. make (buffer (zeros size) None) [] s)) (index_in_lem n small)

  pub new_resizable_made : (n m o : ℕ) → n ≤ m → m ≤ 9007199254740991 → nth s.objects o ≡ Some (record { shape = ordinary; slots = keyed maximum_key (count m) ∷ [] }) → construct (codes "ArrayBuffer") (count n ∷ ref o ∷ []) s ≡ make (buffer (zeros n) (Some m)) [] s
  new_resizable_made n m o le small h =
      let most : option maximum_key (ref o) s ≡ Some (count m) = ap (λ x. and_then x (λ y. option_in maximum_key y.slots)) h in
      (λ i. and_then (index_in_lem n (omega arith) i) (λ size. and_then (and_then (most i) index_in) (λ m. when (leb size m) (make (buffer (zeros size) (Some m)) [] s))))
      ∙ ap (λ x. and_then x (λ k. when (leb n k) (make (buffer (zeros n) (Some k)) [] s))) (index_in_lem m small)
      ∙ ap (λ b. when b (make (buffer (zeros n) (Some m)) [] s)) (le-leb n m le)

  -- an error by its constructor
  pub error_made_lem : (e : ErrorName) (args : List Val) → construct (error_word e) args s ≡ new_error e args s
  error_made_lem Error args = refl
  error_made_lem EvalError args = refl
  error_made_lem RangeError args = refl
  error_made_lem ReferenceError args = refl
  error_made_lem SyntaxError args = refl
  error_made_lem TypeError args = refl
  error_made_lem UriError args = refl

-- in the place of a message that there is not stands `undefined`
abbrev pub message_val : Option Text → Val
message_val None = undefined
message_val (Some t) = text t

-- without a message, with one, with a cause in an object at place o
module _ (s : State) (e : ErrorName) where
  pub error_plain : construct (error_word e) [] s ≡ make (error e None None) [] s
  error_plain = error_made_lem s e []

  pub error_message : (t : Text) → construct (error_word e) (text t ∷ []) s ≡ make (error e (Some t) None) [] s
  error_message t = error_made_lem s e (text t ∷ [])

  pub error_cause : (m : Option Text) (o : ℕ) (c : Val) → nth s.objects o ≡ Some (record { shape = ordinary; slots = keyed cause_key c ∷ [] }) → construct (error_word e) (message_val m ∷ ref o ∷ []) s ≡ make (error e m None) (single c ∷ []) s
  error_cause m o c h = error_made_lem s e (message_val m ∷ ref o ∷ []) ∙ caused m (ap (λ x. and_then x (λ y. option_in cause_key y.slots)) h)
    where
      caused : (m : Option Text) → option cause_key (ref o) s ≡ Some c → new_error e (message_val m ∷ ref o ∷ []) s ≡ make (error e m None) (single c ∷ []) s
      caused None g = ap (λ x. and_then x (λ v. make (error e None None) (single v ∷ []) s)) g
      caused (Some t) g = ap (λ x. and_then x (λ v. make (error e (Some t) None) (single v ∷ []) s)) g

-- a view's constructor
abbrev pub typed_of : ViewKind → Typed
typed_of k = record { kind = k; width = width k; sort = sort_of k }

pub view_of_lem : (k : ViewKind) → view_of (view_name k) ≡ Some (typed_of k)
view_of_lem Int8Array = refl
view_of_lem Uint8Array = refl
view_of_lem Uint8ClampedArray = refl
view_of_lem Int16Array = refl
view_of_lem Uint16Array = refl
view_of_lem Int32Array = refl
view_of_lem Uint32Array = refl
view_of_lem Float32Array = refl
view_of_lem Float64Array = refl
view_of_lem BigInt64Array = refl
view_of_lem BigUint64Array = refl
view_of_lem DataView = refl

pub width_of_lem : (k : ViewKind) → width_of k ≡ width k
width_of_lem Int8Array = refl
width_of_lem Uint8Array = refl
width_of_lem Uint8ClampedArray = refl
width_of_lem Int16Array = refl
width_of_lem Uint16Array = refl
width_of_lem Int32Array = refl
width_of_lem Uint32Array = refl
width_of_lem Float32Array = refl
width_of_lem Float64Array = refl
width_of_lem BigInt64Array = refl
width_of_lem BigUint64Array = refl
width_of_lem DataView = refl

pub view_made : (k : ViewKind) (args : List Val) (s : State) → construct (view_name k) args s ≡ new_view (typed_of k) args s
view_made Int8Array args s = refl
view_made Uint8Array args s = refl
view_made Uint8ClampedArray args s = refl
view_made Int16Array args s = refl
view_made Uint16Array args s = refl
view_made Int32Array args s = refl
view_made Uint32Array args s = refl
view_made Float32Array args s = refl
view_made Float64Array args s = refl
view_made BigInt64Array args s = refl
view_made BigUint64Array args s = refl
view_made DataView args s = refl

-- bytes that are all zero
pub zeros_are : (bytes : List ℕ) → all_zero bytes ≡ true → zeros (length bytes) ≡ bytes
zeros_are [] h = refl
zeros_are (x ∷ xs) h = let p = and_parts (eqb x 0) (all_zero xs) h in (λ i. sym (eqb-true x 0 p.0) i ∷ zeros_are xs p.1 i)

-- an object behind others in the store
pub nth_at : {A : Type 0} (xs ys : List A) (n i : ℕ) → n ≡ length xs + i → nth (xs ++ ys) n ≡ nth ys i
nth_at [] ys n i e = ap (nth ys) (omega arith)
nth_at (x ∷ xs) ys zero i e = absurd (omega arith)
nth_at (x ∷ xs) ys (suc n) i e = nth_at xs ys n i (omega arith)

-- the last of the objects that were made
abbrev last_of : State → List Obj → Option Made
last_of s new = made (ref (length s.objects + length new - 1)) (grown s new)

-- a typed array over a new buffer, in a store that had n objects
fresh_made : (k : ViewKind) (bytes : List ℕ) (s : State) (n : ℕ) → n ≡ length s.objects → fresh_typed (typed_of k) bytes s ≡ made (ref (suc n)) (grown s (fixed bytes ∷ typed_view k n bytes ∷ []))
fresh_made k bytes s n e =
    let l : length (s.objects ++ (fixed bytes ∷ [])) ≡ suc n = length-append s.objects (fixed bytes ∷ []) ∙ omega arith in
    (λ i. made (ref (l i)) (record { objects = append_assoc s.objects (fixed bytes ∷ []) (typed_view k (sym e i) bytes ∷ []) i; names = s.names }))

-- a buffer is no list
no_list : (sh : Shape) (ss : List Slot) (b : BufferHeld) → buffer_in sh ≡ Some b → list_in sh ss ≡ None
no_list (wrapped v) ss b h = refl
no_list (regexp t f) ss b h = refl
no_list (date z) ss b h = refl
no_list ordinary ss b h = refl
no_list (array n) ss b h = absurd (let z : ◌≡◌ {A = ℕ} 0 1 = cc in omega arith)
no_list mapping ss b h = refl
no_list setting ss b h = refl
no_list (buffer bs m) ss b h = refl
no_list (view k o n) ss b h = refl
no_list (error n m st) ss b h = refl

not_list : (s : State) (v : Val) (b : BufferHeld) → buffer_at s v ≡ Some b → list_of s v ≡ None
not_list s v b = go (object_of s v)
  where
    go : (o : Option Obj) → and_then o (λ x. buffer_in x.shape) ≡ Some b → and_then o (λ x. list_in x.shape x.slots) ≡ None
    go None h = refl
    go (Some x) h = no_list x.shape x.slots b h

held : (k : ViewKind) (v : Val) (offset : ℕ) (n : Option ℕ) (s : State) (m : Made) → view_on k v offset n s ≡ Some m → (b : BufferHeld) × (buffer_at s v ≡ Some b)
held k v offset n s m = go (buffer_at s v)
  where
    go : (o : Option BufferHeld) → and_then o (λ b. place_view k v offset n b s) ≡ Some m → (b : BufferHeld) × (o ≡ Some b)
    go None h = absurd (let z : ◌≡◌ {A = ℕ} 0 1 = cc in omega arith)
    go (Some b) h = (b, refl)

module _ (k : ViewKind) (s : State) where
  -- over nothing, a count or a list
  pub first_none : is_typed k ≡ true → construct (view_name k) [] s ≡ fresh_typed (typed_of k) [] s
  first_none t = view_made k [] s ∙ ap (λ b. when b (fresh_typed (typed_of k) [] s)) t

  pub first_count : (n : ℕ) → is_typed k ≡ true → n ≤ 9007199254740991 → construct (view_name k) (count n ∷ []) s ≡ fresh_typed (typed_of k) (zeros (n * width k)) s
  first_count n t small = view_made k (count n ∷ []) s ∙ (λ i. or_else (and_then (index_in_lem n small i) (λ m. when (t i) (fresh_typed (typed_of k) (zeros (m * width k)) s))) None)

  pub first_list : (l : ℕ) (vs : List Val) (bytes : List ℕ) → is_typed k ≡ true → list_of s (ref l) ≡ Some vs → elements (sort_of k) (width k) vs ≡ Some bytes → construct (view_name k) (ref l ∷ []) s ≡ fresh_typed (typed_of k) bytes s
  first_list l vs bytes t h e =
      view_made k (ref l ∷ []) s
      ∙ (λ i. or_else (and_then (h i) (λ us. when (t i) (and_then (elements (sort_of k) (width k) us) (λ bs. fresh_typed (typed_of k) bs s)))) (view_on k (ref l) 0 None s))
      ∙ ap (λ o. or_else (and_then o (λ bs. fresh_typed (typed_of k) bs s)) (view_on k (ref l) 0 None s)) e

  -- on a buffer
  pub view_at_lem : (v : Val) (o : ℕ) → o ≤ 9007199254740991 → construct (view_name k) (v ∷ count o ∷ []) s ≡ view_on k v o None s
  view_at_lem v o small = view_made k (v ∷ count o ∷ []) s ∙ ap (λ x. and_then x (λ offset. view_on k v offset None s)) (index_in_lem o small)

  pub view_part : (v : Val) (o n : ℕ) → o ≤ 9007199254740991 → n ≤ 9007199254740991 → construct (view_name k) (v ∷ count o ∷ count n ∷ []) s ≡ view_on k v o (Some n) s
  view_part v o n small fits = view_made k (v ∷ count o ∷ count n ∷ []) s ∙ (λ i. and_then (index_in_lem o small i) (λ offset. and_then (index_in_lem n fits i) (λ c. view_on k v offset (Some c) s)))

  pub view_whole : (v : Val) (m : Made) → view_on k v 0 None s ≡ Some m → construct (view_name k) (v ∷ []) s ≡ Some m
  view_whole v m h = view_made k (v ∷ []) s ∙ first v h
    where
      first : (v : Val) → view_on k v 0 None s ≡ Some m → new_first (typed_of k) v s ≡ Some m
      first undefined g = g
      first null g = g
      first (boolean b) g = g
      first (number bits) g = absurd (let z : ◌≡◌ {A = ℕ} 0 1 = cc in omega arith)
      first (big z) g = g
      first (text t) g = g
      first (ref n) g =
          let b = held k (ref n) 0 None s m g in
          (λ i. or_else (and_then (not_list s (ref n) b.0 b.1 i) (λ vs. when (is_typed k) (and_then (elements (sort_of k) (width k) vs) (λ bs. fresh_typed (typed_of k) bs s)))) (g i))

-- typed arrays with data of their own
module _ (k : ViewKind) (bytes : List ℕ) (s : State) where
  zero_made : all_zero bytes ≡ true → last_of s (fixed bytes ∷ typed_view k (length s.objects) bytes ∷ []) ≡ made (typed_ref k bytes s) (typed_state k bytes s)
  zero_made z = ap (λ b. last_of s (cond b (fixed bytes ∷ typed_view k (length s.objects) bytes ∷ []) (list_made (listing k) k bytes (length s.objects)))) (sym z)

  list_made_lem : (l : Listing) → all_zero bytes ≡ false → listing k ≡ l → last_of s (list_made l k bytes (length s.objects)) ≡ made (typed_ref k bytes s) (typed_state k bytes s)
  list_made_lem l z e = (λ i. last_of s (cond (sym z i) (fixed bytes ∷ typed_view k (length s.objects) bytes ∷ []) (list_made (sym e i) k bytes (length s.objects))))

  fresh_last : fresh_typed (typed_of k) bytes s ≡ last_of s (fixed bytes ∷ typed_view k (length s.objects) bytes ∷ [])
  fresh_last = fresh_made k bytes s (length s.objects) refl ∙ ap (λ n. made (ref n) (grown s (fixed bytes ∷ typed_view k (length s.objects) bytes ∷ []))) (omega arith)

  -- how many elements there are
  pub count_small : Data k bytes → length bytes / width k ≤ 9007199254740991
  count_small d = omega (arith, div-le_self (length bytes) (width k), d.small)

  pub typed_zeros : Data k bytes → all_zero bytes ≡ true → construct (view_name k) (count (length bytes / width k) ∷ []) s ≡ made (typed_ref k bytes s) (typed_state k bytes s)
  typed_zeros d z =
      let e : length bytes / width k * width k ≡ length bytes = omega (arith, div-add-mod' (length bytes) (width k), d.even) in
      first_count k s (length bytes / width k) d.typed (count_small d)
      ∙ ap (λ n. fresh_typed (typed_of k) (zeros n) s) e
      ∙ ap (λ bs. fresh_typed (typed_of k) bs s) (zeros_are bytes z)
      ∙ fresh_last
      ∙ zero_made z

pub typed_none : (k : ViewKind) (s : State) → is_typed k ≡ true → construct (view_name k) [] s ≡ made (typed_ref k [] s) (typed_state k [] s)
typed_none k s t = first_none k s t ∙ fresh_last k [] s ∙ zero_made k [] s refl

-- a store that grew twice
grown_grown : (s : State) (new more : List Obj) → grown (grown s new) more ≡ grown s (new ++ more)
grown_grown s new more = (λ i. record { objects = append_assoc s.objects new more i; names = s.names })

-- from a list that was made before
list_fresh : (k : ViewKind) (bytes : List ℕ) (s : State) (l : Obj) → fresh_typed (typed_of k) bytes (grown s (l ∷ [])) ≡ made (ref (suc (suc (length s.objects)))) (grown s (l ∷ fixed bytes ∷ typed_view k (suc (length s.objects)) bytes ∷ []))
list_fresh k bytes s l =
    fresh_made k bytes (grown s (l ∷ [])) (suc (length s.objects)) (omega (arith, length-append s.objects (l ∷ [])))
    ∙ ap (made (ref (suc (suc (length s.objects))))) (grown_grown s (l ∷ []) (fixed bytes ∷ typed_view k (suc (length s.objects)) bytes ∷ []))

from_list : (k : ViewKind) (bytes : List ℕ) (s : State) (minus big? : Bool) → is_typed k ≡ true → elements (sort_of k) (width k) (somes (list_vals minus big? (width k) [] bytes)) ≡ Some bytes →
    construct (view_name k) (ref (length s.objects) ∷ []) (grown s (listed minus big? (width k) bytes ∷ [])) ≡
    made (ref (suc (suc (length s.objects)))) (grown s (listed minus big? (width k) bytes ∷ fixed bytes ∷ typed_view k (suc (length s.objects)) bytes ∷ []))
from_list k bytes s minus big? t e =
    let l : Obj = listed minus big? (width k) bytes in
    let n : ℕ = length s.objects in
    first_list k (grown s (l ∷ [])) n (somes (list_vals minus big? (width k) [] bytes)) bytes t
    (list_of_lem (grown s (l ∷ [])) n minus big? (width k) bytes (nth_at s.objects (l ∷ []) n 0 (omega arith))) e
    ∙ list_fresh k bytes s l

-- a view of all of a buffer that is not resizable
all_view : (k : ViewKind) (bytes : List ℕ) (on : Val) (s : State) → length bytes % width k ≡ 0 → place_view k on 0 None (record { bytes = bytes; maximum = None }) s ≡ make (view k 0 (Some (length bytes / width k))) (single on ∷ []) s
all_view k bytes on s even =
    let w : width_of k ≡ width k = width_of_lem k in
    let a = and_from (eqb (0 % width_of k) 0) (leb 0 (length bytes)) (eq-eqb (0 % width_of k) 0 (zero-mod (width_of k))) (le-leb 0 (length bytes) (omega arith)) in
    let b = eq-eqb (length bytes % width_of k) 0 (ap (λ m. length bytes % m) w ∙ even) in
    (λ i. when (a i) (when (b i) (make (view k 0 (Some (sub-zero (length bytes) i / w i))) (single on ∷ []) s)))

-- the buffer of a view over all of it
last_buffer : (k : ViewKind) (p : ℕ) (bytes : List ℕ) (s : State) (new : List Obj) (n i : ℕ) → n ≡ length s.objects + i → nth new i ≡ Some (typed_view k p bytes) → buffer_of (ref n) (grown s new) ≡ made (ref p) (grown s new)
last_buffer k p bytes s new n i e h = ap (λ o. and_then (and_then o (λ x. view_held x.shape x.slots)) (λ w. made w.on (grown s new))) (nth_at s.objects new n i e ∙ h)

-- the bytes of a float kind: a Uint8Array of them, its buffer, and the view on that
abbrev pub bytes_state : List ℕ → State → State
bytes_state bytes s = grown s (listed false false 1 bytes ∷ fixed bytes ∷ typed_view Uint8Array (suc (length s.objects)) bytes ∷ [])

pub typed_bytes_buffer : (bytes : List ℕ) (s : State) → buffer_of (ref (suc (suc (length s.objects)))) (bytes_state bytes s) ≡ made (ref (suc (length s.objects))) (bytes_state bytes s)
typed_bytes_buffer bytes s =
    let n : ℕ = length s.objects in
    last_buffer Uint8Array (suc n) bytes s (listed false false 1 bytes ∷ fixed bytes ∷ typed_view Uint8Array (suc n) bytes ∷ []) (suc (suc n)) 2 (omega arith) refl

module _ (k : ViewKind) (bytes : List ℕ) (d : Data k bytes) (s : State) where
  pub typed_list : (minus big? : Bool) → all_zero bytes ≡ false → listing k ≡ numbers minus big? → construct (view_name k) (ref (length s.objects) ∷ []) (grown s (listed minus big? (width k) bytes ∷ [])) ≡ made (typed_ref k bytes s) (typed_state k bytes s)
  typed_list minus big? z e =
      from_list k bytes s minus big? d.typed (lists_back k bytes minus big? d e).back
      ∙ ap (λ n. made (ref n) (grown s (list_made (numbers minus big?) k bytes (length s.objects)))) (omega arith)
      ∙ list_made_lem k bytes s (numbers minus big?) z e

  pub typed_bytes : construct (codes "Uint8Array") (ref (length s.objects) ∷ []) (grown s (listed false false 1 bytes ∷ [])) ≡ made (ref (suc (suc (length s.objects)))) (bytes_state bytes s)
  typed_bytes = from_list Uint8Array bytes s false false refl (floats_back bytes d.octets).back

  pub typed_floats : all_zero bytes ≡ false → listing k ≡ floats → construct (view_name k) (ref (suc (length s.objects)) ∷ []) (bytes_state bytes s) ≡ made (typed_ref k bytes s) (typed_state k bytes s)
  typed_floats z e = view_whole k (bytes_state bytes s) (ref (suc n)) (record { val = typed_ref k bytes s; state = typed_state k bytes s })
      (ap (λ o. and_then (and_then o (λ x. buffer_in x.shape)) (λ b. place_view k (ref (suc n)) 0 None b (bytes_state bytes s))) (nth_at s.objects _ (suc n) 1 (omega arith))
      ∙ all_view k bytes (ref (suc n)) (bytes_state bytes s) d.even
      ∙ (λ i. made (ref (l i)) (grown_grown s (listed false false 1 bytes ∷ fixed bytes ∷ typed_view Uint8Array (suc n) bytes ∷ []) (typed_view k (suc n) bytes ∷ []) i))
      ∙ list_made_lem k bytes s floats z e)
    where
      n : ℕ
      n = length s.objects

      l : length (bytes_state bytes s).objects ≡ n + 4 - 1
      l = length-append s.objects (listed false false 1 bytes ∷ fixed bytes ∷ typed_view Uint8Array (suc n) bytes ∷ []) ∙ omega arith

-- the buffer of a typed array with data of its own
pub typed_buffer : (k : ViewKind) (bytes : List ℕ) (s : State) → buffer_of (typed_ref k bytes s) (typed_state k bytes s) ≡ made (ref (typed_on bytes (length s.objects))) (typed_state k bytes s)
typed_buffer k bytes s = go (all_zero bytes) (listing k)
  where
    n : ℕ
    n = length s.objects

    new : Bool → Listing → List Obj
    new b l = cond b (fixed bytes ∷ typed_view k n bytes ∷ []) (list_made l k bytes n)

    go : (b : Bool) (l : Listing) → buffer_of (ref (n + length (new b l) - 1)) (grown s (new b l)) ≡ made (ref (cond b n (suc n))) (grown s (new b l))
    go true l = last_buffer k n bytes s (new true l) (n + 2 - 1) 1 (omega arith) refl
    go false (numbers minus big?) = last_buffer k (suc n) bytes s (new false (numbers minus big?)) (n + 3 - 1) 2 (omega arith) refl
    go false floats = last_buffer k (suc n) bytes s (new false floats) (n + 4 - 1) 3 (omega arith) refl
