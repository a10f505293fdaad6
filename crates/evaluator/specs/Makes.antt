-- What `new` and the methods make. The words, widths and element types are this file's own.
use Rattle.std.specs.Prelude.{ℕ, zero, suc, ◌+◌, ◌-◌, ◌*◌, ◌/◌, ◌%◌, ◌^◌, min, Bool, true, false, cond, not, ◌&&◌, List, [], ◌∷◌, ◌++◌, length, drop, ℤ, pos, negsuc, is_some, Some, None, codes, decimal, Option, ◌==◌, nat_le, nat_lt}
use Rattle.std.specs.Float.Ieee as Ieee
use Rattle.std.specs.Float.{binary64}
use Rattle.dump.specs.declared.kinds.ViewKind.{ViewKind}
use Rattle.dump.specs.declared.kinds.ViewKind.TheVariants.{Int8Array, Uint8Array, Uint8ClampedArray, Int16Array, Uint16Array, Int32Array, Uint32Array, Float32Array, Float64Array, BigInt64Array, BigUint64Array, DataView}
use Rattle.dump.specs.declared.kinds.ErrorName.{ErrorName}
use Rattle.dump.specs.declared.kinds.ErrorName.TheVariants.{Error, EvalError, RangeError, ReferenceError, SyntaxError, TypeError, UriError}
use Rattle.dump.specs.Heaps.{Text}
use Rattle.numeral.specs.Numerals.{finite, signed, whole_bits}
use Rattle.numeral.specs.Words.{same_units}
use Rattle.evaluator.specs.Options.{and_then, when, or_else}
use Rattle.evaluator.specs.Stores.{Val, undefined, null, boolean, number, big, text, ref, Shape, wrapped, regexp, date, ordinary, array, mapping, setting, buffer, view, error, Slot, keyed, pair, single, State, Made, made, make, change, place, object_of, map_set, set_add}

-- the whole number, below 2^53 in size, that a double is
abbrev pub size_bits : ℕ → ℕ
size_bits bits = cond (signed bits) (bits - 9223372036854775808) bits

abbrev pub cut_to : ℕ → ℕ
cut_to bits = Ieee.to_unsigned 64 (Ieee.of_bits binary64 (size_bits bits))

abbrev pub integer : Bool → ℕ → ℤ
integer false n = pos n
integer true zero = pos 0
integer true (suc n) = negsuc n

abbrev pub whole_in : ℕ → Option ℤ
whole_in bits = when (nat_le (cut_to bits) 9007199254740991 && bits == whole_bits (signed bits) (cut_to bits)) (Some (integer (signed bits) (cut_to bits)))

abbrev pub natural : ℤ → Option ℕ
natural (pos n) = Some n
natural (negsuc n) = None

-- a number from 0 on
abbrev pub index_in : Val → Option ℕ
index_in undefined = None
index_in null = None
index_in (boolean b) = None
index_in (number bits) = and_then (whole_in bits) natural
index_in (big z) = None
index_in (text t) = None
index_in (ref n) = None

abbrev pub text_in : Val → Option Text
text_in undefined = None
text_in null = None
text_in (boolean b) = None
text_in (number bits) = None
text_in (big z) = None
text_in (text t) = Some t
text_in (ref n) = None

-- a property key: a text, or a whole number in decimal
abbrev pub key_in : Val → Option Text
key_in v = or_else (text_in v) (and_then (index_in v) (λ n. Some (decimal n)))

pub data Sort : Type 0 where
  -- numbers, clamped to a byte or not; BigInts; none of those
  numbers clamped bigs others : Sort

pub record Typed : Type 0 where
  pub kind : ViewKind
  pub width : ℕ
  pub sort : Sort

abbrev pub typed : ViewKind → ℕ → Sort → Option Typed
typed k w s = Some (record { kind = k; width = w; sort = s })

abbrev pub is : List ℕ → List ℕ → Bool
is w v = same_units w v

-- the views by their constructors
abbrev pub view_of : List ℕ → Option Typed
view_of w =
    cond (is w (codes "Int8Array")) (typed Int8Array 1 numbers)
    (cond (is w (codes "Uint8Array")) (typed Uint8Array 1 numbers)
    (cond (is w (codes "Uint8ClampedArray")) (typed Uint8ClampedArray 1 clamped)
    (cond (is w (codes "Int16Array")) (typed Int16Array 2 numbers)
    (cond (is w (codes "Uint16Array")) (typed Uint16Array 2 numbers)
    (cond (is w (codes "Int32Array")) (typed Int32Array 4 numbers)
    (cond (is w (codes "Uint32Array")) (typed Uint32Array 4 numbers)
    (cond (is w (codes "Float32Array")) (typed Float32Array 4 others)
    (cond (is w (codes "Float64Array")) (typed Float64Array 8 others)
    (cond (is w (codes "BigInt64Array")) (typed BigInt64Array 8 bigs)
    (cond (is w (codes "BigUint64Array")) (typed BigUint64Array 8 bigs)
    (cond (is w (codes "DataView")) (typed DataView 1 others)
    None)))))))))))

-- the same of a view that is built
abbrev pub width_of : ViewKind → ℕ
width_of Int8Array = 1
width_of Uint8Array = 1
width_of Uint8ClampedArray = 1
width_of Int16Array = 2
width_of Uint16Array = 2
width_of Int32Array = 4
width_of Uint32Array = 4
width_of Float32Array = 4
width_of Float64Array = 8
width_of BigInt64Array = 8
width_of BigUint64Array = 8
width_of DataView = 1

abbrev pub sort_of : ViewKind → Sort
sort_of Int8Array = numbers
sort_of Uint8Array = numbers
sort_of Uint8ClampedArray = clamped
sort_of Int16Array = numbers
sort_of Uint16Array = numbers
sort_of Int32Array = numbers
sort_of Uint32Array = numbers
sort_of Float32Array = others
sort_of Float64Array = others
sort_of BigInt64Array = bigs
sort_of BigUint64Array = bigs
sort_of DataView = others

abbrev pub is_typed : ViewKind → Bool
is_typed Int8Array = true
is_typed Uint8Array = true
is_typed Uint8ClampedArray = true
is_typed Int16Array = true
is_typed Uint16Array = true
is_typed Int32Array = true
is_typed Uint32Array = true
is_typed Float32Array = true
is_typed Float64Array = true
is_typed BigInt64Array = true
is_typed BigUint64Array = true
is_typed DataView = false

abbrev pub error_of : List ℕ → Option ErrorName
error_of w =
    cond (is w (codes "Error")) (Some Error)
    (cond (is w (codes "EvalError")) (Some EvalError)
    (cond (is w (codes "RangeError")) (Some RangeError)
    (cond (is w (codes "ReferenceError")) (Some ReferenceError)
    (cond (is w (codes "SyntaxError")) (Some SyntaxError)
    (cond (is w (codes "TypeError")) (Some TypeError)
    (cond (is w (codes "URIError")) (Some UriError)
    None))))))

-- the bit of a flag's letter
abbrev pub flag_bit : ℕ → Option ℕ
flag_bit c =
    cond (c == 100) (Some 128)
    (cond (c == 103) (Some 1)
    (cond (c == 105) (Some 2)
    (cond (c == 109) (Some 4)
    (cond (c == 115) (Some 32)
    (cond (c == 117) (Some 16)
    (cond (c == 118) (Some 256)
    (cond (c == 121) (Some 8)
    None)))))))

abbrev pub bit_of : ℕ → ℕ → Bool
bit_of n power = n / power % 2 == 1

-- each letter once, and not u with v
abbrev pub flags_from : ℕ → Text → Option ℕ
flags_from n [] = when (not (bit_of n 16 && bit_of n 256)) (Some n)
flags_from n (c ∷ cs) = and_then (and_then (flag_bit c) (λ b. when (not (bit_of n b)) (Some (n + b)))) (λ m. flags_from m cs)

-- the time of a Date: none if it is no number, or more than 8,640,000,000,000,000 from 0
abbrev pub within : ℤ → Bool
within (pos n) = nat_le n 8640000000000000
within (negsuc n) = nat_lt n 8640000000000000

abbrev pub time_in : ℕ → Option (Option ℤ)
time_in bits = cond (finite bits) (and_then (whole_in bits) (λ z. Some (cond (within z) (Some z) None))) (Some None)

-- the values of an array without holes
abbrev pub slot_values : List Slot → List Val
slot_values [] = []
slot_values (keyed k v ∷ ss) = v ∷ slot_values ss
slot_values (pair v w ∷ ss) = slot_values ss
slot_values (single v ∷ ss) = v ∷ slot_values ss

abbrev pub list_in : Shape → List Slot → Option (List Val)
list_in (wrapped v) ss = None
list_in (regexp t f) ss = None
list_in (date z) ss = None
list_in ordinary ss = None
list_in (array n) ss = when (n == length ss) (Some (slot_values ss))
list_in mapping ss = None
list_in setting ss = None
list_in (buffer bs m) ss = None
list_in (view k o n) ss = None
list_in (error n m st) ss = None

abbrev pub list_of : State → Val → Option (List Val)
list_of s v = and_then (object_of s v) (λ o. list_in o.shape o.slots)

pub record BufferHeld : Type 0 where
  pub bytes : List ℕ
  pub maximum : Option ℕ

abbrev pub buffer_in : Shape → Option BufferHeld
buffer_in (wrapped v) = None
buffer_in (regexp t f) = None
buffer_in (date z) = None
buffer_in ordinary = None
buffer_in (array n) = None
buffer_in mapping = None
buffer_in setting = None
buffer_in (buffer bs m) = Some (record { bytes = bs; maximum = m })
buffer_in (view k o n) = None
buffer_in (error n m st) = None

pub record ViewHeld : Type 0 where
  pub kind : ViewKind
  pub offset : ℕ
  pub count : Option ℕ
  pub on : Val

abbrev pub view_held : Shape → List Slot → Option ViewHeld
view_held (wrapped v) ss = None
view_held (regexp t f) ss = None
view_held (date z) ss = None
view_held ordinary ss = None
view_held (array n) ss = None
view_held mapping ss = None
view_held setting ss = None
view_held (buffer bs m) ss = None
view_held (view k o n) [] = None
view_held (view k o n) (keyed t v ∷ ss) = None
view_held (view k o n) (pair v w ∷ ss) = None
view_held (view k o n) (single v ∷ ss) = Some (record { kind = k; offset = o; count = n; on = v })
view_held (error n m st) ss = None

abbrev pub buffer_at : State → Val → Option BufferHeld
buffer_at s v = and_then (object_of s v) (λ o. buffer_in o.shape)

abbrev pub view_at : State → Val → Option ViewHeld
view_at s v = and_then (object_of s v) (λ o. view_held o.shape o.slots)

-- n bytes of a number, low byte first
abbrev pub low_bytes : ℕ → ℕ → List ℕ
low_bytes zero n = []
low_bytes (suc w) n = n % 256 ∷ low_bytes w (n / 256)

-- a whole number modulo 2 ^ (8 w)
abbrev pub modulo : ℕ → ℤ → ℕ
modulo w (pos n) = n % 2 ^ (8 * w)
modulo w (negsuc n) = (2 ^ (8 * w) - 1) - n % 2 ^ (8 * w)

abbrev pub clamp : ℤ → ℤ
clamp (pos n) = pos (min n 255)
clamp (negsuc n) = pos 0

-- one element of a list, converted and laid low byte first
abbrev pub number_element : (ℤ → ℤ) → ℕ → Val → Option (List ℕ)
number_element f w undefined = None
number_element f w null = None
number_element f w (boolean b) = None
number_element f w (number bits) = and_then (whole_in bits) (λ z. Some (low_bytes w (modulo w (f z))))
number_element f w (big z) = None
number_element f w (text t) = None
number_element f w (ref n) = None

abbrev pub big_element : ℕ → Val → Option (List ℕ)
big_element w undefined = None
big_element w null = None
big_element w (boolean b) = None
big_element w (number bits) = None
big_element w (big z) = Some (low_bytes w (modulo w z))
big_element w (text t) = None
big_element w (ref n) = None

abbrev pub element : Sort → ℕ → Val → Option (List ℕ)
element numbers w v = number_element (λ z. z) w v
element clamped w v = number_element clamp w v
element bigs w v = big_element w v
element others w v = None

abbrev pub elements : Sort → ℕ → List Val → Option (List ℕ)
elements s w [] = Some []
elements s w (v ∷ vs) = and_then (element s w v) (λ bs. and_then (elements s w vs) (λ cs. Some (bs ++ cs)))

abbrev pub zeros : ℕ → List ℕ
zeros zero = []
zeros (suc n) = 0 ∷ zeros n

-- a typed array over a new buffer of these bytes
abbrev pub fresh_typed : Typed → List ℕ → State → Option Made
fresh_typed t bs s = and_then (make (buffer bs None) [] s) (λ b. make (view t.kind 0 (Some (length bs / t.width))) (single b.val ∷ []) b.state)

-- a view on a buffer: aligned and inside; without a length it reaches the end of a fixed buffer, and tracks a resizable one
abbrev pub place_view : ViewKind → Val → ℕ → Option ℕ → BufferHeld → State → Option Made
place_view k on offset (Some n) b s =
    when (offset % width_of k == 0 && nat_le (offset + n * width_of k) (length b.bytes)) (make (view k offset (Some n)) (single on ∷ []) s)
place_view k on offset None b s =
    when (offset % width_of k == 0 && nat_le offset (length b.bytes))
    (cond (is_some b.maximum) (make (view k offset None) (single on ∷ []) s)
    (when (length b.bytes % width_of k == 0) (make (view k offset (Some ((length b.bytes - offset) / width_of k))) (single on ∷ []) s)))

abbrev pub view_on : ViewKind → Val → ℕ → Option ℕ → State → Option Made
view_on k on offset n s = and_then (buffer_at s on) (λ b. place_view k on offset n b s)

-- new K(..): nothing, a count, a list, or a buffer with an offset and a length
abbrev pub new_first : Typed → Val → State → Option Made
new_first t v s =
    or_else (and_then (index_in v) (λ n. when (is_typed t.kind) (fresh_typed t (zeros (n * t.width)) s)))
    (or_else (and_then (list_of s v) (λ vs. when (is_typed t.kind) (and_then (elements t.sort t.width vs) (λ bs. fresh_typed t bs s))))
    (view_on t.kind v 0 None s))

abbrev pub new_view : Typed → List Val → State → Option Made
new_view t [] s = when (is_typed t.kind) (fresh_typed t [] s)
new_view t (v ∷ []) s = new_first t v s
new_view t (v ∷ o ∷ []) s = and_then (index_in o) (λ offset. view_on t.kind v offset None s)
new_view t (v ∷ o ∷ n ∷ []) s = and_then (index_in o) (λ offset. and_then (index_in n) (λ count. view_on t.kind v offset (Some count) s))
new_view t (v ∷ o ∷ n ∷ x ∷ xs) s = None

-- an option of an object literal
abbrev pub option_in : Text → List Slot → Option Val
option_in k [] = None
option_in k (keyed l v ∷ ss) = cond (same_units k l) (Some v) (option_in k ss)
option_in k (pair v w ∷ ss) = option_in k ss
option_in k (single v ∷ ss) = option_in k ss

abbrev pub option : Text → Val → State → Option Val
option k v s = and_then (object_of s v) (λ o. option_in k o.slots)

abbrev pub new_buffer : List Val → State → Option Made
new_buffer [] s = make (buffer [] None) [] s
new_buffer (n ∷ []) s = and_then (index_in n) (λ size. make (buffer (zeros size) None) [] s)
new_buffer (n ∷ o ∷ []) s =
    and_then (index_in n) (λ size. and_then (and_then (option (codes "maxByteLength") o s) index_in) (λ most. when (nat_le size most) (make (buffer (zeros size) (Some most)) [] s)))
new_buffer (n ∷ o ∷ x ∷ xs) s = None

abbrev pub message_in : Val → Option (Option Text)
message_in undefined = Some None
message_in null = None
message_in (boolean b) = None
message_in (number bits) = None
message_in (big z) = None
message_in (text t) = Some (Some t)
message_in (ref n) = None

abbrev pub new_error : ErrorName → List Val → State → Option Made
new_error e [] s = make (error e None None) [] s
new_error e (m ∷ []) s = and_then (message_in m) (λ t. make (error e t None) [] s)
new_error e (m ∷ o ∷ []) s = and_then (message_in m) (λ t. and_then (option (codes "cause") o s) (λ c. make (error e t None) (single c ∷ []) s))
new_error e (m ∷ o ∷ x ∷ xs) s = None

abbrev pub members : List Val → List Slot → List Slot
members [] ss = ss
members (v ∷ vs) ss = members vs (set_add v ss)

abbrev pub entry : List Val → List Slot → Option (List Slot)
entry [] ss = None
entry (k ∷ []) ss = None
entry (k ∷ v ∷ []) ss = Some (map_set k v ss)
entry (k ∷ v ∷ x ∷ xs) ss = None

abbrev pub entries : State → List Val → List Slot → Option (List Slot)
entries s [] ss = Some ss
entries s (v ∷ vs) ss = and_then (and_then (list_of s v) (λ kv. entry kv ss)) (entries s vs)

abbrev pub new_map : List Val → State → Option Made
new_map [] s = make mapping [] s
new_map (v ∷ []) s = and_then (list_of s v) (λ vs. and_then (entries s vs []) (λ ss. make mapping ss s))
new_map (v ∷ x ∷ xs) s = None

abbrev pub new_set : List Val → State → Option Made
new_set [] s = make setting [] s
new_set (v ∷ []) s = and_then (list_of s v) (λ vs. make setting (members vs []) s)
new_set (v ∷ x ∷ xs) s = None

-- wrappers, RegExp, Date and Array, by what they are given
abbrev pub wrap : List ℕ → Val → State → Option Made
wrap w undefined s = None
wrap w null s = None
wrap w (boolean b) s = when (is w (codes "Boolean")) (make (wrapped (boolean b)) [] s)
wrap w (number bits) s =
    cond (is w (codes "Number")) (make (wrapped (number bits)) [] s)
    (cond (is w (codes "Date")) (and_then (time_in bits) (λ t. make (date t) [] s))
    (when (is w (codes "Array")) (and_then (index_in (number bits)) (λ n. when (nat_lt n 4294967296) (make (array n) [] s)))))
wrap w (big z) s = when (is w (codes "Object")) (make (wrapped (big z)) [] s)
wrap w (text t) s =
    cond (is w (codes "String")) (make (wrapped (text t)) [] s)
    (when (is w (codes "RegExp")) (make (regexp t 0) [] s))
wrap w (ref n) s = None

abbrev pub simple : List ℕ → List Val → State → Option Made
simple w [] s = None
simple w (v ∷ []) s = wrap w v s
simple w (v ∷ f ∷ []) s = when (is w (codes "RegExp")) (and_then (text_in v) (λ t. and_then (and_then (text_in f) (flags_from 0)) (λ n. make (regexp t n) [] s)))
simple w (v ∷ f ∷ x ∷ xs) s = None

abbrev pub construct : List ℕ → List Val → State → Option Made
construct w vs s =
    cond (is w (codes "Map")) (new_map vs s)
    (cond (is w (codes "Set")) (new_set vs s)
    (cond (is w (codes "ArrayBuffer")) (new_buffer vs s)
    (by_error (error_of w) (by_view (view_of w)))))
  where
    by_error : Option ErrorName → Option Made → Option Made
    by_error None rest = rest
    by_error (Some e) rest = new_error e vs s

    by_view : Option Typed → Option Made
    by_view None = simple w vs s
    by_view (Some t) = new_view t vs s

-- v.buffer
abbrev pub buffer_of : Val → State → Option Made
buffer_of v s = and_then (view_at s v) (λ w. made w.on s)

-- v.subarray(start, end): arguments from 0 on, cut at the view's length
abbrev pub count_in : ViewHeld → BufferHeld → ℕ
count_in v b = given v.count
  where
    given : Option ℕ → ℕ
    given None = (length b.bytes - v.offset) / width_of v.kind
    given (Some n) = n

abbrev pub part : ViewHeld → ℕ → ℕ → State → Option Made
part v from to s = when (is_typed v.kind) (view_on v.kind v.on (v.offset + from * width_of v.kind) (Some (to - from)) s)

abbrev pub subarray_of : ViewHeld → ℕ → List Val → State → Option Made
subarray_of v n [] s = part v 0 n s
subarray_of v n (a ∷ []) s = and_then (index_in a) (λ from. part v (min from n) n s)
subarray_of v n (a ∷ b ∷ []) s = and_then (index_in a) (λ from. and_then (index_in b) (λ to. part v (min from n) (min to n) s))
subarray_of v n (a ∷ b ∷ x ∷ xs) s = None

abbrev pub subarray : Val → List Val → State → Option Made
subarray v vs s = and_then (view_at s v) (λ w. and_then (buffer_at s w.on) (λ b. when (is_some w.count) (subarray_of w (count_in w b) vs s)))

-- new bytes from the offset on
abbrev pub overwritten : ℕ → List ℕ → List ℕ → List ℕ
overwritten zero new old = new ++ drop (length new) old
overwritten (suc o) new [] = []
overwritten (suc o) new (x ∷ xs) = x ∷ overwritten o new xs

-- v.set(list) of a typed array
abbrev pub set_bytes : ViewHeld → BufferHeld → List Val → State → Option Made
set_bytes v b vs s =
    and_then (place v.on) (λ n. and_then (elements (sort_of v.kind) (width_of v.kind) vs) (λ bs.
    when (nat_le (length vs) (count_in v b)) (made undefined (change n (record { shape = buffer (overwritten v.offset bs b.bytes) b.maximum; slots = [] }) s))))

abbrev pub set_typed : Val → List Val → State → Option Made
set_typed v [] s = None
set_typed v (l ∷ []) s = and_then (view_at s v) (λ w. and_then (buffer_at s w.on) (λ b. and_then (list_of s l) (λ vs. set_bytes w b vs s)))
set_typed v (l ∷ x ∷ xs) s = None

abbrev pub set_pair : ℕ → Shape → List Slot → List Val → State → Option Made
set_pair n (wrapped v) ss vs s = None
set_pair n (regexp t f) ss vs s = None
set_pair n (date z) ss vs s = None
set_pair n ordinary ss vs s = None
set_pair n (array m) ss vs s = None
set_pair n mapping ss vs s = and_then (entry vs ss) (λ us. made (ref n) (change n (record { shape = mapping; slots = us }) s))
set_pair n setting ss vs s = None
set_pair n (buffer bs m) ss vs s = None
set_pair n (view k o c) ss vs s = None
set_pair n (error e m st) ss vs s = None

abbrev pub add_one : ℕ → Shape → List Slot → List Val → State → Option Made
add_one n (wrapped v) ss vs s = None
add_one n (regexp t f) ss vs s = None
add_one n (date z) ss vs s = None
add_one n ordinary ss vs s = None
add_one n (array m) ss vs s = None
add_one n mapping ss vs s = None
add_one n setting ss [] s = None
add_one n setting ss (v ∷ []) s = made (ref n) (change n (record { shape = setting; slots = set_add v ss }) s)
add_one n setting ss (v ∷ x ∷ xs) s = None
add_one n (buffer bs m) ss vs s = None
add_one n (view k o c) ss vs s = None
add_one n (error e m st) ss vs s = None

abbrev pub call : List ℕ → Val → List Val → State → Option Made
call w v vs s =
    cond (is w (codes "subarray")) (subarray v vs s)
    (cond (is w (codes "set")) (or_else (and_then (place v) (λ n. and_then (object_of s v) (λ o. set_pair n o.shape o.slots vs s))) (set_typed v vs s))
    (when (is w (codes "add")) (and_then (place v) (λ n. and_then (object_of s v) (λ o. add_one n o.shape o.slots vs s)))))
