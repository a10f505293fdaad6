-- What is known of the heap of an accepted dump, said of the heap alone.
use Rattle.std.specs.Prelude.{◌≡◌, ℕ, ◌+◌, ◌*◌, ◌%◌, ◌^◌, ◌<◌, ◌≤◌, Bool, true, false, ◌⊎◌, List, [], ◌∷◌, length, take, drop, ℤ, pos, negsuc, is_some, Some, None, codes, Option, ◌≢◌, slice_index_or, Float}
use Rattle.std.specs.Float.Ieee as Ieee
use Rattle.std.specs.Float.{binary64}
use Rattle.std.specs.List.{AllByRecursion}
use Rattle.dump.specs.declared.kinds.ViewKind.{ViewKind}
use Rattle.dump.specs.Kinds.{width}
use Rattle.dump.specs.Heaps.{Text, Value, undefined, null, hole, boolean, whole, double, bigint, text, object, Key, index, name, Kind, boolean_object, number_object, bigint_object, string_object, regexp, date, plain, sparse, dense, map, set, buffer, view, error, Part, property, element, entry, member, below, cause, Object, nobody, Numeral, Heap}
use Rattle.numeral.specs.Digits.{index_of}
use Rattle.numeral.specs.Numerals.{is_pair, is_big_int}
use Rattle.shapes.specs.Rows.{flags_ok}
use Rattle.shapes.specs.Cells.{same_number}

-- R holds of each element and every later one
abbrev pub Pairwise : {X : Type 0} → (X → X → Type 0) → List X → Type 0
Pairwise R [] = Unit {0}
Pairwise R (x ∷ xs) = AllByRecursion (R x) xs × Pairwise R xs

abbrev pub Units : Text → Type 0
Units t = AllByRecursion (λ u. u < 65536) t

-- signed or unsigned, in 32 bits
abbrev pub WholeFits : ℤ → Type 0
WholeFits (pos n) = n < 4294967296
WholeFits (negsuc n) = n < 2147483648

-- a value that may stand anywhere, in a heap of n objects
abbrev pub ValueFormed : ℕ → Value → Type 0
ValueFormed n undefined = Unit {0}
ValueFormed n null = Unit {0}
ValueFormed n hole = ⊥
ValueFormed n (boolean v) = Unit {0}
ValueFormed n (whole z) = WholeFits z
ValueFormed n (double bits) = bits < 2 ^ 64
ValueFormed n (bigint t) = is_big_int t ≡ true
ValueFormed n (text t) = Units t
ValueFormed n (object o) = o < n

-- an index below the limit, or a text that is no index and in an array neither of two names
abbrev pub KeyFormed : ℕ → Bool → Key → Type 0
KeyFormed limit array (index i) = i < limit
KeyFormed limit array (name t) = Units t × (is_some (index_of t) ≡ false) × (array ≡ true → (t ≢ codes "length") × (t ≢ codes "__proto__"))

-- ascending indexes come first, and no two keys are equal
abbrev pub KeyBefore : Key → Key → Type 0
KeyBefore (index i) (index j) = i < j
KeyBefore (index i) (name t) = Unit {0}
KeyBefore (name t) (index j) = ⊥
KeyBefore (name t) (name u) = t ≡ u → ⊥

-- the double that a number is
abbrev pub number_in : Value → Option Float
number_in undefined = None
number_in null = None
number_in hole = None
number_in (boolean v) = None
number_in (whole z) = Some (Ieee.of_int binary64 z)
number_in (double bits) = Some (Ieee.of_bits binary64 bits)
number_in (bigint t) = None
number_in (text t) = None
number_in (object o) = None

-- ECMA-262's SameValueZero: two numbers by their doubles, anything else if equal
abbrev pub SameNumbers : Value → Value → Type 0
SameNumbers v w = (x : Float) × (y : Float) × (number_in v ≡ Some x) × (number_in w ≡ Some y) × (same_number x y ≡ true)

abbrev pub SameValueZero : Value → Value → Type 0
SameValueZero v w = SameNumbers v w ⊎ ((number_in v ≡ None) × (v ≡ w))

-- a value that a Map keeps as its key: minus zero would become zero
abbrev pub Kept : ℕ → Value → Type 0
Kept n v = ValueFormed n v × (v ≢ double 9223372036854775808)

-- each part, by what it is to its object
abbrev pub PropertyFormed : ℕ → ℕ → Bool → Part → Type 0
PropertyFormed n limit array p = (k : Key) × (v : Value) × (p ≡ property k v) × KeyFormed limit array k × ValueFormed n v

abbrev pub ElementFormed : ℕ → Part → Type 0
ElementFormed n p = (v : Value) × (p ≡ element v) × ((v ≡ hole) ⊎ ValueFormed n v)

abbrev pub EntryFormed : ℕ → Part → Type 0
EntryFormed n p = (k : Value) × (v : Value) × (p ≡ entry k v) × Kept n k × ValueFormed n v

abbrev pub MemberFormed : ℕ → Part → Type 0
MemberFormed n p = (v : Value) × (p ≡ member v) × Kept n v

abbrev pub CauseFormed : ℕ → Part → Type 0
CauseFormed n p = (v : Value) × (p ≡ cause v) × ValueFormed n v

abbrev pub PropertyBefore : Part → Part → Type 0
PropertyBefore p q = (k k' : Key) (v v' : Value) → p ≡ property k v → q ≡ property k' v' → KeyBefore k k'

abbrev pub EntryApart : Part → Part → Type 0
EntryApart p q = (k k' v v' : Value) → p ≡ entry k v → q ≡ entry k' v' → SameValueZero k k' → ⊥

abbrev pub MemberApart : Part → Part → Type 0
MemberApart p q = (v v' : Value) → p ≡ member v → q ≡ member v' → SameValueZero v v' → ⊥

abbrev pub Properties : ℕ → ℕ → Bool → List Part → Type 0
Properties n limit array ps = AllByRecursion (PropertyFormed n limit array) ps × Pairwise PropertyBefore ps

abbrev pub kind_at : Heap → ℕ → Kind
kind_at h o = (slice_index_or h.objects o nobody).kind

-- a view has a buffer, in whole elements, and lies in it
pub record ViewFormed (h : Heap) (k : ViewKind) (offset count : ℕ) (tracking : Bool) (ps : List Part) : Type 0 where
  pub on : ℕ
  pub bytes : List ℕ
  pub maximum : Option ℕ
  pub part : ps ≡ below on ∷ []
  pub there : on < length h.objects
  pub on_buffer : kind_at h on ≡ buffer bytes maximum
  pub aligned : offset % width k ≡ 0
  pub even : length bytes % width k ≡ 0
  pub inside : offset + count * width k ≤ length bytes
  pub tracks : tracking ≡ true → (count ≡ 0) × (is_some maximum ≡ true)

-- within 8,640,000,000,000,000 milliseconds of 0
abbrev pub TimeFits : Option ℤ → Type 0
TimeFits None = Unit {0}
TimeFits (Some (pos n)) = n ≤ 8640000000000000
TimeFits (Some (negsuc n)) = n < 8640000000000000

abbrev pub MaybeUnits : Option Text → Type 0
MaybeUnits None = Unit {0}
MaybeUnits (Some t) = Units t

abbrev pub MaximumFits : ℕ → Option ℕ → Type 0
MaximumFits n None = Unit {0}
MaximumFits n (Some m) = (n ≤ m) × (m < 4294967296)

abbrev pub KindFormed : Kind → Type 0
KindFormed (boolean_object v) = Unit {0}
KindFormed (number_object bits) = bits < 2 ^ 64
KindFormed (bigint_object t) = is_big_int t ≡ true
KindFormed (string_object t) = Units t
KindFormed (regexp t flags) = Units t × (flags_ok flags ≡ true)
KindFormed (date time) = TimeFits time
KindFormed plain = Unit {0}
KindFormed (sparse n) = n < 4294967296
KindFormed (dense n) = n < 4294967296
KindFormed map = Unit {0}
KindFormed set = Unit {0}
KindFormed (buffer bytes maximum) = AllByRecursion (λ x. x < 256) bytes × MaximumFits (length bytes) maximum
KindFormed (view k offset n tracking) = Unit {0}
KindFormed (error n message stack) = MaybeUnits message × MaybeUnits stack

abbrev pub PartsFormed : Heap → ℕ → Kind → List Part → Type 0
PartsFormed h n (boolean_object v) ps = ps ≡ []
PartsFormed h n (number_object bits) ps = ps ≡ []
PartsFormed h n (bigint_object t) ps = ps ≡ []
PartsFormed h n (string_object t) ps = ps ≡ []
PartsFormed h n (regexp t flags) ps = ps ≡ []
PartsFormed h n (date time) ps = ps ≡ []
PartsFormed h n plain ps = Properties n 4294967295 false ps
PartsFormed h n (sparse limit) ps = Properties n limit true ps
PartsFormed h n (dense count) ps = (count ≤ length ps) × AllByRecursion (ElementFormed n) (take count ps) × Properties n 0 true (drop count ps)
PartsFormed h n map ps = AllByRecursion (EntryFormed n) ps × Pairwise EntryApart ps
PartsFormed h n set ps = AllByRecursion (MemberFormed n) ps × Pairwise MemberApart ps
PartsFormed h n (buffer bytes maximum) ps = ps ≡ []
PartsFormed h n (view k offset count tracking) ps = ViewFormed h k offset count tracking ps
PartsFormed h n (error e message stack) ps = (length ps ≤ 1) × AllByRecursion (CauseFormed n) ps

abbrev pub ObjectFormed : Heap → Object → Type 0
ObjectFormed h o = KindFormed o.kind × PartsFormed h (length h.objects) o.kind o.parts

-- numerals are a lawful speller's: each that of its double, and no double and no numeral twice
abbrev pub Lawful : List Numeral → Type 0
Lawful ns = AllByRecursion (λ n. is_pair n.bits n.digits ≡ true) ns × Pairwise (λ m n. (m.bits ≢ n.bits) × (m.digits ≢ n.digits)) ns

pub record Formed (h : Heap) : Type 0 where
  pub few : length h.objects ≤ 4096
  pub objects : AllByRecursion (ObjectFormed h) h.objects
  pub numerals : Lawful h.numerals
  pub root : ValueFormed (length h.objects) h.root
