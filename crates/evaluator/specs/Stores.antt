-- Values, built objects and names; property lists, and SameValueZero.
use Rattle.std.specs.Prelude.{ℕ, zero, suc, Bool, true, false, cond, not, ◌&&◌, ◌||◌, List, [], ◌∷◌, ◌++◌, length, ℤ, pos, negsuc, Some, None, Option, ◌==◌, nat_lt}
use Rattle.std.specs.Float.Ieee as Ieee
use Rattle.std.specs.Float.{binary64}
use Rattle.dump.specs.declared.kinds.ViewKind.{ViewKind}
use Rattle.dump.specs.declared.kinds.ErrorName.{ErrorName}
use Rattle.dump.specs.Heaps.{Text}
use Rattle.numeral.specs.Digits.{index_of}
use Rattle.numeral.specs.Words.{same_units}
use Rattle.evaluator.specs.Options.{and_then, nth}

-- a reference is a place in the store
pub data Val : Type 0 where
  undefined null : Val
  boolean : Bool → Val
  number : ℕ → Val
  big : ℤ → Val
  text : Text → Val
  ref : ℕ → Val

-- what an object has besides its slots
pub data Shape : Type 0 where
  wrapped : Val → Shape
  regexp : Text → ℕ → Shape
  date : Option ℤ → Shape
  ordinary : Shape
  -- length
  array : ℕ → Shape
  mapping setting : Shape
  -- bytes, maximum
  buffer : List ℕ → Option ℕ → Shape
  -- kind, offset, length unless it tracks; the buffer is its slot
  view : ViewKind → ℕ → Option ℕ → Shape
  -- name, message, stack; the cause is its slot
  error : ErrorName → Option Text → Option Text → Shape

pub data Slot : Type 0 where
  keyed : Text → Val → Slot
  pair : Val → Val → Slot
  single : Val → Slot

pub record Obj : Type 0 where
  pub shape : Shape
  pub slots : List Slot

pub data Bound : Type 0 where
  bound : ℕ → Val → Bound

pub record State : Type 0 where
  pub objects : List Obj
  pub names : List Bound

abbrev pub start : State
start = record { objects = []; names = [] }

-- a value with the state after it was made
pub record Made : Type 0 where
  pub val : Val
  pub state : State

abbrev pub made : Val → State → Option Made
made v s = Some (record { val = v; state = s })

-- a new object stands at the end of the store
abbrev pub make : Shape → List Slot → State → Option Made
make sh ss s = made (ref (length s.objects)) (record { objects = s.objects ++ (record { shape = sh; slots = ss } ∷ []); names = s.names })

abbrev pub lookup : List Bound → ℕ → Option Val
lookup [] n = None
lookup (bound m v ∷ bs) n = cond (n == m) (Some v) (lookup bs n)

abbrev pub replaced : List Obj → ℕ → Obj → List Obj
replaced [] n o = []
replaced (x ∷ xs) zero o = o ∷ xs
replaced (x ∷ xs) (suc n) o = x ∷ replaced xs n o

abbrev pub change : ℕ → Obj → State → State
change n o s = record { objects = replaced s.objects n o; names = s.names }

abbrev pub place : Val → Option ℕ
place undefined = None
place null = None
place (boolean b) = None
place (number bits) = None
place (big z) = None
place (text t) = None
place (ref n) = Some n

abbrev pub object_of : State → Val → Option Obj
object_of s v = and_then (place v) (nth s.objects)

-- property lists: indexes ascending first, then texts as they were added
abbrev pub key_is : Text → Slot → Bool
key_is k (keyed l v) = same_units k l
key_is k (pair v w) = false
key_is k (single v) = false

abbrev pub has_key : Text → List Slot → Bool
has_key k [] = false
has_key k (s ∷ ss) = key_is k s || has_key k ss

abbrev pub set_key : Text → Val → List Slot → List Slot
set_key k v [] = []
set_key k v (s ∷ ss) = cond (key_is k s) (keyed k v) s ∷ set_key k v ss

abbrev pub index_below : ℕ → Option ℕ → Bool
index_below i None = false
index_below i (Some j) = nat_lt j i

abbrev pub slot_index : Slot → Option ℕ
slot_index (keyed k v) = index_of k
slot_index (pair v w) = None
slot_index (single v) = None

-- before the first slot whose index is not below i
abbrev pub insert_index : ℕ → Slot → List Slot → List Slot
insert_index i new [] = new ∷ []
insert_index i new (s ∷ ss) = cond (index_below i (slot_index s)) (s ∷ insert_index i new ss) (new ∷ s ∷ ss)

abbrev pub add_key : Option ℕ → Slot → List Slot → List Slot
add_key None new ss = ss ++ (new ∷ [])
add_key (Some i) new ss = insert_index i new ss

abbrev pub with_key : Text → Val → List Slot → List Slot
with_key k v ss = cond (has_key k ss) (set_key k v ss) (add_key (index_of k) (keyed k v) ss)

-- SameValueZero
abbrev pub same_integer : ℤ → ℤ → Bool
same_integer (pos a) (pos b) = a == b
same_integer (pos a) (negsuc b) = false
same_integer (negsuc a) (pos b) = false
same_integer (negsuc a) (negsuc b) = a == b

abbrev pub same_boolean : Bool → Bool → Bool
same_boolean true b = b
same_boolean false b = not b

abbrev pub same_double : ℕ → ℕ → Bool
same_double a b = Ieee.eq (Ieee.of_bits binary64 a) (Ieee.of_bits binary64 b) || (Ieee.is_nan (Ieee.of_bits binary64 a) && Ieee.is_nan (Ieee.of_bits binary64 b))

abbrev pub same_zero : Val → Val → Bool
same_zero undefined undefined = true
same_zero undefined null = false
same_zero undefined (boolean b) = false
same_zero undefined (number n) = false
same_zero undefined (big z) = false
same_zero undefined (text t) = false
same_zero undefined (ref n) = false
same_zero null undefined = false
same_zero null null = true
same_zero null (boolean b) = false
same_zero null (number n) = false
same_zero null (big z) = false
same_zero null (text t) = false
same_zero null (ref n) = false
same_zero (boolean a) undefined = false
same_zero (boolean a) null = false
same_zero (boolean a) (boolean b) = same_boolean a b
same_zero (boolean a) (number n) = false
same_zero (boolean a) (big z) = false
same_zero (boolean a) (text t) = false
same_zero (boolean a) (ref n) = false
same_zero (number a) undefined = false
same_zero (number a) null = false
same_zero (number a) (boolean b) = false
same_zero (number a) (number b) = same_double a b
same_zero (number a) (big z) = false
same_zero (number a) (text t) = false
same_zero (number a) (ref n) = false
same_zero (big a) undefined = false
same_zero (big a) null = false
same_zero (big a) (boolean b) = false
same_zero (big a) (number n) = false
same_zero (big a) (big b) = same_integer a b
same_zero (big a) (text t) = false
same_zero (big a) (ref n) = false
same_zero (text a) undefined = false
same_zero (text a) null = false
same_zero (text a) (boolean b) = false
same_zero (text a) (number n) = false
same_zero (text a) (big z) = false
same_zero (text a) (text b) = same_units a b
same_zero (text a) (ref n) = false
same_zero (ref a) undefined = false
same_zero (ref a) null = false
same_zero (ref a) (boolean b) = false
same_zero (ref a) (number n) = false
same_zero (ref a) (big z) = false
same_zero (ref a) (text t) = false
same_zero (ref a) (ref b) = a == b

-- a Map and a Set keep plus zero for minus zero
abbrev pub plus_zero : Val → Val
plus_zero undefined = undefined
plus_zero null = null
plus_zero (boolean b) = boolean b
plus_zero (number n) = cond (n == 9223372036854775808) (number 0) (number n)
plus_zero (big z) = big z
plus_zero (text t) = text t
plus_zero (ref n) = ref n

abbrev pub member_is : Val → Slot → Bool
member_is v (keyed k w) = false
member_is v (pair k w) = same_zero v k
member_is v (single w) = same_zero v w

abbrev pub has_member : Val → List Slot → Bool
has_member v [] = false
has_member v (s ∷ ss) = member_is v s || has_member v ss

abbrev pub set_member : Val → Val → List Slot → List Slot
set_member k v [] = []
set_member k v (s ∷ ss) = cond (member_is k s) (pair (plus_zero k) v) s ∷ set_member k v ss

abbrev pub map_set : Val → Val → List Slot → List Slot
map_set k v ss = cond (has_member k ss) (set_member k v ss) (ss ++ (pair (plus_zero k) v ∷ []))

abbrev pub set_add : Val → List Slot → List Slot
set_add v ss = cond (has_member v ss) ss (ss ++ (single (plus_zero v) ∷ []))
