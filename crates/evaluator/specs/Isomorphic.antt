-- When what was built is the same graph as a heap's: one pairing of objects, root with result, alike in all that they hold.
use Rattle.std.specs.Prelude.{◌≡◌, ℕ, suc, ◌%◌, ◌^◌, Bool, true, false, cond, not, ◌&&◌, ◌||◌, List, [], ◌∷◌, ℤ, pos, negsuc, Some, None, decimal, MatchBool, Option, ◌==◌, slice_index_or}
use Rattle.dump.specs.Heaps as heaps
use Rattle.dump.specs.Heaps.{Text, Value, Key, index, name, Kind, Part, property, element, entry, member, below, cause, Object, nobody, Heap}
use Rattle.numeral.specs.Digits.{value_from}
use Rattle.numeral.specs.Numerals.{minus, body, finite, whole_bits}
use Rattle.evaluator.specs.Options.{nth}
use Rattle.evaluator.specs.Stores.{Val, undefined, null, boolean, number, big, text, ref, Shape, wrapped, regexp, date, ordinary, array, mapping, setting, buffer, view, error, Slot, keyed, pair, single, Obj, State}
use Rattle.evaluator.specs.Makes.{integer}

-- SameValue of two doubles: the same bits, or both NaN
abbrev pub is_nan : ℕ → Bool
is_nan bits = not (finite bits) && not (bits % 2 ^ 52 == 0)

abbrev pub same_value : ℕ → ℕ → Bool
same_value a b = a == b || (is_nan a && is_nan b)

abbrev pub whole_double : ℤ → ℕ
whole_double (pos n) = whole_bits false n
whole_double (negsuc n) = whole_bits true (suc n)

-- the number that a BigInt's text is
abbrev pub big_value : Text → ℤ
big_value t = integer (minus t) (value_from 0 (body t))

-- The pairing: for each place of the store the object that stands there, none for one that only came up on the way.
abbrev pub Pairing : Type 0
Pairing = List (Option ℕ)

abbrev pub AlikeNumber : ℕ → Val → Type 0
AlikeNumber a w = (b : ℕ) × (w ≡ number b) × (same_value a b ≡ true)

abbrev pub Alike : Pairing → Value → Val → Type 0
Alike own heaps.undefined w = w ≡ undefined
Alike own heaps.null w = w ≡ null
Alike own heaps.hole w = ⊥
Alike own (heaps.boolean b) w = w ≡ boolean b
Alike own (heaps.whole z) w = AlikeNumber (whole_double z) w
Alike own (heaps.double bits) w = AlikeNumber bits w
Alike own (heaps.bigint t) w = w ≡ big (big_value t)
Alike own (heaps.text t) w = w ≡ text t
Alike own (heaps.object o) w = (p : ℕ) × (w ≡ ref p) × (nth own p ≡ Some (Some o))

-- both array kinds are arrays
abbrev pub AlikeKind : Kind → Shape → Type 0
AlikeKind (heaps.boolean_object b) s = s ≡ wrapped (boolean b)
AlikeKind (heaps.number_object bits) s = (b : ℕ) × (s ≡ wrapped (number b)) × (same_value bits b ≡ true)
AlikeKind (heaps.bigint_object t) s = s ≡ wrapped (big (big_value t))
AlikeKind (heaps.string_object t) s = s ≡ wrapped (text t)
AlikeKind (heaps.regexp t flags) s = s ≡ regexp t flags
AlikeKind (heaps.date time) s = s ≡ date time
AlikeKind heaps.plain s = s ≡ ordinary
AlikeKind (heaps.sparse n) s = s ≡ array n
AlikeKind (heaps.dense n) s = s ≡ array n
AlikeKind heaps.map s = s ≡ mapping
AlikeKind heaps.set s = s ≡ setting
AlikeKind (heaps.buffer bytes maximum) s = s ≡ buffer bytes maximum
AlikeKind (heaps.view k offset n tracking) s = s ≡ view k offset (cond tracking None (Some n))
AlikeKind (heaps.error e message stack) s = s ≡ error e message stack

-- an index key is its decimal text
abbrev pub key_text : Key → Text
key_text (index i) = decimal i
key_text (name t) = t

abbrev pub is_hole : Value → Bool
is_hole heaps.undefined = false
is_hole heaps.null = false
is_hole heaps.hole = true
is_hole (heaps.boolean b) = false
is_hole (heaps.whole z) = false
is_hole (heaps.double bits) = false
is_hole (heaps.bigint t) = false
is_hole (heaps.text t) = false
is_hole (heaps.object o) = false

-- Parts in order, one slot each: an element has its index as key, and a hole is no part.
abbrev pub AlikeParts : Pairing → ℕ → List Part → List Slot → Type 0
AlikeParts own i [] ss = ss ≡ []
AlikeParts own i (property k v ∷ ps) ss = (w : Val) × (us : List Slot) × (ss ≡ keyed (key_text k) w ∷ us) × Alike own v w × AlikeParts own i ps us
AlikeParts own i (element v ∷ ps) ss =
    MatchBool (is_hole v) (AlikeParts own (suc i) ps ss)
    ((w : Val) × (us : List Slot) × (ss ≡ keyed (decimal i) w ∷ us) × Alike own v w × AlikeParts own (suc i) ps us)
AlikeParts own i (entry k v ∷ ps) ss = (u : Val) × (w : Val) × (us : List Slot) × (ss ≡ pair u w ∷ us) × Alike own k u × Alike own v w × AlikeParts own i ps us
AlikeParts own i (member v ∷ ps) ss = (w : Val) × (us : List Slot) × (ss ≡ single w ∷ us) × Alike own v w × AlikeParts own i ps us
AlikeParts own i (below o ∷ ps) ss = (w : Val) × (us : List Slot) × (ss ≡ single w ∷ us) × Alike own (heaps.object o) w × AlikeParts own i ps us
AlikeParts own i (cause v ∷ ps) ss = (w : Val) × (us : List Slot) × (ss ≡ single w ∷ us) × Alike own v w × AlikeParts own i ps us

abbrev pub AlikeObject : Pairing → Object → Obj → Type 0
AlikeObject own o x = AlikeKind o.kind x.shape × AlikeParts own 0 o.parts x.slots

-- at each place that is paired
abbrev pub AllAlike : Heap → Pairing → List (Option ℕ) → List Obj → Type 0
AllAlike h own [] [] = Unit {0}
AllAlike h own [] (x ∷ xs) = ⊥
AllAlike h own (p ∷ ps) [] = ⊥
AllAlike h own (None ∷ ps) (x ∷ xs) = AllAlike h own ps xs
AllAlike h own (Some o ∷ ps) (x ∷ xs) = AlikeObject own (slice_index_or h.objects o nobody) x × AllAlike h own ps xs

-- no object stands at two places
abbrev pub stands_in : ℕ → List (Option ℕ) → Bool
stands_in o [] = false
stands_in o (None ∷ ps) = stands_in o ps
stands_in o (Some x ∷ ps) = o == x || stands_in o ps

abbrev pub none_twice : List (Option ℕ) → Bool
none_twice [] = true
none_twice (None ∷ ps) = none_twice ps
none_twice (Some o ∷ ps) = not (stands_in o ps) && none_twice ps

-- Whatever the root or the result reaches is paired: root and result are, and what paired objects hold is.
pub record Isomorphic (h : Heap) (s : State) (result : Val) : Type 0 where
  pub own : Pairing
  pub once : none_twice own ≡ true
  pub alike : AllAlike h own own s.objects
  pub root : Alike own h.root result
