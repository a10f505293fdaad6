-- A decision of isomorphism that gives its evidence.
use Rattle.std.proofs.Common.{◌≡◌, ℕ, zero, suc, Bool, true, false, cond, eqb, List, [], ◌∷◌, map, get_or, ℤ, pos, negsuc, Some, None, decimal, MatchBool, Option, sym, refl, ap, ◌∙◌}
use Rattle.std.proofs.lemmas.Bool.{eqb-true}
use Rattle.dump.specs.declared.kinds.ViewKind.{ViewKind}
use Rattle.dump.specs.declared.kinds.ViewKind.TheVariants.{Int8Array, Uint8Array, Uint8ClampedArray, Int16Array, Uint16Array, Int32Array, Uint32Array, Float32Array, Float64Array, BigInt64Array, BigUint64Array, DataView}
use Rattle.dump.specs.declared.kinds.ErrorName.{ErrorName}
use Rattle.dump.specs.declared.kinds.ErrorName.TheVariants.{Error, EvalError, RangeError, ReferenceError, SyntaxError, TypeError, UriError}
use Rattle.dump.specs.Heaps as heaps
use Rattle.dump.specs.Heaps.{Text, Value, Kind, Part, property, element, entry, member, below, cause, Object, nobody, Heap}
use Rattle.dump.specs.Kinds.{view_kind, view_number, error_name}
use Rattle.evaluator.specs.Options.{and_then, nth}
use Rattle.evaluator.specs.Stores.{Val, boolean, big, text, ref, place, Shape, wrapped, regexp, date, array, buffer, view, error, Slot, keyed, pair, single, Obj, State}
use Rattle.evaluator.specs.Isomorphic.{same_value, big_value, Pairing, AlikeNumber, Alike, AlikeKind, key_text, is_hole, AlikeParts, AlikeObject, AllAlike, none_twice, Isomorphic}
use Rattle.vectors.proofs.Cases.{on_wrapped, on_regexp, on_date, on_ordinary, on_array, on_mapping, on_setting, on_buffer, on_view, on_error, on_undefined, on_null, on_boolean, on_number, on_big, on_text, on_ref, on_keyed, on_pair, on_single}

abbrev tested : {P : Type 0} → (b : Bool) → (b ≡ true → P) → Option P
tested true f = Some (f refl)
tested false f = None

abbrev same_number : (a b : ℕ) → Option (a ≡ b)
same_number a b = tested (eqb a b) (eqb-true a b)

abbrev same_bool : (a b : Bool) → Option (a ≡ b)
same_bool true true = Some refl
same_bool true false = None
same_bool false true = None
same_bool false false = Some refl

abbrev same_integer : (a b : ℤ) → Option (a ≡ b)
same_integer (pos a) (pos b) = and_then (same_number a b) (λ e. Some (ap pos e))
same_integer (pos a) (negsuc b) = None
same_integer (negsuc a) (pos b) = None
same_integer (negsuc a) (negsuc b) = and_then (same_number a b) (λ e. Some (ap negsuc e))

abbrev same_text : (a b : Text) → Option (a ≡ b)
same_text [] [] = Some refl
same_text [] (y ∷ ys) = None
same_text (x ∷ xs) [] = None
same_text (x ∷ xs) (y ∷ ys) = and_then (same_number x y) (λ e. and_then (same_text xs ys) (λ g. Some (λ i. e i ∷ g i)))

abbrev same_option : {A : Type 0} → ((a b : A) → Option (a ≡ b)) → (a b : Option A) → Option (a ≡ b)
same_option f None None = Some refl
same_option f None (Some b) = None
same_option f (Some a) None = None
same_option f (Some a) (Some b) = and_then (f a b) (λ e. Some (ap Some e))

pub view_known : (k : ViewKind) → view_kind (view_number k) ≡ k
view_known Int8Array = refl
view_known Uint8Array = refl
view_known Uint8ClampedArray = refl
view_known Int16Array = refl
view_known Uint16Array = refl
view_known Int32Array = refl
view_known Uint32Array = refl
view_known Float32Array = refl
view_known Float64Array = refl
view_known BigInt64Array = refl
view_known BigUint64Array = refl
view_known DataView = refl

abbrev same_view : (a b : ViewKind) → Option (a ≡ b)
same_view a b = and_then (same_number (view_number a) (view_number b)) (λ e. Some (sym (view_known a) ∙ ap view_kind e ∙ view_known b))

abbrev error_number : ErrorName → ℕ
error_number Error = 0
error_number EvalError = 1
error_number RangeError = 2
error_number ReferenceError = 3
error_number SyntaxError = 4
error_number TypeError = 5
error_number UriError = 6

pub error_known : (e : ErrorName) → error_name (error_number e) ≡ e
error_known Error = refl
error_known EvalError = refl
error_known RangeError = refl
error_known ReferenceError = refl
error_known SyntaxError = refl
error_known TypeError = refl
error_known UriError = refl

abbrev same_error : (a b : ErrorName) → Option (a ≡ b)
same_error a b = and_then (same_number (error_number a) (error_number b)) (λ e. Some (sym (error_known a) ∙ ap error_name e ∙ error_known b))

abbrev alike_number : (a : ℕ) → (w : Val) → Option (AlikeNumber a w)
alike_number a = on_number (AlikeNumber a) (λ b. tested (same_value a b) (λ e. (b, refl, e)))

abbrev alike_ref : (own : Pairing) → (o : ℕ) → (p : ℕ) → (q : Option (Option ℕ)) → nth own p ≡ q → Option (Alike own (heaps.object o) (ref p))
alike_ref own o p None h = None
alike_ref own o p (Some None) h = None
alike_ref own o p (Some (Some x)) h = and_then (same_number x o) (λ e. Some (p, refl, h ∙ ap (λ y. Some (Some y)) e))

abbrev alike : (own : Pairing) → (v : Value) → (w : Val) → Option (Alike own v w)
alike own heaps.undefined w = on_undefined (Alike own heaps.undefined) (Some refl) w
alike own heaps.null w = on_null (Alike own heaps.null) (Some refl) w
alike own heaps.hole w = None
alike own (heaps.boolean b) w = on_boolean (Alike own (heaps.boolean b)) (λ c. and_then (same_bool c b) (λ e. Some (ap boolean e))) w
alike own (heaps.whole z) w = alike_number _ w
alike own (heaps.double bits) w = alike_number bits w
alike own (heaps.bigint t) w = on_big (Alike own (heaps.bigint t)) (λ z. and_then (same_integer z (big_value t)) (λ e. Some (ap big e))) w
alike own (heaps.text t) w = on_text (Alike own (heaps.text t)) (λ u. and_then (same_text u t) (λ e. Some (ap text e))) w
alike own (heaps.object o) w = on_ref (Alike own (heaps.object o)) (λ p. alike_ref own o p (nth own p) refl) w

abbrev alike_kind : (k : Kind) → (s : Shape) → Option (AlikeKind k s)
alike_kind (heaps.boolean_object b) = on_wrapped (AlikeKind (heaps.boolean_object b)) (λ v. and_then (on_boolean (λ w. w ≡ boolean b) (λ c. and_then (same_bool c b) (λ e. Some (ap boolean e))) v) (λ e. Some (ap wrapped e)))
alike_kind (heaps.number_object bits) = on_wrapped (AlikeKind (heaps.number_object bits)) (on_number (λ v. AlikeKind (heaps.number_object bits) (wrapped v)) (λ b. tested (same_value bits b) (λ e. (b, refl, e))))
alike_kind (heaps.bigint_object t) = on_wrapped (AlikeKind (heaps.bigint_object t)) (on_big (λ v. wrapped v ≡ wrapped (big (big_value t))) (λ z. and_then (same_integer z (big_value t)) (λ e. Some (ap (λ y. wrapped (big y)) e))))
alike_kind (heaps.string_object t) = on_wrapped (AlikeKind (heaps.string_object t)) (on_text (λ v. wrapped v ≡ wrapped (text t)) (λ u. and_then (same_text u t) (λ e. Some (ap (λ y. wrapped (text y)) e))))
alike_kind (heaps.regexp t flags) = on_regexp (AlikeKind (heaps.regexp t flags)) (λ u n. and_then (same_text u t) (λ e. and_then (same_number n flags) (λ g. Some (λ i. regexp (e i) (g i)))))
alike_kind (heaps.date time) = on_date (AlikeKind (heaps.date time)) (λ t. and_then (same_option same_integer t time) (λ e. Some (ap date e)))
alike_kind heaps.plain = on_ordinary (AlikeKind heaps.plain) (Some refl)
alike_kind (heaps.sparse n) = on_array (AlikeKind (heaps.sparse n)) (λ m. and_then (same_number m n) (λ e. Some (ap array e)))
alike_kind (heaps.dense n) = on_array (AlikeKind (heaps.dense n)) (λ m. and_then (same_number m n) (λ e. Some (ap array e)))
alike_kind heaps.map = on_mapping (AlikeKind heaps.map) (Some refl)
alike_kind heaps.set = on_setting (AlikeKind heaps.set) (Some refl)
alike_kind (heaps.buffer bytes maximum) = on_buffer (AlikeKind (heaps.buffer bytes maximum)) (λ bs m. and_then (same_text bs bytes) (λ e. and_then (same_option same_number m maximum) (λ g. Some (λ i. buffer (e i) (g i)))))
alike_kind (heaps.view k offset n tracking) = on_view (AlikeKind (heaps.view k offset n tracking)) (λ l o m. and_then (same_view l k) (λ e. and_then (same_number o offset) (λ g. and_then (same_option same_number m (cond tracking None (Some n))) (λ f. Some (λ i. view (e i) (g i) (f i))))))
alike_kind (heaps.error x message stack) = on_error (AlikeKind (heaps.error x message stack)) (λ y m st. and_then (same_error y x) (λ e. and_then (same_option same_text m message) (λ g. and_then (same_option same_text st stack) (λ f. Some (λ i. error (e i) (g i) (f i))))))

abbrev either : {P Q : Type 0} → (b : Bool) → Option P → Option Q → Option (MatchBool b P Q)
either true p q = p
either false p q = q

abbrev alike_parts : (own : Pairing) → (i : ℕ) → (ps : List Part) → (ss : List Slot) → Option (AlikeParts own i ps ss)
alike_parts own i [] [] = Some refl
alike_parts own i [] (s ∷ ss) = None
alike_parts own i (property k v ∷ ps) ss =
    on_keyed (AlikeParts own i (property k v ∷ ps)) (λ t w us. and_then (same_text t (key_text k)) (λ e. and_then (alike own v w) (λ a. and_then (alike_parts own i ps us) (λ r. Some (w, us, ap (λ u. keyed u w ∷ us) e, a, r))))) ss
alike_parts own i (element v ∷ ps) ss =
    either (is_hole v) (alike_parts own (suc i) ps ss)
    (on_keyed (λ ss. (w : Val) × (us : List Slot) × (ss ≡ keyed (decimal i) w ∷ us) × Alike own v w × AlikeParts own (suc i) ps us) (λ t w us. and_then (same_text t (decimal i)) (λ e. and_then (alike own v w) (λ a. and_then (alike_parts own (suc i) ps us) (λ r. Some (w, us, ap (λ u. keyed u w ∷ us) e, a, r))))) ss)
alike_parts own i (entry k v ∷ ps) ss =
    on_pair (AlikeParts own i (entry k v ∷ ps)) (λ u w us. and_then (alike own k u) (λ a. and_then (alike own v w) (λ b. and_then (alike_parts own i ps us) (λ r. Some (u, w, us, refl, a, b, r))))) ss
alike_parts own i (member v ∷ ps) ss =
    on_single (AlikeParts own i (member v ∷ ps)) (λ w us. and_then (alike own v w) (λ a. and_then (alike_parts own i ps us) (λ r. Some (w, us, refl, a, r)))) ss
alike_parts own i (below o ∷ ps) ss =
    on_single (AlikeParts own i (below o ∷ ps)) (λ w us. and_then (alike own (heaps.object o) w) (λ a. and_then (alike_parts own i ps us) (λ r. Some (w, us, refl, a, r)))) ss
alike_parts own i (cause v ∷ ps) ss =
    on_single (AlikeParts own i (cause v ∷ ps)) (λ w us. and_then (alike own v w) (λ a. and_then (alike_parts own i ps us) (λ r. Some (w, us, refl, a, r)))) ss

abbrev alike_object : (own : Pairing) → (o : Object) → (x : Obj) → Option (AlikeObject own o x)
alike_object own o x = and_then (alike_kind o.kind x.shape) (λ k. and_then (alike_parts own 0 o.parts x.slots) (λ p. Some (k, p)))

abbrev all_alike : (h : Heap) → (own : Pairing) → (ps : List (Option ℕ)) → (xs : List Obj) → Option (AllAlike h own ps xs)
all_alike h own [] [] = Some tt
all_alike h own [] (x ∷ xs) = None
all_alike h own (p ∷ ps) [] = None
all_alike h own (None ∷ ps) (x ∷ xs) = all_alike h own ps xs
all_alike h own (Some o ∷ ps) (x ∷ xs) = and_then (alike_object own (get_or h.objects o nobody) x) (λ a. and_then (all_alike h own ps xs) (λ r. Some (a, r)))

-- A pairing, by walking what the root and the result hold side by side.
abbrev object_in : Value → Option ℕ
object_in heaps.undefined = None
object_in heaps.null = None
object_in heaps.hole = None
object_in (heaps.boolean b) = None
object_in (heaps.whole z) = None
object_in (heaps.double bits) = None
object_in (heaps.bigint t) = None
object_in (heaps.text t) = None
object_in (heaps.object o) = Some o

abbrev values_in : List Part → List Value → List Value
values_in [] vs = vs
values_in (property k v ∷ ps) vs = v ∷ values_in ps vs
values_in (element v ∷ ps) vs = cond (is_hole v) (values_in ps vs) (v ∷ values_in ps vs)
values_in (entry k v ∷ ps) vs = k ∷ v ∷ values_in ps vs
values_in (member v ∷ ps) vs = v ∷ values_in ps vs
values_in (below o ∷ ps) vs = heaps.object o ∷ values_in ps vs
values_in (cause v ∷ ps) vs = v ∷ values_in ps vs

abbrev vals_in : List Slot → List Val → List Val
vals_in [] ws = ws
vals_in (keyed t w ∷ ss) ws = w ∷ vals_in ss ws
vals_in (pair u w ∷ ss) ws = u ∷ w ∷ vals_in ss ws
vals_in (single w ∷ ss) ws = w ∷ vals_in ss ws

abbrev paired : Option (Option ℕ) → Bool
paired None = true
paired (Some None) = false
paired (Some (Some o)) = true

abbrev with_pair : Pairing → ℕ → ℕ → Pairing
with_pair [] p o = []
with_pair (x ∷ own) zero o = Some o ∷ own
with_pair (x ∷ own) (suc p) o = x ∷ with_pair own p o

abbrev no_obj : Obj
no_obj = record { shape = array 0; slots = [] }

-- an object and a place that is not paired yet are paired, and what they hold is walked
abbrev meet : Pairing → (ℕ → ℕ → Pairing) → Pairing → Option ℕ → Option ℕ → Pairing
meet on pairs own None q = on
meet on pairs own (Some o) None = on
meet on pairs own (Some o) (Some p) = cond (paired (nth own p)) on (pairs o p)

module _ (h : Heap) (s : State) where
  abbrev walk : ℕ → List Value → List Val → Pairing → Pairing
  walk zero vs ws own = own
  walk (suc n) [] ws own = own
  walk (suc n) (v ∷ vs) [] own = own
  walk (suc n) (v ∷ vs) (w ∷ ws) own = meet (walk n vs ws own) (λ o p. walk n (values_in (get_or h.objects o nobody).parts vs) (vals_in (get_or s.objects p no_obj).slots ws) (with_pair own p o)) own (object_in v) (place w)

  abbrev pairing : Val → Pairing
  pairing w = walk 10000 (h.root ∷ []) (w ∷ []) (map (λ x. None) s.objects)

  abbrev by : (own : Pairing) → (w : Val) → Option (Isomorphic h s w)
  by own w =
      and_then (tested (none_twice own) (λ e. e)) (λ e. and_then (all_alike h own own s.objects) (λ a. and_then (alike own h.root w) (λ r. Some (record { own = own; once = e; alike = a; root = r }))))

  abbrev pub isomorphic : (w : Val) → Option (Isomorphic h s w)
  isomorphic w = by (pairing w) w
