-- What an expression makes and a statement does, said of the syntax: the step between a script's text and the heap that it rebuilds.
use Rattle.std.specs.Prelude.{ℕ, suc, ◌+◌, ◌-◌, ◌*◌, ◌/◌, ◌^◌, Bool, true, false, cond, not, ◌&&◌, List, [], ◌∷◌, ◌++◌, length, pos, negsuc, is_some, Some, None, codes, Option, ◌==◌, nat_le}
use Rattle.dump.specs.declared.kinds.ViewKind.{ViewKind}
use Rattle.dump.specs.declared.kinds.ViewKind.TheVariants.{Uint8Array}
use Rattle.dump.specs.declared.kinds.ErrorName.{ErrorName}
use Rattle.dump.specs.Heaps as heaps
use Rattle.dump.specs.Heaps.{Text, Value, Key}
use Rattle.dump.specs.Kinds.{width}
use Rattle.numeral.specs.Numerals.{finite, whole_bits}
use Rattle.script.specs.Syntax as syntax
use Rattle.script.specs.Syntax.{Form, named, buffer_of_named, circular, new_boolean, new_number, new_bigint, new_string, new_regexp, new_date, new_array, empty_map_form, empty_set_form, buffer_form, new_resizable, data_buffer, new_typed, typed_part, Group, braces, brackets, map_group, set_group, error_group, view_group, Expr, value, form, group, Items, none, item, Stmt, opening, const, assign, put, add, fill, last, return}
use Rattle.script.specs.Texts.{Listing, numbers, floats, listing, all_zero, low_first}
use Rattle.evaluator.specs.Options.{and_then, when}
use Rattle.evaluator.specs.Stores as stores
use Rattle.evaluator.specs.Stores.{Val, undefined, null, boolean, number, big, ref, wrapped, regexp, date, ordinary, array, mapping, setting, buffer, view, error, Slot, pair, single, Obj, Bound, bound, State, Made, made, make, lookup, change, place, object_of, with_key, map_set}
use Rattle.evaluator.specs.Makes.{zeros, view_on, buffer_of, subarray, members, set_pair, add_one, buffer_at, overwritten}
use Rattle.evaluator.specs.Commands.{assigned, Ran, ran}
use Rattle.evaluator.specs.Runs.{Listed, element_slots}
use Rattle.evaluator.specs.Isomorphic.{whole_double, big_value, key_text}

-- the double that a numeral, `Infinity`, `-Infinity` or `NaN` gives: of all NaN just one
abbrev pub canonical : ℕ → ℕ
canonical bits =
    cond (finite bits) bits
    (cond (bits == 9218868437227405312) bits
    (cond (bits == 18442240474082181120) bits
    9221120237041090560))

-- a whole number, as a value
abbrev pub count : ℕ → Val
count n = number (whole_bits false n)

-- a value that is no object and no hole
abbrev pub plain_val : Value → Option Val
plain_val heaps.undefined = Some undefined
plain_val heaps.null = Some null
plain_val heaps.hole = None
plain_val (heaps.boolean b) = Some (boolean b)
plain_val (heaps.whole z) = Some (number (whole_double z))
plain_val (heaps.double bits) = Some (number (canonical bits))
plain_val (heaps.bigint t) = Some (big (big_value t))
plain_val (heaps.text t) = Some (stores.text t)
plain_val (heaps.object o) = None

-- more objects at the end of the store
abbrev pub grown : State → List Obj → State
grown s new = record { objects = s.objects ++ new; names = s.names }

-- The elements of a list of bytes, w bytes each, as values; the bytes of an element that were seen wait.
abbrev pub element_val : Bool → Bool → ℕ → ℕ → Val
element_val minus big? w n =
    cond big? (big (cond (minus && nat_le (2 ^ (8 * w - 1)) n) (negsuc ((2 ^ (8 * w) - n) - 1)) (pos n)))
    (number (cond (minus && nat_le (2 ^ (8 * w - 1)) n) (whole_bits true (2 ^ (8 * w) - n)) (whole_bits false n)))

abbrev pub list_vals : Bool → Bool → ℕ → List ℕ → List ℕ → List (Option Val)
list_vals minus big? w seen [] = []
list_vals minus big? w seen (x ∷ xs) =
    cond (length seen + 1 == w) (Some (element_val minus big? w (low_first (seen ++ (x ∷ [])))) ∷ list_vals minus big? w [] xs)
    (list_vals minus big? w (seen ++ (x ∷ [])) xs)

-- the array that a list of elements makes
abbrev pub listed : Bool → Bool → ℕ → List ℕ → Obj
listed minus big? w bytes = let vs = list_vals minus big? w [] bytes in record { shape = array (length vs); slots = element_slots 0 vs }

abbrev pub typed_view : ViewKind → ℕ → List ℕ → Obj
typed_view k n bytes = record { shape = view k 0 (Some (length bytes / width k)); slots = single (ref n) ∷ [] }

abbrev pub fixed : List ℕ → Obj
fixed bytes = record { shape = buffer bytes None; slots = [] }

-- What a typed array with data of its own makes, in a store of n objects: the list, if one is written; its buffer; for a float kind the bytes' own view; the view.
abbrev pub list_made : Listing → ViewKind → List ℕ → ℕ → List Obj
list_made (numbers minus big?) k bytes n = listed minus big? (width k) bytes ∷ fixed bytes ∷ typed_view k (suc n) bytes ∷ []
list_made floats k bytes n = listed false false 1 bytes ∷ fixed bytes ∷ typed_view Uint8Array (suc n) bytes ∷ typed_view k (suc n) bytes ∷ []

abbrev pub typed_made : ViewKind → List ℕ → ℕ → List Obj
typed_made k bytes n = cond (all_zero bytes) (fixed bytes ∷ typed_view k n bytes ∷ []) (list_made (listing k) k bytes n)

-- the place of its buffer
abbrev pub typed_on : List ℕ → ℕ → ℕ
typed_on bytes n = cond (all_zero bytes) n (suc n)

-- the state after it; the view is the last object made
abbrev pub typed_state : ViewKind → List ℕ → State → State
typed_state k bytes s = grown s (typed_made k bytes (length s.objects))

abbrev pub typed_ref : ViewKind → List ℕ → State → Val
typed_ref k bytes s = ref (length s.objects + length (typed_made k bytes (length s.objects)) - 1)

-- arguments that may be left out
abbrev pub some_args : Option ℕ → List Val
some_args None = []
some_args (Some n) = count n ∷ []

abbrev pub maximum_key : Text
maximum_key = codes "maxByteLength"

abbrev pub form_made : Form → State → Option Made
form_made (named n) s = and_then (lookup s.names n) (λ v. made v s)
form_made (buffer_of_named n) s = and_then (lookup s.names n) (λ v. buffer_of v s)
form_made circular s = made undefined s
form_made (new_boolean b) s = make (wrapped (boolean b)) [] s
form_made (new_number bits) s = make (wrapped (number (canonical bits))) [] s
form_made (new_bigint t) s = make (wrapped (big (big_value t))) [] s
form_made (new_string t) s = make (wrapped (stores.text t)) [] s
form_made (new_regexp t flags) s = make (regexp t flags) [] s
form_made (new_date time) s = make (date time) [] s
form_made (new_array n) s = make (array n) [] s
form_made empty_map_form s = make mapping [] s
form_made empty_set_form s = make setting [] s
form_made (buffer_form n) s = make (buffer (zeros n) None) [] s
form_made (new_resizable n m) s = and_then (make ordinary (stores.keyed maximum_key (count m) ∷ []) s) (λ o. make (buffer (zeros n) (Some m)) [] o.state)
form_made (data_buffer k bytes) s = made (ref (typed_on bytes (length s.objects))) (typed_state k bytes s)
form_made (new_typed k bytes) s = made (typed_ref k bytes s) (typed_state k bytes s)
form_made (typed_part k bytes a b) s = subarray (typed_ref k bytes s) (count a ∷ count b ∷ []) (typed_state k bytes s)
form_made (syntax.subarray n a b) s = and_then (lookup s.names n) (λ v. subarray v (some_args a ++ some_args b) s)

-- keys with their values, set one after the other
pub record KeysMade : Type 0 where
  pub slots : List Slot
  pub state : State

-- the entries of a Map: each is an array of two, at the place that `arrays` has
pub record PairsMade : Type 0 where
  pub pairs : List Slot
  pub arrays : List (Option Val)
  pub state : State

abbrev pub map_from : List Slot → List Slot → List Slot
map_from [] ss = ss
map_from (stores.keyed k v ∷ ps) ss = map_from ps ss
map_from (pair k v ∷ ps) ss = map_from ps (map_set k v ss)
map_from (single v ∷ ps) ss = map_from ps ss

-- the values in a row, where there are no holes
abbrev pub somes : List (Option Val) → List Val
somes [] = []
somes (None ∷ vs) = somes vs
somes (Some v ∷ vs) = v ∷ somes vs

-- an array literal of these values
abbrev pub array_made : List (Option Val) → State → Option Made
array_made vs s = make (array (length vs)) (element_slots 0 vs) s

abbrev pub two_made : Val → Val → State → Option Made
two_made k v s = array_made (Some k ∷ Some v ∷ []) s

abbrev pub offset_of : Option ℕ → ℕ
offset_of None = 0
offset_of (Some n) = n

abbrev pub cause_key : Text
cause_key = codes "cause"

abbrev mutual
  pub expr_made : Expr → State → Option Made
  expr_made (value v) s = and_then (plain_val v) (λ w. made w s)
  expr_made (form f) s = form_made f s
  expr_made (group braces is) s = and_then (keys_made is [] s) (λ b. make ordinary b.slots b.state)
  expr_made (group brackets is) s = and_then (row_made is s) (λ l. array_made l.vals l.state)
  expr_made (group map_group is) s = and_then (pairs_made is s) (λ p. and_then (array_made p.arrays p.state) (λ a. make mapping (map_from p.pairs []) a.state))
  expr_made (group set_group is) s = and_then (row_made is s) (λ l. and_then (array_made l.vals l.state) (λ a. make setting (members (somes l.vals) []) a.state))
  expr_made (group (error_group n m) is) s = error_made is n m s
  expr_made (group (view_group k o n) is) s = and_then (first_made is s) (λ b. view_on k b.val (offset_of o) n b.state)

  -- the values in brackets, a hole as none
  pub row_made : Items → State → Option Listed
  row_made none s = Some (record { vals = []; state = s })
  row_made (syntax.hole is) s = and_then (row_made is s) (λ l. Some (record { vals = None ∷ l.vals; state = l.state }))
  row_made (item e is) s = and_then (expr_made e s) (λ m. and_then (row_made is m.state) (λ l. Some (record { vals = Some m.val ∷ l.vals; state = l.state })))
  row_made (syntax.keyed k e is) s = None
  row_made (syntax.pair e f is) s = None

  -- behind the slots that are there
  pub keys_made : Items → List Slot → State → Option KeysMade
  keys_made none ss s = Some (record { slots = ss; state = s })
  keys_made (syntax.hole is) ss s = None
  keys_made (item e is) ss s = None
  keys_made (syntax.keyed k e is) ss s = and_then (expr_made e s) (λ m. keys_made is (with_key (key_text k) m.val ss) m.state)
  keys_made (syntax.pair e f is) ss s = None

  pub pairs_made : Items → State → Option PairsMade
  pairs_made none s = Some (record { pairs = []; arrays = []; state = s })
  pairs_made (syntax.hole is) s = None
  pairs_made (item e is) s = None
  pairs_made (syntax.keyed k e is) s = None
  pairs_made (syntax.pair e f is) s =
      and_then (expr_made e s) (λ k. and_then (expr_made f k.state) (λ v. and_then (two_made k.val v.val v.state) (λ a.
      and_then (pairs_made is a.state) (λ p. Some (record { pairs = pair k.val v.val ∷ p.pairs; arrays = Some a.val ∷ p.arrays; state = p.state })))))

  -- an error with its cause, if there is one, which comes in an object of its own
  pub error_made : Items → ErrorName → Option Text → State → Option Made
  error_made none n m s = make (error n m None) [] s
  error_made (syntax.hole is) n m s = None
  error_made (item e is) n m s = and_then (expr_made e s) (λ c. and_then (make ordinary (stores.keyed cause_key c.val ∷ []) c.state) (λ o. make (error n m None) (single c.val ∷ []) o.state))
  error_made (syntax.keyed k e is) n m s = None
  error_made (syntax.pair e f is) n m s = None

  -- the one expression inside
  pub first_made : Items → State → Option Made
  first_made none s = None
  first_made (syntax.hole is) s = None
  first_made (item e is) s = expr_made e s
  first_made (syntax.keyed k e is) s = None
  first_made (syntax.pair e f is) s = None

-- a buffer's first bytes overwritten, with the objects that came up on the way: a view and the list
abbrev pub filled : ℕ → Val → ViewKind → Bool → Bool → List ℕ → State → Option State
filled p v k minus big? bytes s =
    and_then (buffer_at s v) (λ b. and_then (view_on k v 0 None s) (λ w. and_then (make (listed minus big? (width k) bytes).shape (listed minus big? (width k) bytes).slots w.state) (λ l.
    when (nat_le (length bytes) (length b.bytes)) (Some (change p (record { shape = buffer (overwritten 0 bytes b.bytes) b.maximum; slots = [] }) l.state)))))

abbrev pub filled_by : Listing → ℕ → Val → ViewKind → List ℕ → State → Option State
filled_by (numbers minus big?) p v k bytes s = filled p v k minus big? bytes s
filled_by floats p v k bytes s = None

abbrev pub stmt_done : Stmt → State → Option Ran
stmt_done opening s = ran s None
stmt_done (const n e) s =
    and_then (expr_made e s) (λ m. when (not (is_some (lookup m.state.names n))) (ran (record { objects = m.state.objects; names = m.state.names ++ (bound n m.val ∷ []) }) None))
stmt_done (assign n k e) s =
    and_then (lookup s.names n) (λ target. and_then (expr_made e s) (λ m.
    and_then (place target) (λ p. and_then (object_of m.state target) (λ o. and_then (assigned (key_text k) m.val o.shape o.slots) (λ u. ran (change p u m.state) None)))))
stmt_done (put n e f) s =
    and_then (lookup s.names n) (λ target. and_then (expr_made e s) (λ k. and_then (expr_made f k.state) (λ v.
    and_then (place target) (λ p. and_then (object_of v.state target) (λ o. and_then (set_pair p o.shape o.slots (k.val ∷ v.val ∷ []) v.state) (λ m. ran m.state None))))))
stmt_done (add n e) s =
    and_then (lookup s.names n) (λ target. and_then (expr_made e s) (λ v.
    and_then (place target) (λ p. and_then (object_of v.state target) (λ o. and_then (add_one p o.shape o.slots (v.val ∷ []) v.state) (λ m. ran m.state None)))))
stmt_done (fill n k bytes) s = and_then (lookup s.names n) (λ target. and_then (place target) (λ p. and_then (filled_by (listing k) p target k bytes s) (λ t. ran t None)))
stmt_done (last b e) s = and_then (expr_made e s) (λ m. ran m.state (Some m.val))
stmt_done (return e) s = and_then (expr_made e s) (λ m. ran m.state (Some m.val))

-- statements one after the other: nothing runs behind a result
abbrev pub stmts_done : List Stmt → Ran → Option Ran
stmts_done [] r = Some r
stmts_done (x ∷ xs) r = and_then (when (not (is_some r.result)) (stmt_done x r.state)) (stmts_done xs)
