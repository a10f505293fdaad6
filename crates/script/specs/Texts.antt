-- The text of a statement, as items: every form, key, list and indent.
use Rattle.std.specs.Prelude.{ℕ, ◌+◌, ◌-◌, ◌*◌, ◌/◌, ◌%◌, ◌^◌, Bool, true, false, cond, ◌&&◌, List, [], ◌∷◌, ◌++◌, length, ℤ, pos, Some, None, codes, decimal, Option, ◌==◌, nat_le}
use Rattle.dump.specs.declared.kinds.ViewKind.{ViewKind}
use Rattle.dump.specs.declared.kinds.ViewKind.TheVariants.{Int8Array, Uint8Array, Uint8ClampedArray, Int16Array, Uint16Array, Int32Array, Uint32Array, Float32Array, Float64Array, BigInt64Array, BigUint64Array, DataView}
use Rattle.dump.specs.declared.kinds.ErrorName.{ErrorName}
use Rattle.dump.specs.declared.kinds.ErrorName.TheVariants.{Error, EvalError, RangeError, ReferenceError, SyntaxError, TypeError, UriError}
use Rattle.dump.specs.Heaps as heaps
use Rattle.dump.specs.Heaps.{Text, Value, Key, index, name}
use Rattle.dump.specs.Kinds.{width}
use Rattle.numeral.specs.Words.{same_units}
use Rattle.script.specs.Items.{Item, word, mark, text, whole, double, bigint, hex, blanks, line_end, comment}
use Rattle.script.specs.Syntax.{Form, named, buffer_of_named, circular, new_boolean, new_number, new_bigint, new_string, new_regexp, new_date, new_array, empty_map_form, empty_set_form, buffer_form, new_resizable, data_buffer, new_typed, typed_part, subarray, braces, brackets, map_group, set_group, error_group, view_group, Expr, value, form, group, Items, none, hole, item, keyed, pair, Stmt, opening, const, assign, put, add, fill, last, return}

-- the constructor of a view kind and of an error
abbrev pub view_name : ViewKind → List ℕ
view_name Int8Array = codes "Int8Array"
view_name Uint8Array = codes "Uint8Array"
view_name Uint8ClampedArray = codes "Uint8ClampedArray"
view_name Int16Array = codes "Int16Array"
view_name Uint16Array = codes "Uint16Array"
view_name Int32Array = codes "Int32Array"
view_name Uint32Array = codes "Uint32Array"
view_name Float32Array = codes "Float32Array"
view_name Float64Array = codes "Float64Array"
view_name BigInt64Array = codes "BigInt64Array"
view_name BigUint64Array = codes "BigUint64Array"
view_name DataView = codes "DataView"

abbrev pub error_word : ErrorName → List ℕ
error_word Error = codes "Error"
error_word EvalError = codes "EvalError"
error_word RangeError = codes "RangeError"
error_word ReferenceError = codes "ReferenceError"
error_word SyntaxError = codes "SyntaxError"
error_word TypeError = codes "TypeError"
error_word UriError = codes "URIError"

-- how the elements of a kind are listed
pub data Listing : Type 0 where
  -- in hexadecimal: below zero too, as BigInts
  numbers : Bool → Bool → Listing
  -- as the bytes of a Uint8Array
  floats : Listing

abbrev pub listing : ViewKind → Listing
listing Int8Array = numbers true false
listing Uint8Array = numbers false false
listing Uint8ClampedArray = numbers false false
listing Int16Array = numbers true false
listing Uint16Array = numbers false false
listing Int32Array = numbers true false
listing Uint32Array = numbers false false
listing Float32Array = floats
listing Float64Array = floats
listing BigInt64Array = numbers true true
listing BigUint64Array = numbers false true
listing DataView = numbers false false

-- the letters of a RegExp's flags, d g i m s u v y
abbrev pub flag_letters : ℕ → Text
flag_letters n = at 128 100 ++ (at 1 103 ++ (at 2 105 ++ (at 4 109 ++ (at 32 115 ++ (at 16 117 ++ (at 256 118 ++ at 8 121))))))
  where
    at : ℕ → ℕ → Text
    at power letter = cond (n / power % 2 == 1) (letter ∷ []) []

-- two blanks a level
abbrev pub indent : ℕ → List Item
indent n = blanks (2 * n) ∷ []

abbrev pub name_item : ℕ → Item
name_item n = word (118 ∷ decimal n)

abbrev pub number : ℕ → Item
number n = whole (pos n)

-- new W(, and W) behind it
abbrev pub opens : List ℕ → List Item
opens w = word (codes "new") ∷ blanks 1 ∷ word w ∷ mark 40 ∷ []

-- low byte first, at most 8 bytes
abbrev pub low_first : List ℕ → ℕ
low_first [] = 0
low_first (x ∷ xs) = x + low_first xs * 256

-- the first w bytes as one element of a list
abbrev pub element_item : Bool → Bool → ℕ → ℕ → Item
element_item below big w n = cond (below && nat_le (2 ^ (8 * w - 1)) n) (hex true (2 ^ (8 * w) - n) big) (hex false n big)

-- The rows of a list: eight elements a row, each with a comma. The bytes of an element that were seen wait; so many elements stand in the row.
pub record Row : Type 0 where
  pub seen : List ℕ
  pub filled : ℕ

abbrev pub is_whole : ℕ → Row → Bool
is_whole w r = length r.seen + 1 == w

-- what one byte more makes, and the row after it
abbrev pub element_at : Bool → Bool → ℕ → ℕ → Row → ℕ → List Item
element_at minus big w level r x =
    cond (r.filled == 0) (indent level) (blanks 1 ∷ [])
    ++ (element_item minus big w (low_first (r.seen ++ (x ∷ []))) ∷ mark 44 ∷ cond (r.filled == 7) (line_end ∷ []) [])

abbrev pub row_after : ℕ → Row → ℕ → Row
row_after w r x =
    cond (is_whole w r) (record { seen = []; filled = cond (r.filled == 7) 0 (r.filled + 1) })
    (record { seen = r.seen ++ (x ∷ []); filled = r.filled })

abbrev pub list_rows : Bool → Bool → ℕ → ℕ → Row → List ℕ → List Item
list_rows minus big w level r [] = cond (r.filled == 0) [] (line_end ∷ [])
list_rows minus big w level r (x ∷ xs) = cond (is_whole w r) (element_at minus big w level r x) [] ++ list_rows minus big w level (row_after w r x) xs

abbrev pub no_row : Row
no_row = record { seen = []; filled = 0 }

-- [..] of the bytes of a list, at an indent
abbrev pub list_items : Bool → Bool → ℕ → ℕ → List ℕ → List Item
list_items below big w level bytes = mark 91 ∷ line_end ∷ (list_rows below big w (level + 1) no_row bytes ++ (indent level ++ (mark 93 ∷ [])))

abbrev pub list_of : Listing → ℕ → ℕ → List ℕ → List Item
list_of (numbers below big) w level bytes = list_items below big w level bytes
list_of floats w level bytes = opens (codes "Uint8Array") ++ list_items false false 1 level bytes ++ (mark 41 ∷ mark 46 ∷ word (codes "buffer") ∷ [])

abbrev pub all_zero : List ℕ → Bool
all_zero [] = true
all_zero (x ∷ xs) = x == 0 && all_zero xs

-- what stands in the brackets of a typed array with data: nothing, a count if all is zero, or a list
abbrev pub content : ViewKind → ℕ → List ℕ → List Item
content k level [] = []
content k level (x ∷ xs) = cond (all_zero (x ∷ xs)) (number (length (x ∷ xs) / width k) ∷ []) (list_of (listing k) (width k) level (x ∷ xs))

abbrev pub boolean_word : Bool → List ℕ
boolean_word true = codes "true"
boolean_word false = codes "false"

abbrev pub value_item : Value → Item
value_item heaps.undefined = word (codes "undefined")
value_item heaps.null = word (codes "null")
value_item heaps.hole = comment (codes "hole")
value_item (heaps.boolean v) = word (boolean_word v)
value_item (heaps.whole z) = whole z
value_item (heaps.double bits) = double bits
value_item (heaps.bigint t) = bigint t
value_item (heaps.text t) = text t
value_item (heaps.object o) = name_item o

abbrev pub time_item : Option ℤ → Item
time_item None = word (codes "NaN")
time_item (Some z) = whole z

abbrev pub flag_items : Text → List Item
flag_items [] = []
flag_items (c ∷ cs) = mark 44 ∷ blanks 1 ∷ text (c ∷ cs) ∷ []

-- arguments that may be left out
abbrev pub argument : Option ℕ → List Item
argument None = []
argument (Some n) = mark 44 ∷ blanks 1 ∷ number n ∷ []

abbrev pub first_arguments : Option ℕ → Option ℕ → List Item
first_arguments None None = []
first_arguments None (Some e) = number e ∷ []
first_arguments (Some s) e = number s ∷ argument e

abbrev pub form_items : Form → ℕ → List Item
form_items (named n) l = name_item n ∷ []
form_items (buffer_of_named n) l = name_item n ∷ mark 46 ∷ word (codes "buffer") ∷ []
form_items circular l = word (codes "undefined") ∷ blanks 1 ∷ comment (codes "circular") ∷ []
form_items (new_boolean v) l = opens (codes "Boolean") ++ (word (boolean_word v) ∷ mark 41 ∷ [])
form_items (new_number bits) l = opens (codes "Number") ++ (double bits ∷ mark 41 ∷ [])
form_items (new_bigint t) l = opens (codes "Object") ++ (bigint t ∷ mark 41 ∷ [])
form_items (new_string t) l = opens (codes "String") ++ (text t ∷ mark 41 ∷ [])
form_items (new_regexp t flags) l = opens (codes "RegExp") ++ (text t ∷ flag_items (flag_letters flags)) ++ (mark 41 ∷ [])
form_items (new_date time) l = opens (codes "Date") ++ (time_item time ∷ mark 41 ∷ [])
form_items (new_array n) l = opens (codes "Array") ++ (number n ∷ mark 41 ∷ [])
form_items empty_map_form l = opens (codes "Map") ++ (mark 41 ∷ line_end ∷ [])
form_items empty_set_form l = opens (codes "Set") ++ (mark 41 ∷ line_end ∷ [])
form_items (buffer_form n) l = opens (codes "ArrayBuffer") ++ cond (n == 0) [] (number n ∷ []) ++ (mark 41 ∷ [])
form_items (new_resizable n m) l =
    opens (codes "ArrayBuffer")
    ++ (number n ∷ mark 44 ∷ blanks 1 ∷ mark 123 ∷ blanks 1 ∷ word (codes "maxByteLength") ∷ mark 58 ∷ blanks 1 ∷ number m ∷ blanks 1 ∷ mark 125 ∷ mark 41 ∷ [])
form_items (data_buffer k bytes) l = opens (view_name k) ++ content k l bytes ++ (mark 41 ∷ mark 46 ∷ word (codes "buffer") ∷ [])
form_items (new_typed k bytes) l = opens (view_name k) ++ content k l bytes ++ (mark 41 ∷ [])
form_items (typed_part k bytes s e) l =
    opens (view_name k) ++ content k l bytes
    ++ (mark 41 ∷ mark 46 ∷ word (codes "subarray") ∷ mark 40 ∷ number s ∷ mark 44 ∷ blanks 1 ∷ number e ∷ mark 41 ∷ [])
form_items (subarray n s e) l = name_item n ∷ mark 46 ∷ word (codes "subarray") ∷ mark 40 ∷ (first_arguments s e ++ (mark 41 ∷ []))

-- a key in braces: __proto__ as a text in square brackets, since without them it would set the prototype
abbrev pub key_items : Key → List Item
key_items (index n) = mark 91 ∷ number n ∷ mark 93 ∷ []
key_items (name t) = cond (same_units t (codes "__proto__")) (mark 91 ∷ text t ∷ mark 93 ∷ []) (text t ∷ [])

-- a key behind a name
abbrev pub access_items : Key → List Item
access_items (index n) = mark 91 ∷ number n ∷ mark 93 ∷ []
access_items (name t) = mark 91 ∷ text t ∷ mark 93 ∷ []

abbrev pub message_items : Option Text → List Item
message_items None = []
message_items (Some t) = text t ∷ []

-- in the place of a message that there is not
abbrev pub cause_front : Option Text → List Item
cause_front None = word (codes "undefined") ∷ []
cause_front (Some t) = []

abbrev mutual
  -- an expression at an indent
  pub expr_items : Expr → ℕ → List Item
  expr_items (value v) l = value_item v ∷ []
  expr_items (form f) l = form_items f l
  expr_items (group braces is) l = mark 123 ∷ line_end ∷ (row_items is (l + 1) ++ (indent l ++ (mark 125 ∷ [])))
  expr_items (group brackets is) l = mark 91 ∷ line_end ∷ (row_items is (l + 1) ++ (indent l ++ (mark 93 ∷ [])))
  expr_items (group map_group is) l = opens (codes "Map") ++ (mark 91 ∷ line_end ∷ (row_items is (l + 1) ++ (indent l ++ (mark 93 ∷ mark 41 ∷ []))))
  expr_items (group set_group is) l = opens (codes "Set") ++ (mark 91 ∷ line_end ∷ (row_items is (l + 1) ++ (indent l ++ (mark 93 ∷ mark 41 ∷ []))))
  expr_items (group (error_group n m) is) l = opens (error_word n) ++ (message_items m ++ (cause_items is m l ++ (mark 41 ∷ [])))
  expr_items (group (view_group k o n) is) l = opens (view_name k) ++ (inside_items is l ++ (argument o ++ (argument n ++ (mark 41 ∷ []))))

  -- one row each, with a comma
  pub row_items : Items → ℕ → List Item
  row_items none l = []
  row_items (hole is) l = indent l ++ (comment (codes "hole") ∷ mark 44 ∷ line_end ∷ row_items is l)
  row_items (item e is) l = indent l ++ (expr_items e l ++ (mark 44 ∷ line_end ∷ row_items is l))
  row_items (keyed k e is) l = indent l ++ (key_items k ++ (mark 58 ∷ blanks 1 ∷ (expr_items e l ++ (mark 44 ∷ line_end ∷ row_items is l))))
  row_items (pair e f is) l = indent l ++ (mark 91 ∷ (expr_items e l ++ (mark 44 ∷ blanks 1 ∷ (expr_items f l ++ (mark 93 ∷ mark 44 ∷ line_end ∷ row_items is l)))))

  -- the cause of an error, as an option behind its message
  pub cause_items : Items → Option Text → ℕ → List Item
  cause_items none m l = []
  cause_items (hole is) m l = []
  cause_items (item e is) m l = cause_front m ++ (mark 44 ∷ blanks 1 ∷ mark 123 ∷ line_end ∷ (indent (l + 1) ++ (word (codes "cause") ∷ mark 58 ∷ blanks 1 ∷ (expr_items e (l + 1) ++ (mark 44 ∷ line_end ∷ (indent l ++ (mark 125 ∷ [])))))))
  cause_items (keyed k e is) m l = []
  cause_items (pair e f is) m l = []

  -- the one expression inside
  pub inside_items : Items → ℕ → List Item
  inside_items none l = []
  inside_items (hole is) l = []
  inside_items (item e is) l = expr_items e l
  inside_items (keyed k e is) l = []
  inside_items (pair e f is) l = []

-- the list of a bytes line: data that is all zero has no such line
abbrev pub fill_items : ViewKind → ℕ → List ℕ → List Item
fill_items k l bytes = list_of (listing k) (width k) l bytes

-- A statement with its line end; `base` is 1 inside a function, else 0. A bytes line begins without indent.
abbrev pub stmt_items : ℕ → Stmt → List Item
stmt_items base opening = mark 40 ∷ word (codes "function") ∷ mark 40 ∷ mark 41 ∷ blanks 1 ∷ mark 123 ∷ line_end ∷ []
stmt_items base (const n e) = indent base ++ (word (codes "const") ∷ blanks 1 ∷ name_item n ∷ blanks 1 ∷ mark 61 ∷ blanks 1 ∷ (expr_items e base ++ (mark 59 ∷ line_end ∷ [])))
stmt_items base (assign n k e) = indent base ++ (name_item n ∷ (access_items k ++ (blanks 1 ∷ mark 61 ∷ blanks 1 ∷ (expr_items e base ++ (mark 59 ∷ line_end ∷ [])))))
stmt_items base (put n e f) = indent base ++ (name_item n ∷ mark 46 ∷ word (codes "set") ∷ mark 40 ∷ (expr_items e base ++ (mark 44 ∷ blanks 1 ∷ (expr_items f base ++ (mark 41 ∷ mark 59 ∷ line_end ∷ [])))))
stmt_items base (add n e) = indent base ++ (name_item n ∷ mark 46 ∷ word (codes "add") ∷ mark 40 ∷ (expr_items e base ++ (mark 41 ∷ mark 59 ∷ line_end ∷ [])))
stmt_items base (fill n k bytes) = opens (view_name k) ++ (name_item n ∷ mark 41 ∷ mark 46 ∷ word (codes "set") ∷ mark 40 ∷ (fill_items k base bytes ++ (mark 41 ∷ mark 59 ∷ line_end ∷ [])))
stmt_items base (last true e) = indent base ++ (mark 40 ∷ (expr_items e base ++ (mark 41 ∷ [])))
stmt_items base (last false e) = indent base ++ expr_items e base
stmt_items base (return e) = indent base ++ (word (codes "return") ∷ blanks 1 ∷ (expr_items e base ++ (line_end ∷ mark 125 ∷ mark 41 ∷ mark 40 ∷ mark 41 ∷ [])))
