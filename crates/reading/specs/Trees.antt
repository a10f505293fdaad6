-- The trees of expressions: their tokens without layout, what stands in brackets as one tree.
use Rattle.std.specs.Prelude.{ℕ, ◌+◌, ◌-◌, ◌*◌, ◌/◌, ◌^◌, Bool, true, false, cond, ◌&&◌, List, [], ◌∷◌, ◌++◌, length, ℤ, Some, None, codes, decimal, Option, ◌==◌, nat_le}
use Rattle.dump.specs.declared.kinds.ViewKind.{ViewKind}
use Rattle.dump.specs.Heaps as heaps
use Rattle.dump.specs.Heaps.{Text, Value, Key, index, name}
use Rattle.dump.specs.Kinds.{width}
use Rattle.numeral.specs.Numerals.{finite}
use Rattle.numeral.specs.Words.{same_units}
use Rattle.script.specs.Items.{signed_decimal}
use Rattle.script.specs.Syntax as syntax
use Rattle.script.specs.Syntax.{Form, named, buffer_of_named, circular, new_boolean, new_number, new_bigint, new_string, new_regexp, new_date, new_array, empty_map_form, empty_set_form, buffer_form, new_resizable, data_buffer, new_typed, typed_part, subarray, braces, brackets, map_group, set_group, error_group, view_group, Expr, value, form, group, Items, none, item, keyed, pair}
use Rattle.script.specs.Texts.{view_name, error_word, Listing, numbers, floats, listing, flag_letters, low_first, all_zero, boolean_word}
use Rattle.evaluator.specs.Tokens.{word, number, string, mark}
use Rattle.evaluator.specs.Trees.{Tree, leaf, node, Trees, nil, cons}
use Rattle.effects.specs.Tokens.{hex_text}

abbrev pub append_t : Trees → Trees → Trees
append_t nil us = us
append_t (cons t ts) us = cons t (append_t ts us)

abbrev pub one : Tree → Trees
one t = cons t nil

abbrev pub comma : Tree
comma = leaf (mark 44)

abbrev pub dot : Tree
dot = leaf (mark 46)

abbrev pub colon : Tree
colon = leaf (mark 58)

abbrev pub word_tree : List ℕ → Tree
word_tree w = leaf (word w)

abbrev pub name_tree : ℕ → Tree
name_tree n = leaf (word (118 ∷ decimal n))

abbrev pub number_tree : ℕ → Tree
number_tree n = leaf (number (decimal n))

-- new W(..), before more
abbrev pub new_trees : List ℕ → Trees → Trees → Trees
new_trees w args rest = cons (word_tree (codes "new")) (cons (word_tree w) (cons (node 40 args) rest))

-- .w, and .w(..), before more
abbrev pub member : List ℕ → Trees → Trees
member w rest = cons dot (cons (word_tree w) rest)

-- one element of a list
abbrev pub element_text : Bool → Bool → ℕ → ℕ → List ℕ
element_text minus big w n = cond (minus && nat_le (2 ^ (8 * w - 1)) n) (hex_text true (2 ^ (8 * w) - n) big) (hex_text false n big)

-- each with a comma; the bytes of an element that were seen wait
abbrev pub list_trees : Bool → Bool → ℕ → List ℕ → List ℕ → Trees
list_trees minus big w seen [] = nil
list_trees minus big w seen (x ∷ xs) =
    cond (length seen + 1 == w) (cons (leaf (number (element_text minus big w (low_first (seen ++ (x ∷ [])))))) (cons comma (list_trees minus big w [] xs)))
    (list_trees minus big w (seen ++ (x ∷ [])) xs)

abbrev pub list_of_trees : Listing → ℕ → List ℕ → Trees
list_of_trees (numbers minus big) w bytes = one (node 91 (list_trees minus big w [] bytes))
list_of_trees floats w bytes = new_trees (codes "Uint8Array") (one (node 91 (list_trees false false 1 [] bytes))) (member (codes "buffer") nil)

abbrev pub content_trees : ViewKind → List ℕ → Trees
content_trees k [] = nil
content_trees k (x ∷ xs) = cond (all_zero (x ∷ xs)) (one (number_tree (length (x ∷ xs) / width k))) (list_of_trees (listing k) (width k) (x ∷ xs))

abbrev pub not_finite_trees : ℕ → Trees
not_finite_trees bits =
    cond (bits == 9218868437227405312) (one (word_tree (codes "Infinity")))
    (cond (bits == 18442240474082181120) (cons (leaf (mark 45)) (one (word_tree (codes "Infinity"))))
    (one (word_tree (codes "NaN"))))

abbrev pub numeral_trees : Option (List ℕ) → Trees
numeral_trees None = nil
numeral_trees (Some t) = one (leaf (number t))

abbrev pub time_tree : Option ℤ → Tree
time_tree None = word_tree (codes "NaN")
time_tree (Some z) = leaf (number (signed_decimal z))

abbrev pub flag_trees : Text → Trees
flag_trees [] = nil
flag_trees (c ∷ cs) = cons comma (one (leaf (string (c ∷ cs))))

-- arguments that may be left out
abbrev pub argument_trees : Option ℕ → Trees
argument_trees None = nil
argument_trees (Some n) = cons comma (one (number_tree n))

abbrev pub first_trees : Option ℕ → Option ℕ → Trees
first_trees None None = nil
first_trees None (Some e) = one (number_tree e)
first_trees (Some s) e = cons (number_tree s) (argument_trees e)

-- a key in braces
abbrev pub key_tree : Key → Tree
key_tree (index n) = node 91 (one (number_tree n))
key_tree (name t) = cond (same_units t (codes "__proto__")) (node 91 (one (leaf (string t)))) (leaf (string t))

-- what stands in the square brackets behind a name
abbrev pub access_trees : Key → Trees
access_trees (index n) = one (number_tree n)
access_trees (name t) = one (leaf (string t))

abbrev pub message_trees : Option Text → Trees
message_trees None = nil
message_trees (Some t) = one (leaf (string t))

-- a message before a cause
abbrev pub message_tree : Option Text → Tree
message_tree None = word_tree (codes "undefined")
message_tree (Some t) = leaf (string t)

abbrev pub size_trees : ℕ → Trees
size_trees n = cond (n == 0) nil (one (number_tree n))

-- with the numerals of a speller
module _ (numeral : ℕ → Option (List ℕ)) where
  abbrev pub double_trees : ℕ → Trees
  double_trees bits = cond (finite bits) (numeral_trees (numeral bits)) (not_finite_trees bits)

  abbrev pub value_trees : Value → Trees
  value_trees heaps.undefined = one (word_tree (codes "undefined"))
  value_trees heaps.null = one (word_tree (codes "null"))
  value_trees heaps.hole = nil
  value_trees (heaps.boolean b) = one (word_tree (boolean_word b))
  value_trees (heaps.whole z) = one (leaf (number (signed_decimal z)))
  value_trees (heaps.double bits) = double_trees bits
  value_trees (heaps.bigint t) = one (leaf (number (t ++ (110 ∷ []))))
  value_trees (heaps.text t) = one (leaf (string t))
  value_trees (heaps.object o) = one (name_tree o)

  abbrev pub form_trees : Form → Trees
  form_trees (named n) = one (name_tree n)
  form_trees (buffer_of_named n) = cons (name_tree n) (member (codes "buffer") nil)
  form_trees circular = one (word_tree (codes "undefined"))
  form_trees (new_boolean b) = new_trees (codes "Boolean") (one (word_tree (boolean_word b))) nil
  form_trees (new_number bits) = new_trees (codes "Number") (double_trees bits) nil
  form_trees (new_bigint t) = new_trees (codes "Object") (one (leaf (number (t ++ (110 ∷ []))))) nil
  form_trees (new_string t) = new_trees (codes "String") (one (leaf (string t))) nil
  form_trees (new_regexp t flags) = new_trees (codes "RegExp") (cons (leaf (string t)) (flag_trees (flag_letters flags))) nil
  form_trees (new_date time) = new_trees (codes "Date") (one (time_tree time)) nil
  form_trees (new_array n) = new_trees (codes "Array") (one (number_tree n)) nil
  form_trees empty_map_form = new_trees (codes "Map") nil nil
  form_trees empty_set_form = new_trees (codes "Set") nil nil
  form_trees (buffer_form n) = new_trees (codes "ArrayBuffer") (size_trees n) nil
  form_trees (new_resizable n m) =
      new_trees (codes "ArrayBuffer") (cons (number_tree n) (cons comma (one (node 123 (cons (word_tree (codes "maxByteLength")) (cons colon (one (number_tree m)))))))) nil
  form_trees (data_buffer k bytes) = new_trees (view_name k) (content_trees k bytes) (member (codes "buffer") nil)
  form_trees (new_typed k bytes) = new_trees (view_name k) (content_trees k bytes) nil
  form_trees (typed_part k bytes s e) =
      new_trees (view_name k) (content_trees k bytes) (member (codes "subarray") (one (node 40 (cons (number_tree s) (cons comma (one (number_tree e)))))))
  form_trees (subarray n s e) = cons (name_tree n) (member (codes "subarray") (one (node 40 (first_trees s e))))

  abbrev mutual
    pub expr_trees : Expr → Trees
    expr_trees (value v) = value_trees v
    expr_trees (form f) = form_trees f
    expr_trees (group braces is) = one (node 123 (row_trees is))
    expr_trees (group brackets is) = one (node 91 (row_trees is))
    expr_trees (group map_group is) = new_trees (codes "Map") (one (node 91 (row_trees is))) nil
    expr_trees (group set_group is) = new_trees (codes "Set") (one (node 91 (row_trees is))) nil
    expr_trees (group (error_group n m) is) = new_trees (error_word n) (error_trees is m) nil
    expr_trees (group (view_group k o n) is) = new_trees (view_name k) (append_t (inside_trees is) (append_t (argument_trees o) (argument_trees n))) nil

    -- one row each, with a comma
    pub row_trees : Items → Trees
    row_trees none = nil
    row_trees (syntax.hole is) = cons comma (row_trees is)
    row_trees (item e is) = append_t (expr_trees e) (cons comma (row_trees is))
    row_trees (keyed k e is) = cons (key_tree k) (cons colon (append_t (expr_trees e) (cons comma (row_trees is))))
    row_trees (pair e f is) = cons (node 91 (append_t (expr_trees e) (cons comma (expr_trees f)))) (cons comma (row_trees is))

    -- the arguments of an error: its message, and a cause in braces
    pub error_trees : Items → Option Text → Trees
    error_trees none m = message_trees m
    error_trees (syntax.hole is) m = message_trees m
    error_trees (item e is) m = cons (message_tree m) (cons comma (one (node 123 (cons (word_tree (codes "cause")) (cons colon (append_t (expr_trees e) (one comma)))))))
    error_trees (keyed k e is) m = message_trees m
    error_trees (pair e f is) m = message_trees m

    -- the one expression inside
    pub inside_trees : Items → Trees
    inside_trees none = nil
    inside_trees (syntax.hole is) = nil
    inside_trees (item e is) = expr_trees e
    inside_trees (keyed k e is) = nil
    inside_trees (pair e f is) = nil
