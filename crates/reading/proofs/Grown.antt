-- The tokens of an expression grow into its trees: layout vanishes, and brackets open and close.
use Rattle.std.proofs.Common.{◌≡◌, ℕ, ◌+◌, ◌-◌, ◌*◌, ◌/◌, ◌^◌, Bool, true, false, cond, ◌&&◌, eqb, leb, List, [], ◌∷◌, ◌++◌, length, ℤ, Some, None, codes, Option, sym, refl, ap, ◌∙◌, append_assoc}
use Rattle.dump.specs.declared.kinds.ViewKind.{ViewKind}
use Rattle.dump.specs.Heaps as heaps
use Rattle.dump.specs.Heaps.{Text, Value, Key, index, name}
use Rattle.dump.specs.Kinds.{width}
use Rattle.numeral.specs.Numerals.{finite}
use Rattle.numeral.specs.Words.{same_units}
use Rattle.script.specs.Items as items
use Rattle.script.specs.Items.{Item, blanks, line_end}
use Rattle.script.specs.Syntax as syntax
use Rattle.script.specs.Syntax.{Form, named, buffer_of_named, circular, new_boolean, new_number, new_bigint, new_string, new_regexp, new_date, new_array, empty_map_form, empty_set_form, buffer_form, new_resizable, data_buffer, new_typed, typed_part, subarray, braces, brackets, map_group, set_group, error_group, view_group, Expr, value, form, group, Items, none, item, keyed, pair}
use Rattle.script.specs.Texts.{view_name, error_word, Listing, numbers, floats, listing, flag_letters, indent, number, low_first, element_item, Row, element_at, list_rows, no_row, list_items, list_of, all_zero, content, value_item, time_item, flag_items, argument, first_arguments, form_items, key_items, message_items, expr_items, row_items, cause_items, inside_items}
use Rattle.evaluator.specs.Tokens.{Token, word, string, mark}
use Rattle.evaluator.specs.Trees.{Tree, leaf, node, Trees, nil, cons, snoc, Open, held, growing, grow}
use Rattle.effects.specs.Tokens.{hex_text, not_finite_tokens, numeral_tokens, item_tokens, items_tokens}
use Rattle.reading.specs.Trees.{append_t, one, comma, colon, word_tree, name_tree, number_tree, new_trees, member, element_text, list_trees, list_of_trees, content_trees, not_finite_trees, numeral_trees, time_tree, flag_trees, argument_trees, first_trees, key_tree, message_trees, message_tree, size_trees, double_trees, value_trees, form_trees, expr_trees, row_trees, error_trees, inside_trees}

-- trees behind trees

pub append-nil : (ts : Trees) → append_t ts nil ≡ ts
append-nil nil = refl
append-nil (cons t ts) = ap (cons t) (append-nil ts)

pub append_t_assoc : (ts us vs : Trees) → append_t (append_t ts us) vs ≡ append_t ts (append_t us vs)
append_t_assoc nil us vs = refl
append_t_assoc (cons t ts) us vs = ap (cons t) (append_t_assoc ts us vs)

pub push : (ts : Trees) (t : Tree) (us : Trees) → append_t (snoc ts t) us ≡ append_t ts (cons t us)
push nil t us = refl
push (cons x ts) t us = ap (cons x) (push ts t us)

-- one after the other
abbrev pub snocs : Trees → Trees → Trees
snocs ts nil = ts
snocs ts (cons t us) = snocs (snoc ts t) us

pub snocs_append : (us ts : Trees) → snocs ts us ≡ append_t ts us
snocs_append nil ts = sym (append-nil ts)
snocs_append (cons t us) ts = snocs_append us (snoc ts t) ∙ push ts t us

module _ (numeral : ℕ → Option (List ℕ)) where
  pub tokens_append : (xs ys : List Item) (rest : List Token) → items_tokens numeral (xs ++ ys) ++ rest ≡ items_tokens numeral xs ++ (items_tokens numeral ys ++ rest)
  tokens_append [] ys rest = refl
  tokens_append (x ∷ xs) ys rest =
      append_assoc (item_tokens numeral x) (items_tokens numeral (xs ++ ys)) rest
      ∙ (ap (λ z. item_tokens numeral x ++ z) (tokens_append xs ys rest)
      ∙ sym (append_assoc (item_tokens numeral x) (items_tokens numeral xs) (items_tokens numeral ys ++ rest)))

  -- these items grow into these trees, whatever comes before and behind
  abbrev pub Sprouts : List Item → Trees → Type 0
  Sprouts is us = (rest : List Token) (ts : Trees) (st : List Open) → grow (items_tokens numeral is ++ rest) (growing ts st) ≡ grow rest (growing (append_t ts us) st)

  -- trees that came one by one
  ripe : (us : Trees) (rest : List Token) (ts : Trees) (st : List Open) → grow rest (growing (snocs ts us) st) ≡ grow rest (growing (append_t ts us) st)
  ripe us rest ts st = ap (λ z. grow rest (growing z st)) (snocs_append us ts)

  -- the first of two
  pub first : (xs : List Item) (us : Trees) → Sprouts xs us → (ys : List Item) (rest : List Token) (ts : Trees) (st : List Open) → grow (items_tokens numeral (xs ++ ys) ++ rest) (growing ts st) ≡ grow (items_tokens numeral ys ++ rest) (growing (append_t ts us) st)
  first xs us s ys rest ts st = ap (λ z. grow z (growing ts st)) (tokens_append xs ys rest) ∙ s (items_tokens numeral ys ++ rest) ts st

  pub both : (xs ys : List Item) (us vs : Trees) → Sprouts xs us → Sprouts ys vs → Sprouts (xs ++ ys) (append_t us vs)
  both xs ys us vs s t rest ts st =
      first xs us s ys rest ts st ∙ (t rest (append_t ts us) st ∙ ap (λ z. grow rest (growing z st)) (append_t_assoc ts us vs))

  layout : Sprouts [] nil
  layout rest ts st = ripe nil rest ts st

  -- a list of elements
  layout_or : (b : Bool) (xs ys : List Item) → Sprouts xs nil → Sprouts ys nil → Sprouts (cond b xs ys) nil
  layout_or true xs ys s t = s
  layout_or false xs ys s t = t

  element_grows : (b : Bool) (minus : ℕ) (n : ℕ) (big : Bool) (is : List Item) (us : Trees) → Sprouts is us
      → Sprouts (cond b (items.hex true minus big) (items.hex false n big) ∷ is) (cons (leaf (Token.number (cond b (hex_text true minus big) (hex_text false n big)))) us)
  element_grows true m n big is us s rest ts st = s rest (snoc ts _) st ∙ ap (λ z. grow rest (growing z st)) (push ts _ us)
  element_grows false m n big is us s rest ts st = s rest (snoc ts _) st ∙ ap (λ z. grow rest (growing z st)) (push ts _ us)

  comma_grows : (is : List Item) (us : Trees) → Sprouts is us → Sprouts (items.mark 44 ∷ is) (cons comma us)
  comma_grows is us s rest ts st = s rest (snoc ts comma) st ∙ ap (λ z. grow rest (growing z st)) (push ts comma us)

  element_at_lem : (minus big : Bool) (w level : ℕ) (r : Row) (x : ℕ) → Sprouts (element_at minus big w level r x) (cons (leaf (Token.number (element_text minus big w (low_first (r.seen ++ (x ∷ [])))))) (one comma))
  element_at_lem minus big w level r x =
      let end : List Item = cond (eqb r.filled 7) (line_end ∷ []) [] in
      let n : ℕ = low_first (r.seen ++ (x ∷ [])) in
      both (cond (eqb r.filled 0) (indent level) (blanks 1 ∷ [])) (element_item minus big w n ∷ items.mark 44 ∷ end) nil (cons (leaf (Token.number (element_text minus big w n))) (one comma))
      (layout_or (eqb r.filled 0) (indent level) (blanks 1 ∷ []) layout layout)
      (element_grows (minus && leb (2 ^ (8 * w - 1)) n) (2 ^ (8 * w) - n) n big (items.mark 44 ∷ end) (one comma) (comma_grows end nil (layout_or (eqb r.filled 7) (line_end ∷ []) [] layout layout)))

  list_rows_lem : (minus big : Bool) (w level : ℕ) (bytes : List ℕ) (r : Row) → Sprouts (list_rows minus big w level r bytes) (list_trees minus big w r.seen bytes)
  list_rows_lem minus big w level [] r = layout_or (eqb r.filled 0) [] (line_end ∷ []) layout layout
  list_rows_lem minus big w level (x ∷ xs) r = go (eqb (length r.seen + 1) w) (list_rows_lem minus big w level xs)
    where
      go : (b : Bool) → ((q : Row) → Sprouts (list_rows minus big w level q xs) (list_trees minus big w q.seen xs))
          → Sprouts
          (cond b (element_at minus big w level r x) []
          ++ list_rows minus big w level (cond b (record { seen = []; filled = cond (eqb r.filled 7) 0 (r.filled + 1) }) (record { seen = r.seen ++ (x ∷ []); filled = r.filled })) xs)
          (cond b (cons (leaf (Token.number (element_text minus big w (low_first (r.seen ++ (x ∷ [])))))) (cons comma (list_trees minus big w [] xs))) (list_trees minus big w (r.seen ++ (x ∷ [])) xs))
      go true ih = both (element_at minus big w level r x) (list_rows minus big w level (record { seen = []; filled = cond (eqb r.filled 7) 0 (r.filled + 1) }) xs) (cons (leaf (Token.number (element_text minus big w (low_first (r.seen ++ (x ∷ [])))))) (one comma)) (list_trees minus big w [] xs) (element_at_lem minus big w level r x) (ih (record { seen = []; filled = cond (eqb r.filled 7) 0 (r.filled + 1) }))
      go false ih = ih (record { seen = r.seen ++ (x ∷ []); filled = r.filled })

  list_grows : (minus big : Bool) (w level : ℕ) (bytes : List ℕ) → Sprouts (list_items minus big w level bytes) (one (node 91 (list_trees minus big w [] bytes)))
  list_grows minus big w level bytes rest ts st =
      first (list_rows minus big w (level + 1) no_row bytes) _ (list_rows_lem minus big w (level + 1) bytes no_row) _ rest nil (held 91 ts ∷ st) ∙ ripe (one (node 91 (list_trees minus big w [] bytes))) rest ts st

  pub listing_grows : (x : Listing) (w level : ℕ) (bytes : List ℕ) → Sprouts (list_of x w level bytes) (list_of_trees x w bytes)
  listing_grows (numbers minus big) w level bytes rest ts st = list_grows minus big w level bytes rest ts st
  listing_grows floats w level bytes rest ts st =
      first (list_items false false 1 level bytes) _ (list_grows false false 1 level bytes) _ rest nil (held 40 (snocs ts (cons (word_tree (codes "new")) (one (word_tree (codes "Uint8Array"))))) ∷ st)
      ∙ ripe (list_of_trees floats w bytes) rest ts st

  content_grows : (k : ViewKind) (level : ℕ) (bytes : List ℕ) → Sprouts (content k level bytes) (content_trees k bytes)
  content_grows k level [] = layout
  content_grows k level (x ∷ xs) = go (all_zero (x ∷ xs))
    where
      go : (b : Bool) → Sprouts (cond b (number (length (x ∷ xs) / width k) ∷ []) (list_of (listing k) (width k) level (x ∷ xs))) (cond b (one (number_tree (length (x ∷ xs) / width k))) (list_of_trees (listing k) (width k) (x ∷ xs)))
      go true rest ts st = ripe (one (number_tree (length (x ∷ xs) / width k))) rest ts st
      go false rest ts st = listing_grows (listing k) (width k) level (x ∷ xs) rest ts st

  -- doubles
  not_finite_grows : (a b : Bool) (rest : List Token) (ts : Trees) (st : List Open)
      → grow (cond a (word (codes "Infinity") ∷ []) (cond b (mark 45 ∷ word (codes "Infinity") ∷ []) (word (codes "NaN") ∷ [])) ++ rest) (growing ts st)
      ≡ grow rest (growing (append_t ts (cond a (one (word_tree (codes "Infinity"))) (cond b (cons (leaf (mark 45)) (one (word_tree (codes "Infinity")))) (one (word_tree (codes "NaN")))))) st)
  not_finite_grows true b rest ts st = ripe (one (word_tree (codes "Infinity"))) rest ts st
  not_finite_grows false true rest ts st = ripe (cons (leaf (mark 45)) (one (word_tree (codes "Infinity")))) rest ts st
  not_finite_grows false false rest ts st = ripe (one (word_tree (codes "NaN"))) rest ts st

  numeral_grows : (o : Option (List ℕ)) (rest : List Token) (ts : Trees) (st : List Open) → grow (numeral_tokens o ++ rest) (growing ts st) ≡ grow rest (growing (append_t ts (numeral_trees o)) st)
  numeral_grows None rest ts st = ripe nil rest ts st
  numeral_grows (Some t) rest ts st = ripe (one (leaf (Token.number t))) rest ts st

  double_tokens : (bits : ℕ) (rest : List Token) (ts : Trees) (st : List Open) → grow (item_tokens numeral (items.double bits) ++ rest) (growing ts st) ≡ grow rest (growing (append_t ts (double_trees numeral bits)) st)
  double_tokens bits rest ts st = go (finite bits)
    where
      go : (b : Bool) → grow (cond b (numeral_tokens (numeral bits)) (not_finite_tokens bits) ++ rest) (growing ts st) ≡ grow rest (growing (append_t ts (cond b (numeral_trees (numeral bits)) (not_finite_trees bits))) st)
      go true = numeral_grows (numeral bits) rest ts st
      go false = not_finite_grows (eqb bits 9218868437227405312) (eqb bits 18442240474082181120) rest ts st

  double_grows : (bits : ℕ) → Sprouts (items.double bits ∷ []) (double_trees numeral bits)
  double_grows bits rest ts st = ap (λ z. grow z (growing ts st)) (append_assoc (item_tokens numeral (items.double bits)) [] rest) ∙ double_tokens bits rest ts st

  value_grows : (v : Value) → Sprouts (value_item v ∷ []) (value_trees numeral v)
  value_grows heaps.undefined rest ts st = ripe (value_trees numeral heaps.undefined) rest ts st
  value_grows heaps.null rest ts st = ripe (value_trees numeral heaps.null) rest ts st
  value_grows heaps.hole rest ts st = ripe nil rest ts st
  value_grows (heaps.boolean b) rest ts st = ripe (value_trees numeral (heaps.boolean b)) rest ts st
  value_grows (heaps.whole z) rest ts st = ripe (value_trees numeral (heaps.whole z)) rest ts st
  value_grows (heaps.double bits) rest ts st = double_grows bits rest ts st
  value_grows (heaps.bigint t) rest ts st = ripe (value_trees numeral (heaps.bigint t)) rest ts st
  value_grows (heaps.text t) rest ts st = ripe (value_trees numeral (heaps.text t)) rest ts st
  value_grows (heaps.object o) rest ts st = ripe (value_trees numeral (heaps.object o)) rest ts st

  -- behind new W(
  abbrev opened : List ℕ → Trees → List Open → List Open
  opened w ts st = held 40 (snocs ts (cons (word_tree (codes "new")) (one (word_tree w)))) ∷ st

  flags_grow : (t : Text) → Sprouts (flag_items t) (flag_trees t)
  flags_grow [] rest ts st = layout rest ts st
  flags_grow (c ∷ cs) rest ts st = ripe (flag_trees (c ∷ cs)) rest ts st

  time_grows : (t : Option ℤ) → Sprouts (time_item t ∷ []) (one (time_tree t))
  time_grows None rest ts st = ripe (one (time_tree None)) rest ts st
  time_grows (Some z) rest ts st = ripe (one (time_tree (Some z))) rest ts st

  size_grows : (n : ℕ) → Sprouts (cond (eqb n 0) [] (number n ∷ [])) (size_trees n)
  size_grows n = go (eqb n 0)
    where
      go : (b : Bool) → Sprouts (cond b [] (number n ∷ [])) (cond b nil (one (number_tree n)))
      go true rest ts st = layout rest ts st
      go false rest ts st = ripe (one (number_tree n)) rest ts st

  argument_grows : (o : Option ℕ) → Sprouts (argument o) (argument_trees o)
  argument_grows None rest ts st = layout rest ts st
  argument_grows (Some n) rest ts st = ripe (argument_trees (Some n)) rest ts st

  first_grows : (s e : Option ℕ) → Sprouts (first_arguments s e) (first_trees s e)
  first_grows None None rest ts st = layout rest ts st
  first_grows None (Some n) rest ts st = ripe (one (number_tree n)) rest ts st
  first_grows (Some m) None rest ts st = ripe (one (number_tree m)) rest ts st
  first_grows (Some m) (Some n) rest ts st = ripe (first_trees (Some m) (Some n)) rest ts st

  form_grows : (f : Form) (l : ℕ) → Sprouts (form_items f l) (form_trees numeral f)
  form_grows (named n) l rest ts st = ripe (one (name_tree n)) rest ts st
  form_grows (buffer_of_named n) l rest ts st = ripe (form_trees numeral (buffer_of_named n)) rest ts st
  form_grows circular l rest ts st = ripe (form_trees numeral circular) rest ts st
  form_grows (new_boolean b) l rest ts st = ripe (form_trees numeral (new_boolean b)) rest ts st
  form_grows (new_number bits) l rest ts st = first (items.double bits ∷ []) _ (double_grows bits) (items.mark 41 ∷ []) rest nil (opened (codes "Number") ts st) ∙ ripe (form_trees numeral (new_number bits)) rest ts st
  form_grows (new_bigint t) l rest ts st = ripe (form_trees numeral (new_bigint t)) rest ts st
  form_grows (new_string t) l rest ts st = ripe (form_trees numeral (new_string t)) rest ts st
  form_grows (new_regexp t flags) l rest ts st =
      first (flag_items (flag_letters flags)) _ (flags_grow (flag_letters flags)) (items.mark 41 ∷ []) rest (one (leaf (string t))) (opened (codes "RegExp") ts st) ∙ ripe (form_trees numeral (new_regexp t flags)) rest ts st
  form_grows (new_date t) l rest ts st = first (time_item t ∷ []) _ (time_grows t) (items.mark 41 ∷ []) rest nil (opened (codes "Date") ts st) ∙ ripe (form_trees numeral (new_date t)) rest ts st
  form_grows (new_array n) l rest ts st = ripe (form_trees numeral (new_array n)) rest ts st
  form_grows empty_map_form l rest ts st = ripe (form_trees numeral empty_map_form) rest ts st
  form_grows empty_set_form l rest ts st = ripe (form_trees numeral empty_set_form) rest ts st
  form_grows (buffer_form n) l rest ts st =
      first (cond (eqb n 0) [] (number n ∷ [])) _ (size_grows n) (items.mark 41 ∷ []) rest nil (opened (codes "ArrayBuffer") ts st) ∙ ripe (form_trees numeral (buffer_form n)) rest ts st
  form_grows (new_resizable n m) l rest ts st = ripe (form_trees numeral (new_resizable n m)) rest ts st
  form_grows (data_buffer k bytes) l rest ts st = first (content k l bytes) _ (content_grows k l bytes) _ rest nil (opened (view_name k) ts st) ∙ ripe (form_trees numeral (data_buffer k bytes)) rest ts st
  form_grows (new_typed k bytes) l rest ts st = first (content k l bytes) _ (content_grows k l bytes) _ rest nil (opened (view_name k) ts st) ∙ ripe (form_trees numeral (new_typed k bytes)) rest ts st
  form_grows (typed_part k bytes s e) l rest ts st =
      first (content k l bytes) _ (content_grows k l bytes) _ rest nil (opened (view_name k) ts st) ∙ ripe (form_trees numeral (typed_part k bytes s e)) rest ts st
  form_grows (subarray n s e) l rest ts st =
      first (first_arguments s e) _ (first_grows s e) (items.mark 41 ∷ []) rest nil (held 40 (snocs ts (cons (name_tree n) (member (codes "subarray") nil))) ∷ st) ∙ ripe (form_trees numeral (subarray n s e)) rest ts st

  key_grows : (k : Key) → Sprouts (key_items k) (one (key_tree k))
  key_grows (index n) rest ts st = ripe (one (key_tree (index n))) rest ts st
  key_grows (name t) rest ts st = go (same_units t (codes "__proto__"))
    where
      go : (b : Bool) → grow (items_tokens numeral (cond b (items.mark 91 ∷ items.text t ∷ items.mark 93 ∷ []) (items.text t ∷ [])) ++ rest) (growing ts st)
          ≡ grow rest (growing (append_t ts (one (cond b (node 91 (one (leaf (string t)))) (leaf (string t))))) st)
      go true = ripe (one (node 91 (one (leaf (string t))))) rest ts st
      go false = ripe (one (leaf (string t))) rest ts st

  message_grows : (m : Option Text) → Sprouts (message_items m) (message_trees m)
  message_grows None rest ts st = layout rest ts st
  message_grows (Some t) rest ts st = ripe (one (leaf (string t))) rest ts st

  -- a cause in its braces
  cause_grows : (xs : List Item) (us : Trees) → Sprouts xs us → (l : ℕ) (ys : List Item) (rest : List Token) (m : Tree) (st : List Open)
      → grow (items_tokens numeral ((xs ++ (items.mark 44 ∷ line_end ∷ (indent l ++ (items.mark 125 ∷ [])))) ++ ys) ++ rest)
      (growing (cons (word_tree (codes "cause")) (one colon)) (held 123 (cons m (one comma)) ∷ st))
      ≡ grow (items_tokens numeral ys ++ rest) (growing (cons m (cons comma (one (node 123 (cons (word_tree (codes "cause")) (cons colon (append_t us (one comma)))))))) st)
  cause_grows xs us s l ys rest m st =
      ap (λ z. grow (items_tokens numeral z ++ rest) (growing (cons (word_tree (codes "cause")) (one colon)) (held 123 (cons m (one comma)) ∷ st))) (append_assoc xs (items.mark 44 ∷ line_end ∷ (indent l ++ (items.mark 125 ∷ []))) ys)
      ∙ (first xs us s (items.mark 44 ∷ line_end ∷ (indent l ++ (items.mark 125 ∷ ys))) rest (cons (word_tree (codes "cause")) (one colon)) (held 123 (cons m (one comma)) ∷ st)
      ∙ ap (λ z. grow (items_tokens numeral ys ++ rest) (growing (cons m (cons comma (one (node 123 (cons (word_tree (codes "cause")) (cons colon z)))))) st)) (snocs_append (one comma) us))

  mutual
    pub expr_grows : (e : Expr) (l : ℕ) → Sprouts (expr_items e l) (expr_trees numeral e)
    expr_grows (value v) l rest ts st = value_grows v rest ts st
    expr_grows (form f) l rest ts st = form_grows f l rest ts st
    expr_grows (group braces is) l rest ts st =
        first (row_items is (l + 1)) _ (rows_grow is (l + 1)) (indent l ++ (items.mark 125 ∷ [])) rest nil (held 123 ts ∷ st) ∙ ripe (one (node 123 (row_trees numeral is))) rest ts st
    expr_grows (group brackets is) l rest ts st =
        first (row_items is (l + 1)) _ (rows_grow is (l + 1)) (indent l ++ (items.mark 93 ∷ [])) rest nil (held 91 ts ∷ st) ∙ ripe (one (node 91 (row_trees numeral is))) rest ts st
    expr_grows (group map_group is) l rest ts st =
        first (row_items is (l + 1)) _ (rows_grow is (l + 1)) (indent l ++ (items.mark 93 ∷ items.mark 41 ∷ [])) rest nil (held 91 nil ∷ opened (codes "Map") ts st) ∙ ripe (expr_trees numeral (group map_group is)) rest ts st
    expr_grows (group set_group is) l rest ts st =
        first (row_items is (l + 1)) _ (rows_grow is (l + 1)) (indent l ++ (items.mark 93 ∷ items.mark 41 ∷ [])) rest nil (held 91 nil ∷ opened (codes "Set") ts st) ∙ ripe (expr_trees numeral (group set_group is)) rest ts st
    expr_grows (group (error_group n m) is) l rest ts st =
        errors_grow is m l (items.mark 41 ∷ []) rest (opened (error_word n) ts st) ∙ ripe (expr_trees numeral (group (error_group n m) is)) rest ts st
    expr_grows (group (view_group k o n) is) l rest ts st =
        first (inside_items is l) _ (inside_grows is l) (argument o ++ (argument n ++ (items.mark 41 ∷ []))) rest nil (opened (view_name k) ts st)
        ∙ (first (argument o) _ (argument_grows o) (argument n ++ (items.mark 41 ∷ [])) rest (inside_trees numeral is) (opened (view_name k) ts st)
        ∙ (first (argument n) _ (argument_grows n) (items.mark 41 ∷ []) rest (append_t (inside_trees numeral is) (argument_trees o)) (opened (view_name k) ts st)
        ∙ (ap (λ z. grow rest (growing (snocs ts (new_trees (view_name k) z nil)) st)) (append_t_assoc (inside_trees numeral is) (argument_trees o) (argument_trees n))
        ∙ ripe (expr_trees numeral (group (view_group k o n) is)) rest ts st)))

    pub rows_grow : (is : Items) (l : ℕ) → Sprouts (row_items is l) (row_trees numeral is)
    rows_grow none l rest ts st = layout rest ts st
    rows_grow (syntax.hole is) l rest ts st = rows_grow is l rest (snoc ts comma) st ∙ ap (λ z. grow rest (growing z st)) (push ts comma (row_trees numeral is))
    rows_grow (item e is) l rest ts st =
        both (expr_items e l) (items.mark 44 ∷ line_end ∷ row_items is l) (expr_trees numeral e) (cons comma (row_trees numeral is)) (expr_grows e l)
        (comma_grows (line_end ∷ row_items is l) (row_trees numeral is) (rows_grow is l)) rest ts st
    rows_grow (keyed k e is) l rest ts st =
        both (key_items k) (items.mark 58 ∷ blanks 1 ∷ (expr_items e l ++ (items.mark 44 ∷ line_end ∷ row_items is l))) (one (key_tree k)) (cons colon (append_t (expr_trees numeral e) (cons comma (row_trees numeral is)))) (key_grows k)
        (λ rest' ts' st'.
        both (expr_items e l) (items.mark 44 ∷ line_end ∷ row_items is l) (expr_trees numeral e) (cons comma (row_trees numeral is)) (expr_grows e l)
        (comma_grows (line_end ∷ row_items is l) (row_trees numeral is) (rows_grow is l)) rest' (snoc ts' colon) st'
        ∙ ap (λ z. grow rest' (growing z st')) (push ts' colon (append_t (expr_trees numeral e) (cons comma (row_trees numeral is)))))
        rest ts st
    rows_grow (pair e f is) l rest ts st =
        first (expr_items e l) _ (expr_grows e l) (items.mark 44 ∷ blanks 1 ∷ (expr_items f l ++ (items.mark 93 ∷ items.mark 44 ∷ line_end ∷ row_items is l))) rest nil (held 91 ts ∷ st)
        ∙ (first (expr_items f l) _ (expr_grows f l) (items.mark 93 ∷ items.mark 44 ∷ line_end ∷ row_items is l) rest (snoc (expr_trees numeral e) comma) (held 91 ts ∷ st)
        ∙ (ap (λ z. grow (items_tokens numeral (row_items is l) ++ rest) (growing (snoc (snoc ts (node 91 z)) comma) st)) (push (expr_trees numeral e) comma (expr_trees numeral f))
        ∙ (rows_grow is l rest (snoc (snoc ts (node 91 (append_t (expr_trees numeral e) (cons comma (expr_trees numeral f))))) comma) st
        ∙ ap (λ z. grow rest (growing z st)) (push (snoc ts (node 91 (append_t (expr_trees numeral e) (cons comma (expr_trees numeral f))))) comma (row_trees numeral is) ∙ push ts _ _))))

    -- the arguments of an error, in its bracket
    errors_grow : (is : Items) (m : Option Text) (l : ℕ) (ys : List Item) (rest : List Token) (st : List Open)
        → grow (items_tokens numeral (message_items m ++ (cause_items is m l ++ ys)) ++ rest) (growing nil st) ≡ grow (items_tokens numeral ys ++ rest) (growing (error_trees numeral is m) st)
    errors_grow none m l ys rest st = first (message_items m) _ (message_grows m) ys rest nil st
    errors_grow (syntax.hole is) m l ys rest st = first (message_items m) _ (message_grows m) ys rest nil st
    errors_grow (item e is) None l ys rest st = cause_grows (expr_items e (l + 1)) (expr_trees numeral e) (expr_grows e (l + 1)) l ys rest (message_tree None) st
    errors_grow (item e is) (Some t) l ys rest st = cause_grows (expr_items e (l + 1)) (expr_trees numeral e) (expr_grows e (l + 1)) l ys rest (message_tree (Some t)) st
    errors_grow (keyed k e is) m l ys rest st = first (message_items m) _ (message_grows m) ys rest nil st
    errors_grow (pair e f is) m l ys rest st = first (message_items m) _ (message_grows m) ys rest nil st

    inside_grows : (is : Items) (l : ℕ) → Sprouts (inside_items is l) (inside_trees numeral is)
    inside_grows none l rest ts st = layout rest ts st
    inside_grows (syntax.hole is) l rest ts st = layout rest ts st
    inside_grows (item e is) l rest ts st = expr_grows e l rest ts st
    inside_grows (keyed k e is) l rest ts st = layout rest ts st
    inside_grows (pair e f is) l rest ts st = layout rest ts st
