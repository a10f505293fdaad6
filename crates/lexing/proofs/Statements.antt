-- The items of a statement that can be read may follow each other.
use Rattle.std.proofs.Common.{◌≡◌, ℕ, ◌+◌, ◌-◌, ◌*◌, ◌/◌, ◌%◌, ◌^◌, ◌<◌, Bool, true, false, cond, ◌&&◌, eqb, leb, List, [], ◌∷◌, ◌++◌, length, ℤ, Some, None, codes, Option, refl, arith}
use Rattle.std.proofs.ByRecursion.{All-append}
use Rattle.std.proofs.lemmas.Bool.{cond_both}
use Rattle.dump.specs.declared.kinds.ViewKind.{ViewKind}
use Rattle.dump.specs.declared.kinds.ViewKind.TheVariants.{Int8Array, Uint8Array, Uint8ClampedArray, Int16Array, Uint16Array, Int32Array, Uint32Array, Float32Array, Float64Array, BigInt64Array, BigUint64Array, DataView}
use Rattle.dump.specs.declared.kinds.ErrorName.{ErrorName}
use Rattle.dump.specs.declared.kinds.ErrorName.TheVariants.{Error, EvalError, RangeError, ReferenceError, SyntaxError, TypeError, UriError}
use Rattle.dump.specs.Heaps as heaps
use Rattle.dump.specs.Heaps.{Text, Value, Key, index, name}
use Rattle.dump.specs.Kinds.{width}
use Rattle.numeral.specs.Words.{same_units}
use Rattle.formed.specs.Formed.{Units, MaybeUnits}
use Rattle.script.specs.Items.{mark, text, hex, blanks, line_end}
use Rattle.script.specs.Syntax.{Form, named, buffer_of_named, circular, new_boolean, new_number, new_bigint, new_string, new_regexp, new_date, new_array, empty_map_form, empty_set_form, buffer_form, new_resizable, data_buffer, new_typed, typed_part, subarray, braces, brackets, map_group, set_group, error_group, view_group, Expr, value, form, group, Items, none, hole, item, keyed, pair, Stmt, opening, const, assign, put, add, fill, last, return}
use Rattle.script.specs.Texts.{view_name, error_word, Listing, numbers, floats, listing, flag_letters, indent, name_item, number, opens, low_first, element_item, Row, is_whole, element_at, row_after, list_rows, no_row, list_items, list_of, all_zero, content, boolean_word, value_item, time_item, flag_items, argument, first_arguments, form_items, key_items, access_items, message_items, cause_front, expr_items, row_items, cause_items, inside_items, stmt_items}
use Rattle.effects.specs.Readable.{KeyReadable, ValueReadable, FormReadable, ExprReadable, ItemsReadable, StmtReadable}
use Rattle.lexing.proofs.Lexes.{is_word}
use Rattle.lexing.proofs.Numbers.{decimal_parts}
use Rattle.lexing.proofs.Fits.{free, worded, numbered, Fit, fit_word, fit_mark, fit_text, fit_whole, fit_double, fit_bigint, fit_hex, fit_blanks, fit_blank, fit_line_end, fit_comment, Runs, done, eased, ◌then◌, strict, runs_both}

view_word : (k : ViewKind) → is_word (view_name k) ≡ true
view_word Int8Array = refl
view_word Uint8Array = refl
view_word Uint8ClampedArray = refl
view_word Int16Array = refl
view_word Uint16Array = refl
view_word Int32Array = refl
view_word Uint32Array = refl
view_word Float32Array = refl
view_word Float64Array = refl
view_word BigInt64Array = refl
view_word BigUint64Array = refl
view_word DataView = refl

error_word_lem : (n : ErrorName) → is_word (error_word n) ≡ true
error_word_lem Error = refl
error_word_lem EvalError = refl
error_word_lem RangeError = refl
error_word_lem ReferenceError = refl
error_word_lem SyntaxError = refl
error_word_lem TypeError = refl
error_word_lem UriError = refl

boolean_word_lem : (v : Bool) → is_word (boolean_word v) ≡ true
boolean_word_lem true = refl
boolean_word_lem false = refl

-- the letters of flags are units
letter : ℕ → ℕ → ℕ → Text
letter n power l = cond (eqb (n / power % 2) 1) (l ∷ []) []

letter_units : (n power l : ℕ) → l < 65536 → Units (letter n power l)
unfolding letter
letter_units n power l h = cond_both (eqb (n / power % 2) 1) (l ∷ []) [] (λ z. Units z) (λ _. (h, tt)) (λ _. tt)

then_letters : (n power l : ℕ) (t : Text) → l < 65536 → Units t → Units (letter n power l ++ t)
then_letters n power l t h u = All-append (λ z. z < 65536) (letter n power l) t (letter_units n power l h) u

flag_units : (n : ℕ) → Units (flag_letters n)
unfolding letter
flag_units n =
    then_letters n 128 100 _ (omega arith) (then_letters n 1 103 _ (omega arith) (then_letters n 2 105 _ (omega arith) (then_letters n 4 109 _ (omega arith)
    (then_letters n 32 115 _ (omega arith) (then_letters n 16 117 _ (omega arith) (then_letters n 256 118 _ (omega arith) (letter_units n 8 121 (omega arith))))))))

module _ (numeral : ℕ → Option (List ℕ)) where
  fit_name : (n : ℕ) → Fit numeral free (name_item n) worded
  fit_name n = fit_word (decimal_parts n)

  runs_opens : (w : List ℕ) → is_word w ≡ true → Runs numeral free (opens w) free
  runs_opens w h = fit_word refl then fit_blank then fit_word h then fit_mark refl refl then done

  runs_indent : (l : ℕ) → Runs numeral free (indent l) free
  runs_indent l = fit_blanks then done

  -- the rows of a list
  fit_element : (below big : Bool) (w n : ℕ) → Fit numeral free (element_item below big w n) numbered
  fit_element below big w n =
      cond_both (below && leb (2 ^ (8 * w - 1)) n) (hex true (2 ^ (8 * w) - n) big) (hex false n big) (λ z. Fit numeral free z numbered) (λ _. fit_hex) (λ _. fit_hex)

  runs_element : (below big : Bool) (w level : ℕ) (r : Row) (x : ℕ) → Runs numeral free (element_at below big w level r x) free
  runs_element below big w level r x =
      runs_both (cond_both (eqb r.filled 0) (indent level) (blanks 1 ∷ []) (λ z. Runs numeral free z free) (λ _. runs_indent level) (λ _. fit_blank then done))
      (fit_element below big w (low_first (r.seen ++ (x ∷ []))) then fit_mark refl refl then
      cond_both (eqb r.filled 7) (line_end ∷ []) [] (λ z. Runs numeral free z free) (λ _. fit_line_end then done) (λ _. done))

  runs_rows : (below big : Bool) (w level : ℕ) (xs : List ℕ) (r : Row) → Runs numeral free (list_rows below big w level r xs) free
  runs_rows below big w level [] r = cond_both (eqb r.filled 0) [] (line_end ∷ []) (λ z. Runs numeral free z free) (λ _. done) (λ _. fit_line_end then done)
  runs_rows below big w level (x ∷ xs) r =
      runs_both (cond_both (is_whole w r) (element_at below big w level r x) [] (λ z. Runs numeral free z free) (λ _. runs_element below big w level r x) (λ _. done))
      (runs_rows below big w level xs (row_after w r x))

  runs_list : (below big : Bool) (w level : ℕ) (bytes : List ℕ) → Runs numeral free (list_items below big w level bytes) free
  runs_list below big w level bytes =
      fit_mark refl refl then fit_line_end then runs_both (runs_rows below big w (level + 1) bytes no_row) (runs_both (runs_indent level) (fit_mark refl refl then done))

  runs_listing : (s : Listing) (w level : ℕ) (bytes : List ℕ) → Runs numeral free (list_of s w level bytes) numbered
  runs_listing (numbers below big) w level bytes = strict (runs_list below big w level bytes)
  runs_listing floats w level bytes =
      runs_both (runs_both (runs_opens (codes "Uint8Array") refl) (runs_list false false 1 level bytes)) (fit_mark refl refl then fit_mark refl refl then fit_word refl then eased)

  runs_content : (k : ViewKind) (level : ℕ) (bytes : List ℕ) → Runs numeral free (content k level bytes) numbered
  runs_content k level [] = eased
  runs_content k level (x ∷ xs) =
      cond_both (all_zero (x ∷ xs)) (number (length (x ∷ xs) / width k) ∷ []) (list_of (listing k) (width k) level (x ∷ xs)) (λ z. Runs numeral free z numbered)
      (λ _. fit_whole then done) (λ _. runs_listing (listing k) (width k) level (x ∷ xs))

  -- arguments that may be left out
  runs_argument : (o : Option ℕ) → Runs numeral numbered (argument o) numbered
  runs_argument None = done
  runs_argument (Some n) = fit_mark refl refl then fit_blank then fit_whole then done

  runs_first : (s e : Option ℕ) → Runs numeral free (first_arguments s e) numbered
  runs_first None None = eased
  runs_first None (Some e) = fit_whole then done
  runs_first (Some s) e = fit_whole then runs_argument e

  runs_flags : (t : Text) → Units t → Runs numeral free (flag_items t) free
  runs_flags [] u = done
  runs_flags (c ∷ cs) u = fit_mark refl refl then fit_blank then fit_text u then done

  runs_time : (time : Option ℤ) → Runs numeral free (time_item time ∷ []) numbered
  runs_time None = fit_word refl then eased
  runs_time (Some z) = fit_whole then done

  runs_value : (v : Value) → ValueReadable numeral v → Runs numeral free (value_item v ∷ []) numbered
  runs_value heaps.undefined h = fit_word refl then eased
  runs_value heaps.null h = fit_word refl then eased
  runs_value heaps.hole h = fit_comment refl then eased
  runs_value (heaps.boolean v) h = fit_word (boolean_word_lem v) then eased
  runs_value (heaps.whole z) h = fit_whole then done
  runs_value (heaps.double bits) h = fit_double h then done
  runs_value (heaps.bigint t) h = fit_bigint h then done
  runs_value (heaps.text t) h = fit_text h then eased
  runs_value (heaps.object o) h = fit_name o then eased

  runs_count : (n : ℕ) → Runs numeral free (cond (eqb n 0) [] (number n ∷ [])) numbered
  runs_count n = cond_both (eqb n 0) [] (number n ∷ []) (λ z. Runs numeral free z numbered) (λ _. eased) (λ _. fit_whole then done)

  runs_form : (f : Form) (l : ℕ) → FormReadable numeral f → Runs numeral free (form_items f l) numbered
  runs_form (named n) l h = fit_name n then eased
  runs_form (buffer_of_named n) l h = fit_name n then fit_mark refl refl then fit_word refl then eased
  runs_form circular l h = fit_word refl then fit_blank then fit_comment refl then eased
  runs_form (new_boolean v) l h = runs_both (runs_opens (codes "Boolean") refl) (fit_word (boolean_word_lem v) then fit_mark refl refl then eased)
  runs_form (new_number bits) l h = runs_both (runs_opens (codes "Number") refl) (fit_double h then fit_mark refl refl then eased)
  runs_form (new_bigint t) l h = runs_both (runs_opens (codes "Object") refl) (fit_bigint h then fit_mark refl refl then eased)
  runs_form (new_string t) l h = runs_both (runs_opens (codes "String") refl) (fit_text h then fit_mark refl refl then eased)
  runs_form (new_regexp t flags) l h =
      runs_both (runs_both (runs_opens (codes "RegExp") refl) (fit_text h.0 then runs_flags (flag_letters flags) (flag_units flags))) (fit_mark refl refl then eased)
  runs_form (new_date time) l h = runs_both (runs_opens (codes "Date") refl) (runs_both (runs_time time) (fit_mark refl refl then eased))
  runs_form (new_array n) l h = runs_both (runs_opens (codes "Array") refl) (fit_whole then fit_mark refl refl then eased)
  runs_form empty_map_form l h = runs_both (runs_opens (codes "Map") refl) (fit_mark refl refl then fit_line_end then eased)
  runs_form empty_set_form l h = runs_both (runs_opens (codes "Set") refl) (fit_mark refl refl then fit_line_end then eased)
  runs_form (buffer_form n) l h = runs_both (runs_both (runs_opens (codes "ArrayBuffer") refl) (runs_count n)) (fit_mark refl refl then eased)
  runs_form (new_resizable n m) l h =
      runs_both (runs_opens (codes "ArrayBuffer") refl)
      (fit_whole then fit_mark refl refl then fit_blank then fit_mark refl refl then fit_blank then fit_word refl then fit_mark refl refl then fit_blank then fit_whole then fit_blank then
      fit_mark refl refl then fit_mark refl refl then eased)
  runs_form (data_buffer k bytes) l h =
      runs_both (runs_both (runs_opens (view_name k) (view_word k)) (runs_content k l bytes)) (fit_mark refl refl then fit_mark refl refl then fit_word refl then eased)
  runs_form (new_typed k bytes) l h = runs_both (runs_both (runs_opens (view_name k) (view_word k)) (runs_content k l bytes)) (fit_mark refl refl then eased)
  runs_form (typed_part k bytes s e) l h =
      runs_both (runs_both (runs_opens (view_name k) (view_word k)) (runs_content k l bytes))
      (fit_mark refl refl then fit_mark refl refl then fit_word refl then fit_mark refl refl then fit_whole then fit_mark refl refl then fit_blank then fit_whole then fit_mark refl refl then eased)
  runs_form (subarray n s e) l h =
      fit_name n then fit_mark refl refl then fit_word refl then fit_mark refl refl then runs_both (runs_first s e) (fit_mark refl refl then eased)

  runs_key : (k : Key) → KeyReadable k → Runs numeral free (key_items k) free
  runs_key (index n) h = fit_mark refl refl then fit_whole then fit_mark refl refl then done
  runs_key (name t) h =
      cond_both (same_units t (codes "__proto__")) (mark 91 ∷ text t ∷ mark 93 ∷ []) (text t ∷ []) (λ z. Runs numeral free z free)
      (λ _. fit_mark refl refl then fit_text h then fit_mark refl refl then done) (λ _. fit_text h then done)

  runs_access : (k : Key) → KeyReadable k → Runs numeral worded (access_items k) free
  runs_access (index n) h = fit_mark refl refl then fit_whole then fit_mark refl refl then done
  runs_access (name t) h = fit_mark refl refl then fit_text h then fit_mark refl refl then done

  runs_message : (m : Option Text) → MaybeUnits m → Runs numeral free (message_items m) free
  runs_message None h = done
  runs_message (Some t) h = fit_text h then done

  runs_front : (m : Option Text) → Runs numeral free (cause_front m) numbered
  runs_front None = fit_word refl then eased
  runs_front (Some t) = eased

  mutual
    pub runs_expr : (e : Expr) (l : ℕ) → ExprReadable numeral e → Runs numeral free (expr_items e l) numbered
    runs_expr (value v) l h = runs_value v h
    runs_expr (form f) l h = runs_form f l h
    runs_expr (group braces is) l h =
        fit_mark refl refl then fit_line_end then runs_both (runs_items is (l + 1) h.1) (runs_both (runs_indent l) (fit_mark refl refl then eased))
    runs_expr (group brackets is) l h =
        fit_mark refl refl then fit_line_end then runs_both (runs_items is (l + 1) h.1) (runs_both (runs_indent l) (fit_mark refl refl then eased))
    runs_expr (group map_group is) l h =
        runs_both (runs_opens (codes "Map") refl)
        (fit_mark refl refl then fit_line_end then runs_both (runs_items is (l + 1) h.1) (runs_both (runs_indent l) (fit_mark refl refl then fit_mark refl refl then eased)))
    runs_expr (group set_group is) l h =
        runs_both (runs_opens (codes "Set") refl)
        (fit_mark refl refl then fit_line_end then runs_both (runs_items is (l + 1) h.1) (runs_both (runs_indent l) (fit_mark refl refl then fit_mark refl refl then eased)))
    runs_expr (group (error_group n m) is) l h =
        runs_both (runs_opens (error_word n) (error_word_lem n)) (runs_both (runs_message m h.0) (runs_both (runs_cause is m l h.1) (fit_mark refl refl then eased)))
    runs_expr (group (view_group k o n) is) l h =
        runs_both (runs_opens (view_name k) (view_word k)) (runs_both (runs_inside is l h.1) (runs_both (runs_argument o) (runs_both (runs_argument n) (fit_mark refl refl then eased))))

    pub runs_items : (is : Items) (l : ℕ) → ItemsReadable numeral is → Runs numeral free (row_items is l) free
    runs_items none l h = done
    runs_items (hole is) l h = runs_both (runs_indent l) (fit_comment refl then fit_mark refl refl then fit_line_end then runs_items is l h)
    runs_items (item e is) l h = runs_both (runs_indent l) (runs_both (runs_expr e l h.0) (fit_mark refl refl then fit_line_end then runs_items is l h.1))
    runs_items (keyed k e is) l h =
        runs_both (runs_indent l) (runs_both (runs_key k h.0) (fit_mark refl refl then fit_blank then
        runs_both (runs_expr e l h.1) (fit_mark refl refl then fit_line_end then runs_items is l h.2)))
    runs_items (pair e f is) l h =
        runs_both (runs_indent l) (fit_mark refl refl then runs_both (runs_expr e l h.0) (fit_mark refl refl then fit_blank then
        runs_both (runs_expr f l h.1) (fit_mark refl refl then fit_mark refl refl then fit_line_end then runs_items is l h.2)))

    runs_cause : (is : Items) (m : Option Text) (l : ℕ) → ItemsReadable numeral is → Runs numeral free (cause_items is m l) free
    runs_cause none m l h = done
    runs_cause (hole is) m l h = done
    runs_cause (item e is) m l h =
        runs_both (runs_front m) (fit_mark refl refl then fit_blank then fit_mark refl refl then fit_line_end then
        runs_both (runs_indent (l + 1)) (fit_word refl then fit_mark refl refl then fit_blank then
        runs_both (runs_expr e (l + 1) h.0) (fit_mark refl refl then fit_line_end then runs_both (runs_indent l) (fit_mark refl refl then done))))
    runs_cause (keyed k e is) m l h = done
    runs_cause (pair e f is) m l h = done

    runs_inside : (is : Items) (l : ℕ) → ItemsReadable numeral is → Runs numeral free (inside_items is l) numbered
    runs_inside none l h = eased
    runs_inside (hole is) l h = eased
    runs_inside (item e is) l h = runs_expr e l h.0
    runs_inside (keyed k e is) l h = eased
    runs_inside (pair e f is) l h = eased

  -- every statement
  pub runs_statement : (base : ℕ) (s : Stmt) → StmtReadable numeral s → Runs numeral free (stmt_items base s) numbered
  runs_statement base opening h = fit_mark refl refl then fit_word refl then fit_mark refl refl then fit_mark refl refl then fit_blank then fit_mark refl refl then fit_line_end then eased
  runs_statement base (const n e) h =
      runs_both (runs_indent base) (fit_word refl then fit_blank then fit_name n then fit_blank then fit_mark refl refl then fit_blank then
      runs_both (runs_expr e base h.1) (fit_mark refl refl then fit_line_end then eased))
  runs_statement base (assign n k e) h =
      runs_both (runs_indent base) (fit_name n then runs_both (runs_access k h.1) (fit_blank then fit_mark refl refl then fit_blank then
      runs_both (runs_expr e base h.2) (fit_mark refl refl then fit_line_end then eased)))
  runs_statement base (put n e f) h =
      runs_both (runs_indent base) (fit_name n then fit_mark refl refl then fit_word refl then fit_mark refl refl then
      runs_both (runs_expr e base h.1) (fit_mark refl refl then fit_blank then
      runs_both (runs_expr f base h.2) (fit_mark refl refl then fit_mark refl refl then fit_line_end then eased)))
  runs_statement base (add n e) h =
      runs_both (runs_indent base) (fit_name n then fit_mark refl refl then fit_word refl then fit_mark refl refl then
      runs_both (runs_expr e base h.1) (fit_mark refl refl then fit_mark refl refl then fit_line_end then eased))
  runs_statement base (fill n k bytes) h =
      runs_both (runs_opens (view_name k) (view_word k)) (fit_name n then fit_mark refl refl then fit_mark refl refl then fit_word refl then fit_mark refl refl then
      runs_both (runs_listing (listing k) (width k) base bytes) (fit_mark refl refl then fit_mark refl refl then fit_line_end then eased))
  runs_statement base (last true e) h = runs_both (runs_indent base) (fit_mark refl refl then runs_both (runs_expr e base h.0) (fit_mark refl refl then eased))
  runs_statement base (last false e) h = runs_both (runs_indent base) (runs_expr e base h.0)
  runs_statement base (return e) h =
      runs_both (runs_indent base) (fit_word refl then fit_blank then
      runs_both (runs_expr e base h) (fit_line_end then fit_mark refl refl then fit_mark refl refl then fit_mark refl refl then fit_mark refl refl then eased))
