-- What a line is to do, by its trees.
use Rattle.std.proofs.Common.{◌≡◌, ℕ, Bool, true, false, cond, not, ◌&&◌, ◌||◌, eqb, List, Some, None, codes, Option, sym, refl, ap, ◌∙◌}
use Rattle.std.proofs.lemmas.Bool.{or_parts, or_from, both_ways, and_right}
use Rattle.dump.specs.Heaps as heaps
use Rattle.dump.specs.Heaps.{Value, Key}
use Rattle.numeral.specs.Numerals.{finite}
use Rattle.script.specs.Syntax as syntax
use Rattle.script.specs.Syntax.{Form, named, buffer_of_named, circular, new_boolean, new_number, new_bigint, new_string, new_regexp, new_date, new_array, empty_map_form, empty_set_form, buffer_form, new_resizable, data_buffer, new_typed, typed_part, braces, brackets, map_group, set_group, error_group, view_group, Expr, value, form, group}
use Rattle.evaluator.specs.Options.{and_then, when, or_else}
use Rattle.evaluator.specs.Tokens.{word, mark}
use Rattle.evaluator.specs.Trees.{leaf, Trees, nil, cons}
use Rattle.evaluator.specs.Makes.{is}
use Rattle.evaluator.specs.Commands.{name_of, is_mark, word_in, in_square, ended, as_binding, as_assignment, is_block, Command, binds, assigns, does, gives, command}
use Rattle.effects.specs.Readable.{Small}
use Rattle.leaves.proofs.Numbers.{name_of_lem}
use Rattle.reading.specs.Trees.{append_t, one, name_tree, new_trees, member, access_trees, numeral_trees, double_trees, value_trees, form_trees, expr_trees}
use Rattle.reading.specs.Steps.{has_mark}
use Rattle.reading.specs.Statements.{semicolon, const_trees, assign_trees, last_trees}
use Rattle.effects.specs.Plans.{braced}

-- a semicolon at the end
ended_is : (ts : Trees) → ended (append_t ts (one semicolon)) ≡ Some ts
ended_is nil = refl
ended_is (cons t nil) = refl
ended_is (cons t (cons u us)) = ap (λ z. and_then z (λ ts. Some (cons t ts))) (ended_is (cons u us))

not_ended : (ts : Trees) → has_mark 59 ts ≡ false → ended ts ≡ None
not_ended nil h = refl
not_ended (cons t nil) h = ap (λ b. when b (Some nil)) (or_parts (is_mark 59 t) (has_mark 59 nil) h).0
not_ended (cons t (cons u us)) h = ap (λ z. and_then z (λ ts. Some (cons t ts))) (not_ended (cons u us) (or_parts (is_mark 59 t) (has_mark 59 (cons u us)) h).1)

-- no equals sign
not_binding : (ts : Trees) → has_mark 61 ts ≡ false → as_binding ts ≡ None
not_binding nil h = refl
not_binding (cons t nil) h = refl
not_binding (cons t (cons u nil)) h = refl
not_binding (cons t (cons u (cons v rest))) h = go (word_in t)
  where
    third : is_mark 61 v ≡ false
    third = (or_parts (is_mark 61 v) (has_mark 61 rest) (or_parts (is_mark 61 u) (has_mark 61 (cons v rest)) (or_parts (is_mark 61 t) (has_mark 61 (cons u (cons v rest))) h).1).1).0

    go : (o : Option (List ℕ)) → and_then o (λ w. when (is w (codes "const") && is_mark 61 v) (and_then (and_then (word_in u) name_of) (λ n. and_then (ended rest) (λ e. Some (binds n e))))) ≡ None
    go None = refl
    go (Some w) = ap (λ b. when b (and_then (and_then (word_in u) name_of) (λ n. and_then (ended rest) (λ e. Some (binds n e))))) (and_right (is w (codes "const")) (is_mark 61 v) third)

not_assignment : (ts : Trees) → has_mark 61 ts ≡ false → as_assignment ts ≡ None
not_assignment nil h = refl
not_assignment (cons t nil) h = refl
not_assignment (cons t (cons u nil)) h = refl
not_assignment (cons t (cons u (cons v rest))) h = go (and_then (word_in t) name_of)
  where
    third : is_mark 61 v ≡ false
    third = (or_parts (is_mark 61 v) (has_mark 61 rest) (or_parts (is_mark 61 u) (has_mark 61 (cons v rest)) (or_parts (is_mark 61 t) (has_mark 61 (cons u (cons v rest))) h).1).1).0

    at : (n : ℕ) (k : Option Trees) → and_then k (λ k. when (is_mark 61 v) (and_then (ended rest) (λ e. Some (assigns n k e)))) ≡ None
    at n None = refl
    at n (Some k) = ap (λ b. when b (and_then (ended rest) (λ e. Some (assigns n k e)))) third

    go : (o : Option ℕ) → and_then o (λ n. and_then (in_square u) (λ k. when (is_mark 61 v) (and_then (ended rest) (λ e. Some (assigns n k e))))) ≡ None
    go None = refl
    go (Some n) = at n (in_square u)

-- an expression alone
gives_command : (ts : Trees) → has_mark 61 ts ≡ false → has_mark 59 ts ≡ false → is_block ts ≡ false → command ts ≡ Some (gives ts)
gives_command ts a b c =
    ap (λ z. or_else z (or_else (as_assignment ts) (when (not (is_block ts)) (or_else (and_then (ended ts) (λ e. Some (does e))) (Some (gives ts)))))) (not_binding ts a)
    ∙ (ap (λ z. or_else z (when (not (is_block ts)) (or_else (and_then (ended ts) (λ e. Some (does e))) (Some (gives ts))))) (not_assignment ts a)
    ∙ (ap (λ z. when (not z) (or_else (and_then (ended ts) (λ e. Some (does e))) (Some (gives ts)))) c
    ∙ ap (λ z. or_else (and_then z (λ e. Some (does e))) (Some (gives ts))) (not_ended ts b)))

-- what is tried behind a binding, and behind an assignment
abbrev others : Trees → Option Command
others ts = when (not (is_block ts)) (or_else (and_then (ended ts) (λ e. Some (does e))) (Some (gives ts)))

abbrev unbound : Trees → Option Command
unbound ts = or_else (as_assignment ts) (others ts)

-- a call, and a call of what is new
pub call_command : (n : ℕ) (w : List ℕ) (rest : Trees) → Small n → command (append_t (cons (name_tree n) (member w rest)) (one semicolon)) ≡ Some (does (cons (name_tree n) (member w rest)))
call_command n w rest small =
    let ts : Trees = append_t (cons (name_tree n) (member w rest)) (one semicolon) in
    ap (λ z. or_else (and_then z (λ m. None)) (others ts)) (name_of_lem n small) ∙ ap (λ z. or_else (and_then z (λ e. Some (does e))) (Some (gives ts))) (ended_is (cons (name_tree n) (member w rest)))

pub new_command : (w : List ℕ) (args rest : Trees) → command (append_t (new_trees w args rest) (one semicolon)) ≡ Some (does (new_trees w args rest))
new_command w args rest = ap (λ z. or_else (and_then z (λ e. Some (does e))) (Some (gives (append_t (new_trees w args rest) (one semicolon))))) (ended_is (new_trees w args rest))

module _ (numeral : ℕ → Option (List ℕ)) where
  pub const_command : (n : ℕ) (e : Expr) → Small n → command (const_trees numeral n e) ≡ Some (binds n (expr_trees numeral e))
  const_command n e small =
      ap (λ z. or_else (and_then z (λ m. and_then (ended (append_t (expr_trees numeral e) (one semicolon))) (λ x. Some (binds m x)))) (unbound (const_trees numeral n e))) (name_of_lem n small)
      ∙ ap (λ z. or_else (and_then z (λ x. Some (binds n x))) (unbound (const_trees numeral n e))) (ended_is (expr_trees numeral e))

  pub assign_command : (n : ℕ) (k : Key) (e : Expr) → Small n → command (assign_trees numeral n k e) ≡ Some (assigns n (access_trees k) (expr_trees numeral e))
  assign_command n k e small =
      ap (λ z. or_else (and_then z (λ m. and_then (ended (append_t (expr_trees numeral e) (one semicolon))) (λ x. Some (assigns m (access_trees k) x)))) (others (assign_trees numeral n k e))) (name_of_lem n small)
      ∙ ap (λ z. or_else (and_then z (λ x. Some (assigns n (access_trees k) x))) (others (assign_trees numeral n k e))) (ended_is (expr_trees numeral e))

  -- a mark that is no minus and no point does not stand among the trees of an expression
  module _ (c : ℕ) (minus : eqb c 45 ≡ false) (point : eqb c 46 ≡ false) where
    pointed : (eqb c 46 || false) ≡ false
    pointed = or_from (eqb c 46) false point refl

    double_free : (bits : ℕ) → has_mark c (double_trees numeral bits) ≡ false
    double_free bits = go (finite bits) (numeral bits) (eqb bits 9218868437227405312) (eqb bits 18442240474082181120)
      where
        go : (f : Bool) (o : Option (List ℕ)) (a b : Bool)
            → has_mark c (cond f (numeral_trees o) (cond a (one (leaf (word (codes "Infinity")))) (cond b (cons (leaf (mark 45)) (one (leaf (word (codes "Infinity"))))) (one (leaf (word (codes "NaN"))))))) ≡ false
        go true None a b = refl
        go true (Some t) a b = refl
        go false o true b = refl
        go false o false true = or_from (eqb c 45) false minus refl
        go false o false false = refl

    value_free : (v : Value) → has_mark c (value_trees numeral v) ≡ false
    value_free heaps.undefined = refl
    value_free heaps.null = refl
    value_free heaps.hole = refl
    value_free (heaps.boolean b) = refl
    value_free (heaps.whole z) = refl
    value_free (heaps.double bits) = double_free bits
    value_free (heaps.bigint t) = refl
    value_free (heaps.text t) = refl
    value_free (heaps.object o) = refl

    form_free : (f : Form) → has_mark c (form_trees numeral f) ≡ false
    form_free (named n) = refl
    form_free (buffer_of_named n) = pointed
    form_free circular = refl
    form_free (new_boolean b) = refl
    form_free (new_number bits) = refl
    form_free (new_bigint t) = refl
    form_free (new_string t) = refl
    form_free (new_regexp t flags) = refl
    form_free (new_date time) = refl
    form_free (new_array n) = refl
    form_free empty_map_form = refl
    form_free empty_set_form = refl
    form_free (buffer_form n) = refl
    form_free (new_resizable n m) = refl
    form_free (data_buffer k bytes) = pointed
    form_free (new_typed k bytes) = refl
    form_free (typed_part k bytes a b) = pointed
    form_free (syntax.subarray n a b) = pointed

    expr_free : (e : Expr) → has_mark c (expr_trees numeral e) ≡ false
    expr_free (value v) = value_free v
    expr_free (form f) = form_free f
    expr_free (group braces is) = refl
    expr_free (group brackets is) = refl
    expr_free (group map_group is) = refl
    expr_free (group set_group is) = refl
    expr_free (group (error_group n m) is) = refl
    expr_free (group (view_group k o n) is) = refl

  -- only braces begin with a block
  not_block : (e : Expr) → braced e ≡ false → is_block (expr_trees numeral e) ≡ false
  not_block (value v) h = by_value v
    where
      double : (f : Bool) (o : Option (List ℕ)) (a b : Bool)
          → is_block (cond f (numeral_trees o) (cond a (one (leaf (word (codes "Infinity")))) (cond b (cons (leaf (mark 45)) (one (leaf (word (codes "Infinity"))))) (one (leaf (word (codes "NaN"))))))) ≡ false
      double true None a b = refl
      double true (Some t) a b = refl
      double false o true b = refl
      double false o false true = refl
      double false o false false = refl

      by_value : (v : Value) → is_block (value_trees numeral v) ≡ false
      by_value heaps.undefined = refl
      by_value heaps.null = refl
      by_value heaps.hole = refl
      by_value (heaps.boolean b) = refl
      by_value (heaps.whole z) = refl
      by_value (heaps.double bits) = double (finite bits) (numeral bits) (eqb bits 9218868437227405312) (eqb bits 18442240474082181120)
      by_value (heaps.bigint t) = refl
      by_value (heaps.text t) = refl
      by_value (heaps.object o) = refl
  not_block (form f) h = by_form f
    where
      by_form : (f : Form) → is_block (form_trees numeral f) ≡ false
      by_form (named n) = refl
      by_form (buffer_of_named n) = refl
      by_form circular = refl
      by_form (new_boolean b) = refl
      by_form (new_number bits) = refl
      by_form (new_bigint t) = refl
      by_form (new_string t) = refl
      by_form (new_regexp t flags) = refl
      by_form (new_date time) = refl
      by_form (new_array n) = refl
      by_form empty_map_form = refl
      by_form empty_set_form = refl
      by_form (buffer_form n) = refl
      by_form (new_resizable n m) = refl
      by_form (data_buffer k bytes) = refl
      by_form (new_typed k bytes) = refl
      by_form (typed_part k bytes a b) = refl
      by_form (syntax.subarray n a b) = refl
  not_block (group braces is) h = absurd (both_ways true h refl)
  not_block (group brackets is) h = refl
  not_block (group map_group is) h = refl
  not_block (group set_group is) h = refl
  not_block (group (error_group n m) is) h = refl
  not_block (group (view_group k o n) is) h = refl

  -- the last line: braces stand in brackets
  pub last_command : (b : Bool) (e : Expr) → (braced e ≡ true → b ≡ true) → command (last_trees numeral b e) ≡ Some (gives (last_trees numeral b e))
  last_command true e h = refl
  last_command false e h = gives_command (expr_trees numeral e) (expr_free 61 refl refl e) (expr_free 59 refl refl e) (not_block e (go (braced e) h))
    where
      go : (b : Bool) → (b ≡ true → false ≡ true) → b ≡ false
      go true f = sym (f refl)
      go false f = refl
