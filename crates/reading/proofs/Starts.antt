-- An expression's first token is none of `(`, `return` and `function`: a line that is an expression neither opens a function nor returns.
use Rattle.std.proofs.Common.{◌≡◌, ℕ, ◌≤◌, Bool, true, false, cond, not, eqb, List, [], ◌∷◌, ◌++◌, take, drop, ℤ, pos, negsuc, codes, decimal, Option, refl, ap, ◌∙◌, ⊎_elim, append_assoc, arith}
use Rattle.std.proofs.lemmas.Bool.{and_parts, and_left, and_right, or_cases, both_ways, not-true, eqb-true, ne_eqb}
use Rattle.std.proofs.lemmas.Bool.Decides.{nat_tests}
use Rattle.dump.specs.Heaps as heaps
use Rattle.dump.specs.Heaps.{Value}
use Rattle.numeral.specs.Digits.{is_digit, first_is, is_zero, positive_digits, whole_digits}
use Rattle.numeral.specs.Numerals.{body, before_point, after_point, is_fraction, is_numeral, is_big_int, finite}
use Rattle.numeral.specs.Words.{same_units}
use Rattle.numeral.proofs.Laws.{pair_numeral}
use Rattle.speller.specs.Spelling.{Lawful}
use Rattle.formed.specs.Formed.{WholeFits}
use Rattle.script.specs.Items as items
use Rattle.script.specs.Items.{signed_decimal}
use Rattle.script.specs.Syntax as syntax
use Rattle.script.specs.Syntax.{Form, named, buffer_of_named, circular, new_boolean, new_number, new_bigint, new_string, new_regexp, new_date, new_array, empty_map_form, empty_set_form, buffer_form, new_resizable, data_buffer, new_typed, typed_part, braces, brackets, map_group, set_group, error_group, view_group, Expr, value, form, group}
use Rattle.script.specs.Texts.{value_item, form_items, expr_items}
use Rattle.evaluator.specs.Tokens.{Token, word, number, string, mark, break}
use Rattle.evaluator.specs.Commands.{solid, shows_all, is_opening, is_return, breaks_first, without_breaks}
use Rattle.effects.specs.Tokens.{numeral_tokens, not_finite_tokens, item_tokens, items_tokens}
use Rattle.effects.specs.Readable.{Spelled, ValueReadable, ExprReadable}
use Rattle.leaves.proofs.Numbers.{decimal_digits}
use Rattle.reading.specs.Starts.{begins, starts}

-- texts that are numbers

digit_begins : (c : ℕ) (cs : List ℕ) → is_digit c ≡ true → begins (c ∷ cs) ≡ true
digit_begins c cs h = grind (arith, nat_tests)

zero_first : (c : ℕ) (cs : List ℕ) → is_zero (c ∷ cs) ≡ true → is_digit c ≡ true
zero_first c cs h = grind (arith, nat_tests)

positive_first : (c : ℕ) (cs : List ℕ) → positive_digits (c ∷ cs) ≡ true → is_digit c ≡ true
positive_first c cs h = grind (arith, nat_tests)

whole_first : (c : ℕ) (cs : List ℕ) → whole_digits (c ∷ cs) ≡ true → is_digit c ≡ true
whole_first c cs h = ⊎_elim (zero_first c cs) (positive_first c cs) (or_cases (is_zero (c ∷ cs)) (positive_digits (c ∷ cs)) h)

decimal_begins : (n : ℕ) → n ≤ 9007199254740991 → begins (decimal n) ≡ true
decimal_begins n small = go (decimal n) (decimal_digits n small).0
  where
    go : (t : List ℕ) → whole_digits t ≡ true → begins t ≡ true
    go [] h = absurd (both_ways false refl h)
    go (c ∷ cs) h = digit_begins c cs (whole_first c cs h)

integer_begins : (z : ℤ) → WholeFits z → begins (signed_decimal z) ≡ true
integer_begins (pos n) fits = decimal_begins n (omega arith)
integer_begins (negsuc n) fits = refl

minus_begins : (c : ℕ) (cs : List ℕ) → eqb c 45 ≡ true → begins (c ∷ cs) ≡ true
minus_begins c cs e = grind (arith, nat_tests)

numeral_begins : (t : List ℕ) → is_numeral t ≡ true → begins t ≡ true
numeral_begins [] h = absurd (both_ways false refl h)
numeral_begins (c ∷ cs) h = go (eqb c 45) refl (and_parts (whole_digits (before_point (body (c ∷ cs)))) (is_fraction (after_point (body (c ∷ cs)))) h).0
  where
    at : (p : Bool) → whole_digits (cond p [] (c ∷ before_point cs)) ≡ true → begins (c ∷ cs) ≡ true
    at true w = absurd (both_ways false refl w)
    at false w = digit_begins c cs (whole_first c (before_point cs) w)

    go : (m : Bool) → eqb c 45 ≡ m → whole_digits (before_point (cond m (drop 1 (c ∷ cs)) (c ∷ cs))) ≡ true → begins (c ∷ cs) ≡ true
    go true e w = minus_begins c cs e
    go false e w = at (eqb c 46) w

bigint_begins : (t more : List ℕ) → is_big_int t ≡ true → begins (t ++ more) ≡ true
bigint_begins [] more h = absurd (both_ways false refl h)
bigint_begins (c ∷ cs) more h = ⊎_elim (λ z. digit_begins c (cs ++ more) (zero_first c cs z)) (go (eqb c 45) refl) (or_cases (is_zero (c ∷ cs)) (positive_digits (body (c ∷ cs))) h)
  where
    go : (m : Bool) → eqb c 45 ≡ m → positive_digits (cond m (drop 1 (c ∷ cs)) (c ∷ cs)) ≡ true → begins (c ∷ (cs ++ more)) ≡ true
    go true e w = minus_begins c (cs ++ more) e
    go false e w = digit_begins c (cs ++ more) (positive_first c cs w)

module _ (numeral : ℕ → Option (List ℕ)) (lawful : Lawful numeral) where
  double_starts : (bits : ℕ) → Spelled numeral bits → (rest : List Token) → starts (item_tokens numeral (items.double bits) ++ rest) ≡ true
  double_starts bits spelled rest = go (finite bits) refl
    where
      infinite : (a b : Bool) → starts (cond a (word (codes "Infinity") ∷ []) (cond b (mark 45 ∷ word (codes "Infinity") ∷ []) (word (codes "NaN") ∷ [])) ++ rest) ≡ true
      infinite true b = refl
      infinite false true = refl
      infinite false false = refl

      go : (b : Bool) → finite bits ≡ b → starts (cond b (numeral_tokens (numeral bits)) (not_finite_tokens bits) ++ rest) ≡ true
      go true f = let t = spelled f in ap (λ o. starts (numeral_tokens o ++ rest)) t.1 ∙ numeral_begins t.0 (pair_numeral bits t.0 (lawful.shaped bits t.0 t.1))
      go false f = infinite (eqb bits 9218868437227405312) (eqb bits 18442240474082181120)

  value_starts : (v : Value) → ValueReadable numeral v → (rest : List Token) → starts (items_tokens numeral (value_item v ∷ []) ++ rest) ≡ true
  value_starts heaps.undefined r rest = refl
  value_starts heaps.null r rest = refl
  value_starts heaps.hole r rest = absurd r
  value_starts (heaps.boolean true) r rest = refl
  value_starts (heaps.boolean false) r rest = refl
  value_starts (heaps.whole z) r rest = integer_begins z r
  value_starts (heaps.double bits) r rest = ap starts (append_assoc (item_tokens numeral (items.double bits)) [] rest) ∙ double_starts bits r rest
  value_starts (heaps.bigint t) r rest = bigint_begins t (110 ∷ []) r
  value_starts (heaps.text t) r rest = refl
  value_starts (heaps.object o) r rest = absurd r

  form_starts : (f : Form) (l : ℕ) (rest : List Token) → starts (items_tokens numeral (form_items f l) ++ rest) ≡ true
  form_starts (named n) l rest = refl
  form_starts (buffer_of_named n) l rest = refl
  form_starts circular l rest = refl
  form_starts (new_boolean b) l rest = refl
  form_starts (new_number bits) l rest = refl
  form_starts (new_bigint t) l rest = refl
  form_starts (new_string t) l rest = refl
  form_starts (new_regexp t flags) l rest = refl
  form_starts (new_date time) l rest = refl
  form_starts (new_array n) l rest = refl
  form_starts empty_map_form l rest = refl
  form_starts empty_set_form l rest = refl
  form_starts (buffer_form n) l rest = refl
  form_starts (new_resizable n m) l rest = refl
  form_starts (data_buffer k bytes) l rest = refl
  form_starts (new_typed k bytes) l rest = refl
  form_starts (typed_part k bytes a b) l rest = refl
  form_starts (syntax.subarray n a b) l rest = refl

  pub expr_starts : (e : Expr) → ExprReadable numeral e → (l : ℕ) (rest : List Token) → starts (items_tokens numeral (expr_items e l) ++ rest) ≡ true
  expr_starts (value v) r l rest = value_starts v r rest
  expr_starts (form f) r l rest = form_starts f l rest
  expr_starts (group braces is) r l rest = refl
  expr_starts (group brackets is) r l rest = refl
  expr_starts (group map_group is) r l rest = refl
  expr_starts (group set_group is) r l rest = refl
  expr_starts (group (error_group n m) is) r l rest = refl
  expr_starts (group (view_group k o n) is) r l rest = refl

-- so a line that begins like this does not open a function, nor behind a bracket, and does not return

no_round : (c : ℕ) (cs more : List ℕ) → begins (c ∷ cs) ≡ true → same_units (c ∷ (cs ++ more)) (codes "( function ( ) { ") ≡ false
no_round c cs more h = and_left (eqb c 40) _ (not-true (eqb c 40) (and_parts (not (eqb c 40)) _ h).0)

no_return : (c : ℕ) (cs more : List ℕ) → begins (c ∷ cs) ≡ true → same_units (c ∷ (cs ++ more)) (codes "return ") ≡ false
no_return c cs more h = and_left (eqb c 114) _ (not-true (eqb c 114) (and_parts (not (eqb c 114)) _ (and_parts (not (eqb c 40)) _ h).1).0)

no_function : (c : ℕ) (cs more : List ℕ) → begins (c ∷ cs) ≡ true → same_units (c ∷ (cs ++ more)) (codes "function ( ) { ") ≡ false
no_function c cs more h =
    ⊎_elim (λ n. and_left (eqb c 102) _ (not-true (eqb c 102) n)) (λ a. and_right (eqb c 102) _ (second cs a))
    (or_cases (not (eqb c 102)) (first_is 97 cs) (and_parts (not (eqb c 114)) _ (and_parts (not (eqb c 40)) _ h).1).1)
  where
    second : (ds : List ℕ) → first_is 97 ds ≡ true → same_units (ds ++ more) (codes "unction ( ) { ") ≡ false
    second [] a = absurd (both_ways false refl a)
    second (d ∷ ds) a = and_left (eqb d 117) _ (let e = eqb-true d 97 a in ne_eqb d 117 (λ f. omega arith))

pub not_opening : (ts : List Token) → starts ts ≡ true → is_opening (solid ts) ≡ false
not_opening [] h = absurd (both_ways false refl h)
not_opening (word [] ∷ ts) h = absurd (both_ways false refl h)
not_opening (word (c ∷ cs) ∷ ts) h = no_round c cs _ h
not_opening (number [] ∷ ts) h = absurd (both_ways false refl h)
not_opening (number (c ∷ cs) ∷ ts) h = no_round c cs _ h
not_opening (string us ∷ ts) h = refl
not_opening (mark c ∷ ts) h = no_round c [] (32 ∷ shows_all (solid ts)) h
not_opening (break ∷ ts) h = absurd (both_ways false refl h)

pub not_opening_round : (ts : List Token) → starts ts ≡ true → is_opening (mark 40 ∷ solid ts) ≡ false
not_opening_round [] h = absurd (both_ways false refl h)
not_opening_round (word [] ∷ ts) h = absurd (both_ways false refl h)
not_opening_round (word (c ∷ cs) ∷ ts) h = no_function c cs _ h
not_opening_round (number [] ∷ ts) h = absurd (both_ways false refl h)
not_opening_round (number (c ∷ cs) ∷ ts) h = no_function c cs _ h
not_opening_round (string us ∷ ts) h = refl
not_opening_round (mark c ∷ ts) h = no_function c [] (32 ∷ shows_all (solid ts)) h
not_opening_round (break ∷ ts) h = absurd (both_ways false refl h)

pub not_return : (ts : List Token) → starts ts ≡ true → is_return (take 1 (without_breaks ts)) ≡ false
not_return [] h = absurd (both_ways false refl h)
not_return (word [] ∷ ts) h = absurd (both_ways false refl h)
not_return (word (c ∷ cs) ∷ ts) h = no_return c cs _ h
not_return (number [] ∷ ts) h = absurd (both_ways false refl h)
not_return (number (c ∷ cs) ∷ ts) h = no_return c cs _ h
not_return (string us ∷ ts) h = refl
not_return (mark c ∷ ts) h = no_return c [] (32 ∷ []) h
not_return (break ∷ ts) h = absurd (both_ways false refl h)

pub no_break : (ts : List Token) → starts ts ≡ true → breaks_first ts ≡ false
no_break [] h = refl
no_break (word w ∷ ts) h = refl
no_break (number w ∷ ts) h = refl
no_break (string us ∷ ts) h = refl
no_break (mark c ∷ ts) h = refl
no_break (break ∷ ts) h = absurd (both_ways false refl h)
