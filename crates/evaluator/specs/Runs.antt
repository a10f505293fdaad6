-- Running a line over built objects and names: from its bytes, left to right.
use Rattle.std.specs.Prelude.{ℕ, suc, ◌+◌, ◌-◌, ◌*◌, Bool, true, false, cond, not, ◌&&◌, ◌||◌, List, [], ◌∷◌, ◌++◌, length, take, drop, is_some, Some, None, codes, decimal, Option, ◌==◌, nat_le, nat_lt}
use Rattle.dump.specs.Heaps.{Text}
use Rattle.numeral.specs.Digits.{whole_digits, value_from}
use Rattle.numeral.specs.Numerals.{minus, body, is_numeral, whole_of, whole_bits}
use Rattle.evaluator.specs.Options.{and_then, when, or_else}
use Rattle.evaluator.specs.Characters.{characters}
use Rattle.evaluator.specs.Tokens.{Token, word, number, string, mark, break, hex_value, tokens}
use Rattle.evaluator.specs.Trees.{Tree, leaf, node, Trees, nil, cons, trees}
use Rattle.evaluator.specs.Stores as stores
use Rattle.evaluator.specs.Stores.{Val, undefined, null, boolean, big, text, ref, Shape, wrapped, regexp, date, ordinary, array, mapping, setting, buffer, view, error, Slot, keyed, pair, single, Obj, Bound, bound, State, start, Made, made, make, lookup, change, place, object_of, has_key, with_key}
use Rattle.evaluator.specs.Makes.{is, integer, key_in, construct, buffer_of, call}
use Rattle.evaluator.specs.Commands.{name_of, is_proto, is_mark, assigned, Command, binds, assigns, does, gives, command, Ran, ran, solid, is_opening, is_closing, is_return, breaks_first, without_breaks}

-- numbers as they are written

abbrev pub hex_from : ℕ → List ℕ → Option ℕ
hex_from n [] = Some n
hex_from n (c ∷ cs) = when (nat_lt (hex_value c) 16) (hex_from (n * 16 + hex_value c) cs)

abbrev pub hex_number : List ℕ → Option ℕ
hex_number [] = None
hex_number (c ∷ cs) = hex_from 0 (c ∷ cs)

-- 0x.., without the 0x
abbrev pub hex_body : List ℕ → Option (List ℕ)
hex_body t = when (is (take 2 t) (codes "0x") || is (take 2 t) (codes "0X")) (Some (drop 2 t))

-- a BigInt, without its n
abbrev pub without_n : List ℕ → Option (List ℕ)
without_n [] = None
without_n (c ∷ []) = when (c == 110) (Some [])
without_n (c ∷ d ∷ ds) = and_then (without_n (d ∷ ds)) (λ t. Some (c ∷ t))

abbrev pub whole_number : List ℕ → Option ℕ
whole_number t = or_else (and_then (hex_body t) hex_number) (when (whole_digits t) (Some (value_from 0 t)))

-- below 2^53 a whole number is a double
abbrev pub hex_double : Bool → ℕ → Option Val
hex_double negative n = when (nat_le n 9007199254740991) (Some (stores.number (whole_bits negative n)))

-- expressions

-- what is read of an expression so far
pub data Partial : Type 0 where
  nothing : Partial
  got : Val → Partial
  -- a minus; new; new W; a value and a dot; a value, a dot and a method
  negative new_word : Partial
  new_of : List ℕ → Partial
  dotted : Val → Partial
  method : Val → List ℕ → Partial

pub record Listed : Type 0 where
  pub vals : List (Option Val)
  pub state : State

pub record Stepped : Type 0 where
  pub partial : Partial
  pub after : State

abbrev pub stepped : Partial → State → Option Stepped
stepped p s = Some (record { partial = p; after = s })

abbrev pub of_made : Option Made → Option Stepped
of_made m = and_then m (λ v. stepped (got v.val) v.state)

-- words that are values, and names
abbrev pub word_value : List ℕ → State → Option Val
word_value w s =
    cond (is w (codes "undefined")) (Some undefined)
    (cond (is w (codes "null")) (Some null)
    (cond (is w (codes "true")) (Some (boolean true))
    (cond (is w (codes "false")) (Some (boolean false))
    (cond (is w (codes "NaN")) (Some (stores.number 9221120237041090560))
    (cond (is w (codes "Infinity")) (Some (stores.number 9218868437227405312))
    (and_then (name_of w) (lookup s.names)))))))

abbrev pub all_vals : List (Option Val) → Option (List Val)
all_vals [] = Some []
all_vals (None ∷ vs) = None
all_vals (Some v ∷ vs) = and_then (all_vals vs) (λ us. Some (v ∷ us))

-- elements with their indexes; a hole has none
abbrev pub element_slots : ℕ → List (Option Val) → List Slot
element_slots i [] = []
element_slots i (None ∷ vs) = element_slots (suc i) vs
element_slots i (Some v ∷ vs) = keyed (decimal i) v ∷ element_slots (suc i) vs

abbrev pub only_val : List (Option Val) → Option Val
only_val [] = None
only_val (None ∷ vs) = None
only_val (Some v ∷ []) = Some v
only_val (Some v ∷ x ∷ xs) = None

-- a comma at this level
abbrev pub has_comma : Trees → Bool
has_comma nil = false
has_comma (cons t ts) = is_mark 44 t || has_comma ts

-- brackets behind what was read: an array, an expression in brackets (with no comma), arguments
abbrev pub bracket : Partial → ℕ → Bool → List (Option Val) → State → Option Stepped
bracket nothing c comma_inside vs s =
    cond (c == 91) (of_made (make (array (length vs)) (element_slots 0 vs) s))
    (when (not comma_inside) (and_then (only_val vs) (λ v. stepped (got v) s)))
bracket (got v) c comma_inside vs s = None
bracket negative c comma_inside vs s = None
bracket new_word c comma_inside vs s = None
bracket (new_of w) c comma_inside vs s = when (c == 40) (and_then (all_vals vs) (λ us. of_made (construct w us s)))
bracket (dotted v) c comma_inside vs s = None
bracket (method v w) c comma_inside vs s = when (c == 40) (and_then (all_vals vs) (λ us. of_made (call w v us s)))

abbrev pub braced : Partial → List Slot → State → Option Stepped
braced nothing ss s = of_made (make ordinary ss s)
braced (got v) ss s = None
braced negative ss s = None
braced new_word ss s = None
braced (new_of w) ss s = None
braced (dotted v) ss s = None
braced (method v w) ss s = None

pub data Keying : Type 0 where
  want_key : Keying
  want_colon : Text → Keying
  in_value : Text → Partial → Keying

pub record Braces : Type 0 where
  pub keying : Keying
  pub slots : List Slot
  pub so_far : State

pub record Braced : Type 0 where
  pub made_slots : List Slot
  pub then_state : State

-- values that are done, and what is read of the next
pub record Reading : Type 0 where
  pub now_partial : Partial
  pub done : List (Option Val)
  pub then_after : State

abbrev pub reading_of : List (Option Val) → Option Stepped → Option Reading
reading_of vs q = and_then q (λ x. Some (record { now_partial = x.partial; done = vs; then_after = x.after }))

-- a comma ends a value, or stands for a hole
abbrev pub comma : Partial → List (Option Val) → State → Option Reading
comma nothing vs s = reading_of (vs ++ (None ∷ [])) (stepped nothing s)
comma (got v) vs s = reading_of (vs ++ (Some v ∷ [])) (stepped nothing s)
comma negative vs s = None
comma new_word vs s = None
comma (new_of w) vs s = None
comma (dotted v) vs s = None
comma (method v w) vs s = None

abbrev pub finish : Partial → List (Option Val) → State → Option Listed
finish nothing vs s = Some (record { vals = vs; state = s })
finish (got v) vs s = Some (record { vals = vs ++ (Some v ∷ []); state = s })
finish negative vs s = None
finish new_word vs s = None
finish (new_of w) vs s = None
finish (dotted v) vs s = None
finish (method v w) vs s = None

abbrev pub braces : Keying → List Slot → State → Option Braces
braces k ss s = Some (record { keying = k; slots = ss; so_far = s })

-- a value in braces ends
abbrev pub end_value : Text → Partial → List Slot → State → Option Braces
end_value k nothing ss s = None
end_value k (got v) ss s = braces want_key (with_key k v ss) s
end_value k negative ss s = None
end_value k new_word ss s = None
end_value k (new_of w) ss s = None
end_value k (dotted v) ss s = None
end_value k (method v w) ss s = None

abbrev pub braces_end : Keying → List Slot → State → Option Braced
braces_end want_key ss s = Some (record { made_slots = ss; then_state = s })
braces_end (want_colon k) ss s = None
braces_end (in_value k p) ss s = and_then (end_value k p ss s) (λ b. Some (record { made_slots = b.slots; then_state = s }))

pub record Keyed : Type 0 where
  pub key : Text
  pub key_state : State

-- a key without square brackets: not __proto__, which would set the prototype
abbrev pub plain_key : Text → State → Option Keyed
plain_key k s = when (not (is_proto k)) (Some (record { key = k; key_state = s }))

abbrev pub leaf_key : Token → State → Option Keyed
leaf_key (word w) s = plain_key w s
leaf_key (number t) s = None
leaf_key (string us) s = plain_key us s
leaf_key (mark c) s = None
leaf_key break s = None

module _ (reading : List ℕ → Option ℕ) where
  -- by the speller's pairs, other numbers as they stand
  abbrev pub numeral_value : List ℕ → Option Val
  numeral_value t =
      or_else (and_then (reading t) (λ bits. Some (stores.number bits)))
      (when (is_numeral t) (and_then (whole_of t) (λ n. Some (stores.number (whole_bits (minus t) n)))))

  abbrev pub number_value : List ℕ → Option Val
  number_value t =
      or_else (and_then (without_n (body t)) (λ d. and_then (whole_number d) (λ n. Some (big (integer (minus t) n)))))
      (or_else (and_then (hex_body (body t)) (λ d. and_then (hex_number d) (hex_double (minus t))))
      (numeral_value t))

  -- a token behind what was read
  abbrev pub leaf_step : Partial → Token → State → Option Stepped
  leaf_step nothing (word w) s = cond (is w (codes "new")) (stepped new_word s) (and_then (word_value w s) (λ v. stepped (got v) s))
  leaf_step nothing (number t) s = and_then (number_value t) (λ v. stepped (got v) s)
  leaf_step nothing (string us) s = stepped (got (text us)) s
  leaf_step nothing (mark c) s = when (c == 45) (stepped negative s)
  leaf_step nothing break s = stepped nothing s
  leaf_step (got v) (word w) s = None
  leaf_step (got v) (number t) s = None
  leaf_step (got v) (string us) s = None
  leaf_step (got v) (mark c) s = when (c == 46) (stepped (dotted v) s)
  leaf_step (got v) break s = stepped (got v) s
  leaf_step negative (word w) s = when (is w (codes "Infinity")) (stepped (got (stores.number 18442240474082181120)) s)
  leaf_step negative (number t) s = None
  leaf_step negative (string us) s = None
  leaf_step negative (mark c) s = None
  leaf_step negative break s = stepped negative s
  leaf_step new_word (word w) s = stepped (new_of w) s
  leaf_step new_word (number t) s = None
  leaf_step new_word (string us) s = None
  leaf_step new_word (mark c) s = None
  leaf_step new_word break s = stepped new_word s
  leaf_step (new_of w) (word v) s = None
  leaf_step (new_of w) (number t) s = None
  leaf_step (new_of w) (string us) s = None
  leaf_step (new_of w) (mark c) s = None
  leaf_step (new_of w) break s = stepped (new_of w) s
  leaf_step (dotted v) (word w) s = cond (is w (codes "buffer")) (of_made (buffer_of v s)) (stepped (method v w) s)
  leaf_step (dotted v) (number t) s = None
  leaf_step (dotted v) (string us) s = None
  leaf_step (dotted v) (mark c) s = None
  leaf_step (dotted v) break s = stepped (dotted v) s
  leaf_step (method v w) (word u) s = None
  leaf_step (method v w) (number t) s = None
  leaf_step (method v w) (string us) s = None
  leaf_step (method v w) (mark c) s = None
  leaf_step (method v w) break s = stepped (method v w) s

  abbrev mutual
    -- a tree behind what was read
    pub eval_tree : Tree → Partial → State → Option Stepped
    eval_tree (leaf t) p s = leaf_step p t s
    eval_tree (node c inner) p s =
        cond (c == 123) (and_then (eval_braces inner want_key [] s) (λ b. braced p b.made_slots b.then_state))
        (and_then (eval_list inner nothing [] s) (λ l. bracket p c (has_comma inner) l.vals l.state))

    -- expressions with commas between them
    pub eval_list : Trees → Partial → List (Option Val) → State → Option Listed
    eval_list nil p vs s = finish p vs s
    eval_list (cons t ts) p vs s =
        and_then (cond (is_mark 44 t) (comma p vs s) (reading_of vs (eval_tree t p s))) (λ r. eval_list ts r.now_partial r.done r.then_after)

    -- a key in braces, or in square brackets there
    pub eval_key : Tree → State → Option Keyed
    eval_key (leaf t) s = leaf_key t s
    eval_key (node c inner) s = when (c == 91 && not (has_comma inner)) (and_then (eval_list inner nothing [] s) (λ l. and_then (and_then (only_val l.vals) key_in) (λ k. Some (record { key = k; key_state = l.state }))))

    -- keys and values in braces
    pub eval_braces : Trees → Keying → List Slot → State → Option Braced
    eval_braces nil k ss s = braces_end k ss s
    eval_braces (cons t ts) want_key ss s = and_then (eval_key t s) (λ k. eval_braces ts (want_colon k.key) ss k.key_state)
    eval_braces (cons t ts) (want_colon k) ss s = when (is_mark 58 t) (eval_braces ts (in_value k nothing) ss s)
    eval_braces (cons t ts) (in_value k p) ss s =
        and_then (cond (is_mark 44 t) (end_value k p ss s) (and_then (eval_tree t p s) (λ q. braces (in_value k q.partial) ss q.after)))
        (λ b. eval_braces ts b.keying b.slots b.so_far)

  -- one expression
  abbrev pub evaluate : Trees → State → Option Made
  evaluate ts s = when (not (has_comma ts)) (and_then (eval_list ts nothing [] s) (λ l. and_then (only_val l.vals) (λ v. made v l.state)))

  abbrev pub run_command : Command → State → Option Ran
  run_command (binds n e) s =
      and_then (evaluate e s) (λ m. when (not (is_some (lookup m.state.names n))) (ran (record { objects = m.state.objects; names = m.state.names ++ (bound n m.val ∷ []) }) None))
  run_command (assigns n k e) s =
      and_then (lookup s.names n) (λ target. and_then (evaluate k s) (λ key. and_then (key_in key.val) (λ name. and_then (evaluate e key.state) (λ m.
      and_then (place target) (λ p. and_then (object_of m.state target) (λ o. and_then (assigned name m.val o.shape o.slots) (λ u. ran (change p u m.state) None)))))))
  run_command (does e) s = and_then (evaluate e s) (λ m. ran m.state None)
  run_command (gives e) s = and_then (evaluate e s) (λ m. ran m.state (Some m.val))

  abbrev pub returned : List Token → State → Option Ran
  returned ts s =
      when (is_return (take 1 (without_breaks ts)) && (not (breaks_first (drop 1 (without_breaks ts))) && is_closing (drop (length (solid ts) - 4) (solid ts))))
      (and_then (trees (take (length (solid ts) - 5) (drop 1 (solid ts)))) (λ e. run_command (gives e) s))

  abbrev pub run_tokens : List Token → State → Option Ran
  run_tokens ts s =
      cond (is_opening (solid ts)) (ran s None)
      (or_else (returned ts s) (and_then (and_then (trees ts) command) (λ c. run_command c s)))

  abbrev pub run_line : List ℕ → State → Option Ran
  run_line bytes s = and_then (and_then (characters bytes) tokens) (λ ts. run_tokens ts s)

  -- lines one after the other: nothing runs behind a result
  abbrev pub run_lines : List (List ℕ) → Ran → Option Ran
  run_lines [] r = Some r
  run_lines (l ∷ ls) r = and_then (when (not (is_some r.result)) (run_line l r.state)) (run_lines ls)

  abbrev pub run : List (List ℕ) → Option Ran
  run ls = run_lines ls (record { state = start; result = None })
