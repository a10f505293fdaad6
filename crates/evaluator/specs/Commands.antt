-- The forms of lines: what a line is to do, from its tokens and trees.
use Rattle.std.specs.Prelude.{ℕ, Bool, true, false, cond, not, ◌&&◌, ◌||◌, List, [], ◌∷◌, ◌++◌, Some, None, codes, Option, ◌==◌, nat_lt}
use Rattle.dump.specs.Heaps.{Text}
use Rattle.numeral.specs.Digits.{index_of, whole_within}
use Rattle.numeral.specs.Words.{same_units}
use Rattle.evaluator.specs.Options.{and_then, when, or_else}
use Rattle.evaluator.specs.Tokens.{Token, word, number, string, mark, break}
use Rattle.evaluator.specs.Trees.{Tree, leaf, node, Trees, nil, cons}
use Rattle.evaluator.specs.Stores.{Val, Shape, wrapped, regexp, date, ordinary, array, mapping, setting, buffer, view, error, Slot, single, Obj, State, has_key, with_key}
use Rattle.evaluator.specs.Makes.{is, message_in}

-- v and a number
abbrev pub name_of : List ℕ → Option ℕ
name_of [] = None
name_of (c ∷ cs) = when (c == 118) (whole_within 4294967295 cs)

abbrev pub is_proto : Text → Bool
is_proto t = same_units t (codes "__proto__")

abbrev pub is_mark : ℕ → Tree → Bool
is_mark c (leaf (word w)) = false
is_mark c (leaf (number t)) = false
is_mark c (leaf (string us)) = false
is_mark c (leaf (mark d)) = c == d
is_mark c (leaf break) = false
is_mark c (node d ts) = false

-- n[k] = v
abbrev pub assigned : Text → Val → Shape → List Slot → Option Obj
assigned k v (wrapped w) ss = None
assigned k v (regexp t f) ss = None
assigned k v (date z) ss = None
assigned k v ordinary ss = when (not (is_proto k) || has_key k ss) (Some (record { shape = ordinary; slots = with_key k v ss }))
assigned k v (array n) ss = when (may_assign (index_of k)) (Some (record { shape = array n; slots = with_key k v ss }))
  where
    may_assign : Option ℕ → Bool
    may_assign None = not (is_proto k) && not (same_units k (codes "length"))
    may_assign (Some i) = nat_lt i n
assigned k v mapping ss = None
assigned k v setting ss = None
assigned k v (buffer bs m) ss = None
assigned k v (view w o n) ss = None
assigned k v (error e m st) ss =
    cond (same_units k (codes "cause")) (Some (record { shape = error e m st; slots = single v ∷ [] }))
    (when (same_units k (codes "stack")) (and_then (message_in v) (λ t. Some (record { shape = error e m t; slots = ss }))))

pub data Command : Type 0 where
  binds : ℕ → Trees → Command
  assigns : ℕ → Trees → Trees → Command
  does gives : Trees → Command

abbrev pub word_in : Tree → Option (List ℕ)
word_in (leaf (word w)) = Some w
word_in (leaf (number t)) = None
word_in (leaf (string us)) = None
word_in (leaf (mark d)) = None
word_in (leaf break) = None
word_in (node d ts) = None

abbrev pub in_square : Tree → Option Trees
in_square (leaf t) = None
in_square (node d ts) = when (d == 91) (Some ts)

-- what comes before a semicolon at the end
abbrev pub ended : Trees → Option Trees
ended nil = None
ended (cons t nil) = when (is_mark 59 t) (Some nil)
ended (cons t (cons u us)) = and_then (ended (cons u us)) (λ ts. Some (cons t ts))

-- the line's first three trees and the rest
abbrev pub as_binding : Trees → Option Command
as_binding nil = None
as_binding (cons t nil) = None
as_binding (cons t (cons u nil)) = None
as_binding (cons t (cons u (cons v rest))) =
    and_then (word_in t) (λ w. when (is w (codes "const") && is_mark 61 v) (and_then (and_then (word_in u) name_of) (λ n. and_then (ended rest) (λ e. Some (binds n e)))))

abbrev pub as_assignment : Trees → Option Command
as_assignment nil = None
as_assignment (cons t nil) = None
as_assignment (cons t (cons u nil)) = None
as_assignment (cons t (cons u (cons v rest))) =
    and_then (and_then (word_in t) name_of) (λ n. and_then (in_square u) (λ k. when (is_mark 61 v) (and_then (ended rest) (λ e. Some (assigns n k e)))))

-- braces at the start of a line are a block
abbrev pub is_block : Trees → Bool
is_block nil = false
is_block (cons (leaf t) ts) = false
is_block (cons (node c us) ts) = c == 123

abbrev pub command : Trees → Option Command
command ts =
    or_else (as_binding ts)
    (or_else (as_assignment ts)
    (when (not (is_block ts)) (or_else (and_then (ended ts) (λ e. Some (does e))) (Some (gives ts)))))

-- the state after a line, and the result of the last
pub record Ran : Type 0 where
  pub state : State
  pub result : Option Val

abbrev pub ran : State → Option Val → Option Ran
ran s r = Some (record { state = s; result = r })

abbrev pub solid : List Token → List Token
solid [] = []
solid (word w ∷ ts) = word w ∷ solid ts
solid (number t ∷ ts) = number t ∷ solid ts
solid (string us ∷ ts) = string us ∷ solid ts
solid (mark c ∷ ts) = mark c ∷ solid ts
solid (break ∷ ts) = solid ts

-- a token's word or mark, as a text
abbrev pub shown : Token → Text
shown (word w) = w
shown (number t) = t
shown (string us) = 34 ∷ us
shown (mark c) = c ∷ []
shown break = []

abbrev pub shows_all : List Token → Text
shows_all [] = []
shows_all (t ∷ ts) = shown t ++ (32 ∷ shows_all ts)

abbrev pub is_opening : List Token → Bool
is_opening ts = is (shows_all ts) (codes "( function ( ) { ")

abbrev pub is_closing : List Token → Bool
is_closing ts = is (shows_all ts) (codes "} ) ( ) ")

abbrev pub is_return : List Token → Bool
is_return ts = is (shows_all ts) (codes "return ")

-- a line end right behind `return` would end the statement
abbrev pub breaks_first : List Token → Bool
breaks_first [] = false
breaks_first (word w ∷ ts) = false
breaks_first (number t ∷ ts) = false
breaks_first (string us ∷ ts) = false
breaks_first (mark c ∷ ts) = false
breaks_first (break ∷ ts) = true

abbrev pub without_breaks : List Token → List Token
without_breaks [] = []
without_breaks (word w ∷ ts) = word w ∷ ts
without_breaks (number t ∷ ts) = number t ∷ ts
without_breaks (string us ∷ ts) = string us ∷ ts
without_breaks (mark c ∷ ts) = mark c ∷ ts
without_breaks (break ∷ ts) = without_breaks ts
