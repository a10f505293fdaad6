-- Tokens as trees: what stands in brackets is one tree.
use Rattle.std.specs.Prelude.{ℕ, ◌+◌, Bool, cond, ◌||◌, List, [], ◌∷◌, Some, None, Option, ◌==◌}
use Rattle.evaluator.specs.Options.{and_then}
use Rattle.evaluator.specs.Tokens.{Token, word, number, string, mark, break}

mutual
  pub data Tree : Type 0 where
    leaf : Token → Tree
    -- an opening bracket by its code, and what it holds
    node : ℕ → Trees → Tree

  pub data Trees : Type 0 where
    nil : Trees
    cons : Tree → Trees → Trees

abbrev pub snoc : Trees → Tree → Trees
snoc nil t = cons t nil
snoc (cons x xs) t = cons x (snoc xs t)

-- brackets that are open, innermost first, each with what it holds so far
pub data Open : Type 0 where
  held : ℕ → Trees → Open

abbrev pub is_opening : ℕ → Bool
is_opening c = c == 40 || (c == 91 || c == 123)

abbrev pub is_closing : ℕ → Bool
is_closing c = c == 41 || (c == 93 || c == 125)

-- ( is closed by ), [ by ], { by }
abbrev pub closes : ℕ → ℕ → Bool
closes o c = cond (o == 40) (c == 41) (c == o + 2)

-- the trees so far, and the brackets that are open
pub data Growing : Type 0 where
  growing : Trees → List Open → Growing

abbrev pub closed : ℕ → Trees → List Open → Option Growing
closed c ts [] = None
closed c ts (held o us ∷ st) = cond (closes o c) (Some (growing (snoc us (node o ts)) st)) None

abbrev pub grow_step : Token → Growing → Option Growing
grow_step (word w) (growing ts st) = Some (growing (snoc ts (leaf (word w))) st)
grow_step (number w) (growing ts st) = Some (growing (snoc ts (leaf (number w))) st)
grow_step (string us) (growing ts st) = Some (growing (snoc ts (leaf (string us))) st)
grow_step (mark c) (growing ts st) =
    cond (is_opening c) (Some (growing nil (held c ts ∷ st)))
    (cond (is_closing c) (closed c ts st)
    (Some (growing (snoc ts (leaf (mark c))) st)))
grow_step break (growing ts st) = Some (growing ts st)

abbrev pub grow : List Token → Growing → Option Growing
grow [] g = Some g
grow (t ∷ ts) g = and_then (grow_step t g) (grow ts)

abbrev pub grown : Growing → Option Trees
grown (growing ts []) = Some ts
grown (growing ts (held o us ∷ st)) = None

abbrev pub trees : List Token → Option Trees
trees ts = and_then (grow ts (growing nil [])) grown
