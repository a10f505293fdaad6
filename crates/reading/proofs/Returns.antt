-- The line that returns, and closes its function.
use Rattle.std.proofs.Common.{◌≡◌, ℕ, suc, ◌-◌, false, not, ◌&&◌, List, [], ◌∷◌, ◌++◌, length, take, drop, Some, None, codes, Option, refl, ap, ◌∙◌, arith, length-append}
use Rattle.std.proofs.lemmas.List.Prefix.{end_rest}
use Rattle.std.proofs.lemmas.List.{take_at}
use Rattle.evaluator.specs.Options.{and_then, when}
use Rattle.evaluator.specs.Tokens.{Token, word, number, string, mark, break}
use Rattle.evaluator.specs.Trees.{Trees, Growing, growing, grow_step, grow, grown, trees, nil}
use Rattle.evaluator.specs.Stores.{State}
use Rattle.evaluator.specs.Commands.{gives, Ran, solid, is_closing, breaks_first}
use Rattle.evaluator.specs.Runs.{run_command, returned}

either_way : (o : Option Growing) (f g : Growing → Option Growing) → ((x : Growing) → f x ≡ g x) → and_then o f ≡ and_then o g
either_way None f g h = refl
either_way (Some x) f g h = h x

-- line ends change no tree
grow_solid : (ts : List Token) (g : Growing) → grow (solid ts) g ≡ grow ts g
grow_solid [] g = refl
grow_solid (word w ∷ ts) g = either_way (grow_step (word w) g) (grow (solid ts)) (grow ts) (grow_solid ts)
grow_solid (number w ∷ ts) g = either_way (grow_step (number w) g) (grow (solid ts)) (grow ts) (grow_solid ts)
grow_solid (string us ∷ ts) g = either_way (grow_step (string us) g) (grow (solid ts)) (grow ts) (grow_solid ts)
grow_solid (mark c ∷ ts) g = either_way (grow_step (mark c) g) (grow (solid ts)) (grow ts) (grow_solid ts)
grow_solid (break ∷ ts) (growing us st) = grow_solid ts (growing us st)

trees_solid : (ts : List Token) → trees (solid ts) ≡ trees ts
trees_solid ts = ap (λ z. and_then z grown) (grow_solid ts (growing nil []))

solid_append : (xs ys : List Token) → solid (xs ++ ys) ≡ solid xs ++ solid ys
solid_append [] ys = refl
solid_append (word w ∷ xs) ys = ap (λ z. word w ∷ z) (solid_append xs ys)
solid_append (number w ∷ xs) ys = ap (λ z. number w ∷ z) (solid_append xs ys)
solid_append (string us ∷ xs) ys = ap (λ z. string us ∷ z) (solid_append xs ys)
solid_append (mark c ∷ xs) ys = ap (λ z. mark c ∷ z) (solid_append xs ys)
solid_append (break ∷ xs) ys = solid_append xs ys

-- } ) ( )
abbrev pub closing : List Token
closing = mark 125 ∷ mark 41 ∷ mark 40 ∷ mark 41 ∷ []

pub return_runs : (reading : List ℕ → Option ℕ) (xs : List Token) (us : Trees) (s : State) → breaks_first (xs ++ (break ∷ closing)) ≡ false → trees xs ≡ Some us
    → returned reading (word (codes "return") ∷ (xs ++ (break ∷ closing))) s ≡ run_command reading (gives us) s
return_runs reading xs us s b t =
    let w : Token = word (codes "return") in
    let ts : List Token = w ∷ (xs ++ (break ∷ closing)) in
    let f : List Token → Option Ran = λ ys. and_then (trees ys) (λ e. run_command reading (gives e) s) in
    ap (λ z. when (not z && is_closing (drop (length (solid ts) - 4) (solid ts))) (f (take (length (solid ts) - 5) (drop 1 (solid ts))))) b
    ∙ (ap (λ z. when (is_closing z) (f (take (length (solid ts) - 5) (drop 1 (solid ts))))) (end_rest (solid ts) closing (w ∷ solid xs) (ap (λ z. w ∷ z) (solid_append xs (break ∷ closing))))
    ∙ (ap f inside
    ∙ ap (λ z. and_then z (λ e. run_command reading (gives e) s)) (trees_solid xs ∙ t)))
  where
    inside : take (suc (length (solid (xs ++ (break ∷ closing)))) - 5) (solid (xs ++ (break ∷ closing))) ≡ solid xs
    inside =
        ap (λ z. take (suc (length z) - 5) z) (solid_append xs (break ∷ closing))
        ∙ take_at (solid xs) closing (suc (length (solid xs ++ closing)) - 5) (omega (arith, length-append (solid xs) closing))
