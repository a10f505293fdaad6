-- Statements one after the other.
use Rattle.std.proofs.Common.{◌≡◌, ℕ, not, List, [], ◌∷◌, ◌++◌, is_some, Some, None, Option, refl, ap, ◌∙◌, arith}
use Rattle.script.specs.Syntax.{Stmt}
use Rattle.evaluator.specs.Options.{and_then, when}
use Rattle.evaluator.specs.Stores.{State}
use Rattle.evaluator.specs.Commands.{Ran, ran}
use Rattle.effects.specs.Effects.{stmt_done, stmts_done}

-- a state with no result yet
abbrev pub going : State → Ran
going s = record { state = s; result = None }

-- statements that lead from one state to another, without a result
abbrev pub Leads : List Stmt → State → State → Type 0
Leads xs s s' = stmts_done xs (going s) ≡ Some (going s')

pub stmts_append : (xs ys : List Stmt) (r r' : Ran) → stmts_done xs r ≡ Some r' → stmts_done (xs ++ ys) r ≡ stmts_done ys r'
stmts_append [] ys r r' e = let d : r ≡ r' = cc in ap (stmts_done ys) d
stmts_append (x ∷ xs) ys r r' e = go (when (not (is_some r.result)) (stmt_done x r.state)) e (λ a. stmts_append xs ys a r')
  where
    go : (o : Option Ran) → and_then o (stmts_done xs) ≡ Some r' → ((a : Ran) → stmts_done xs a ≡ Some r' → stmts_done (xs ++ ys) a ≡ stmts_done ys r') → and_then o (stmts_done (xs ++ ys)) ≡ stmts_done ys r'
    go None d ih = absurd (let z : ◌≡◌ {A = ℕ} 0 1 = cc in omega arith)
    go (Some a) d ih = ih a d

pub leads_nil : (s : State) → Leads [] s s
leads_nil s = refl

pub leads_append : (xs ys : List Stmt) (s₁ s₂ s₃ : State) → Leads xs s₁ s₂ → Leads ys s₂ s₃ → Leads (xs ++ ys) s₁ s₃
leads_append xs ys s₁ s₂ s₃ a b = stmts_append xs ys (going s₁) (going s₂) a ∙ b

pub leads_cons : (x : Stmt) (xs : List Stmt) (s₁ s₂ s₃ : State) → stmt_done x s₁ ≡ ran s₂ None → Leads xs s₂ s₃ → Leads (x ∷ xs) s₁ s₃
leads_cons x xs s₁ s₂ s₃ a b = ap (λ o. and_then o (stmts_done xs)) a ∙ b
