-- The first of a list that passes a test: it is a member and passes, and where there is none, no member does.
use Rattle.std.proofs.Common.{◌≡◌, ℕ, Bool, true, false, cond, eqb, List, [], ◌∷◌, Some, None, sym, refl, subst, ⊎_elim, eqb-true}
use Rattle.std.proofs.lemmas.Bool.{or_cases, both_ways, or_right}
use Rattle.planner.specs.Visits.{mem}
use Rattle.planner.specs.Names.{first}
use Rattle.visits.proofs.Lists.{mem_head}
use Rattle.effects.proofs.Options.{none_some, cases_option}

pub first_some : (p : ℕ → Bool) (xs : List ℕ) (x : ℕ) → first p xs ≡ Some x → (mem x xs ≡ true) × (p x ≡ true)
first_some p [] x e = absurd (none_some e)
first_some p (y ∷ xs) x e = go (p y) refl e (first_some p xs x)
  where
    go : (t : Bool) → p y ≡ t → cond t (Some y) (first p xs) ≡ Some x → (first p xs ≡ Some x → (mem x xs ≡ true) × (p x ≡ true)) → (mem x (y ∷ xs) ≡ true) × (p x ≡ true)
    go true a d ih = let s : y ≡ x = cc in (subst (λ z. mem z (y ∷ xs) ≡ true) s (mem_head y xs), subst (λ z. p z ≡ true) s a)
    go false a d ih = let r = ih d in (or_right (eqb x y) (mem x xs) r.0, r.1)

pub first_none : (p : ℕ → Bool) (xs : List ℕ) → first p xs ≡ None → (x : ℕ) → mem x xs ≡ true → p x ≡ false
first_none p [] e x m = absurd (both_ways false refl m)
first_none p (y ∷ xs) e x m = go (p y) refl e (λ d. first_none p xs d x)
  where
    go : (t : Bool) → p y ≡ t → cond t (Some y) (first p xs) ≡ None → (first p xs ≡ None → mem x xs ≡ true → p x ≡ false) → p x ≡ false
    go true a d ih = absurd (none_some (sym d))
    go false a d ih = ⊎_elim (λ (q : eqb x y ≡ true). subst (λ z. p z ≡ false) (sym (eqb-true x y q)) a) (λ (q : mem x xs ≡ true). ih d q) (or_cases (eqb x y) (mem x xs) m)

-- some member passes, so there is a first
pub first_any : (p : ℕ → Bool) (xs : List ℕ) (x : ℕ) → mem x xs ≡ true → p x ≡ true → (y : ℕ) × (first p xs ≡ Some y)
first_any p xs x m t =
    ⊎_elim (λ (n : first p xs ≡ None). absurd (both_ways (p x) (first_none p xs n x m) t)) (λ (s : (y : ℕ) × (first p xs ≡ Some y)). s)
    (cases_option (first p xs))
