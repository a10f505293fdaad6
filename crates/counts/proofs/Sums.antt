-- Sums over a list of numbers: compared, added, and taken over another list by how often each number stands in the first.
use Rattle.std.proofs.Common.{◌≡◌, ℕ, ◌+◌, ◌*◌, ◌≤◌, true, cond, eqb, List, [], ◌∷◌, sym, refl, ap, ◌∙◌, subst, ⊎_elim, add-mul, one-mul, zero-mul, arith, ne_eqb}
use Rattle.std.proofs.lemmas.Bool.{cases_eq, or_right}
use Rattle.planner.specs.Visits.{mem}
use Rattle.planner.specs.Names.{count}
use Rattle.visits.proofs.Lists.{count_mem, mem_head}

abbrev pub total : (ℕ → ℕ) → List ℕ → ℕ
total f [] = 0
total f (x ∷ xs) = f x + total f xs

pub total_le : (f g : ℕ → ℕ) (xs : List ℕ) → ((x : ℕ) → mem x xs ≡ true → f x ≤ g x) → total f xs ≤ total g xs
total_le f g [] le = omega arith
total_le f g (x ∷ xs) le =
    let a = le x (mem_head x xs) in
    let ih = total_le f g xs (λ z m. le z (or_right (eqb z x) (mem z xs) m)) in
    omega arith

pub total_same : (f g : ℕ → ℕ) (xs : List ℕ) → ((x : ℕ) → mem x xs ≡ true → f x ≡ g x) → total f xs ≡ total g xs
total_same f g [] same = refl
total_same f g (x ∷ xs) same =
    let a = same x (mem_head x xs) in
    let ih = total_same f g xs (λ z m. same z (or_right (eqb z x) (mem z xs) m)) in
    omega arith

pub total_zero : (f : ℕ → ℕ) (xs : List ℕ) → ((x : ℕ) → mem x xs ≡ true → f x ≡ 0) → total f xs ≡ 0
total_zero f [] none = refl
total_zero f (x ∷ xs) none =
    let a = none x (mem_head x xs) in
    let ih = total_zero f xs (λ z m. none z (or_right (eqb z x) (mem z xs) m)) in
    omega arith

pub total_add : (f g : ℕ → ℕ) (xs : List ℕ) → total (λ x. f x + g x) xs ≡ total f xs + total g xs
total_add f g [] = refl
total_add f g (x ∷ xs) = let ih = total_add f g xs in omega arith

-- one number's part of a sum
total_at : (f : ℕ → ℕ) (j : ℕ) (xs : List ℕ) → total (λ x. cond (eqb x j) 1 0 * f x) xs ≡ count j xs * f j
total_at f j [] = sym (zero-mul (f j))
total_at f j (x ∷ xs) =
    let ih = total_at f j xs in
    let d = add-mul (cond (eqb j x) 1 0) (count j xs) (f j) in
    let same : cond (eqb x j) 1 0 * f x ≡ cond (eqb j x) 1 0 * f j =
    ⊎_elim
    (λ (e : x ≡ j). subst (λ z. cond (eqb x z) 1 0 * f x ≡ cond (eqb z x) 1 0 * f z) e refl)
    (λ (n : x ≡ j → ⊥).
    let a = ap (λ z. cond z 1 0 * f x) (ne_eqb x j n) ∙ zero-mul (f x) in
    let b = ap (λ z. cond z 1 0 * f j) (ne_eqb j x (λ e. n (sym e))) ∙ zero-mul (f j) in
    a ∙ sym b)
    (cases_eq x j) in
    omega arith

-- A sum over members of a list without duplicates is one over that list.
pub total_over : (f : ℕ → ℕ) (order js : List ℕ) → ((y : ℕ) → count y order ≤ 1) → ((j : ℕ) → mem j js ≡ true → mem j order ≡ true) → total f js ≡ total (λ x. count x js * f x) order
total_over f order [] once inside = sym (total_zero (λ x. 0 * f x) order (λ x m. zero-mul (f x)))
total_over f order (j ∷ js) once inside =
    let ih = total_over f order js once (λ z m. inside z (or_right (eqb z j) (mem z js) m)) in
    let parts = total_same (λ x. (cond (eqb x j) 1 0 + count x js) * f x) (λ x. cond (eqb x j) 1 0 * f x + count x js * f x) order (λ x m. add-mul (cond (eqb x j) 1 0) (count x js) (f x)) in
    let add = total_add (λ x. cond (eqb x j) 1 0 * f x) (λ x. count x js * f x) order in
    let here_is = total_at f j order in
    let le = once j in
    let ge = count_mem j order (inside j (mem_head j js)) in
    let single : count j order ≡ 1 = omega arith in
    let times : count j order * f j ≡ f j = ap (λ z. z * f j) single ∙ one-mul (f j) in
    omega arith
