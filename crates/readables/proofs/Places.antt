-- Places and slots are at most the number of a heap's objects: a list without repetition, all below n, has at most n elements.
use Rattle.std.proofs.Common.{◌≡◌, ℕ, zero, suc, ◌+◌, ◌<◌, ◌≤◌, true, false, cond, eqb, List, [], ◌∷◌, length, Some, None, Option, sym, refl, ◌∙◌, subst, ⊎_elim, arith, eq-eqb, eqb-true}
use borrow.Author.Tests.{eqb-false}
use Rattle.std.proofs.lemmas.Bool.{cases_Bool, cond_both, or_cases, or_left, or_right, both_ways}
use Rattle.dump.specs.Heaps.{Heap}
use Rattle.planner.specs.Visits.{mem}
use Rattle.planner.specs.Names.{place_in, count, pos, backed, slot_by, slot}
use Rattle.rebuilds.specs.Adequate.{Adequate}
use Rattle.effects.specs.Readable.{Small}
use Rattle.effects.specs.Bounded.{Bounded}

-- a list without a number
abbrev pub without : ℕ → List ℕ → List ℕ
without n [] = []
without n (x ∷ xs) = cond (eqb x n) (without n xs) (x ∷ without n xs)

-- it loses as many as the number counts
pub length_without : (n : ℕ) (xs : List ℕ) → length xs ≡ count n xs + length (without n xs)
length_without n [] = refl
length_without n (x ∷ xs) =
    let ih = length_without n xs in
    ⊎_elim (λ (e : eqb x n ≡ true). let q = eq-eqb n x (sym (eqb-true x n e)) in grind arith)
    (λ (e : eqb x n ≡ false). let q = eqb-false x n e in grind arith) (cases_Bool (eqb x n))

-- and counts no number more often
pub count_without : (y n : ℕ) (xs : List ℕ) → count y (without n xs) ≤ count y xs
count_without y n [] = omega arith
count_without y n (x ∷ xs) =
    let ih = count_without y n xs in
    cond_both (eqb x n) (without n xs) (x ∷ without n xs) (λ z. count y z ≤ count y (x ∷ xs)) (λ e. omega arith) (λ e. omega arith)

-- its members are the list's, and not the number
pub mem_without : (y n : ℕ) (xs : List ℕ) → mem y (without n xs) ≡ true → (mem y xs ≡ true) × (y ≡ n → ⊥)
mem_without y n [] e = absurd (both_ways false refl e)
mem_without y n (x ∷ xs) e =
    ⊎_elim
    (λ (t : eqb x n ≡ true). let ih = mem_without y n xs (subst (λ b. mem y (cond b (without n xs) (x ∷ without n xs)) ≡ true) t e) in (or_right (eqb y x) (mem y xs) ih.0, ih.1))
    (λ (t : eqb x n ≡ false). ⊎_elim
    (λ (a : eqb y x ≡ true). (or_left (eqb y x) (mem y xs) a, λ q. eqb-false x n t (sym (eqb-true y x a) ∙ q)))
    (λ (a : mem y (without n xs) ≡ true). let ih = mem_without y n xs a in (or_right (eqb y x) (mem y xs) ih.0, ih.1))
    (or_cases (eqb y x) (mem y (without n xs)) (subst (λ b. mem y (cond b (without n xs) (x ∷ without n xs)) ≡ true) t e)))
    (cases_Bool (eqb x n))

-- a list without repetition, all below n, has at most n elements
pub few_below : (n : ℕ) (xs : List ℕ) → ((y : ℕ) → count y xs ≤ 1) → ((y : ℕ) → mem y xs ≡ true → y < n) → length xs ≤ n
few_below zero [] once below = omega arith
few_below zero (x ∷ xs) once below = let l = below x (or_left (eqb x x) (mem x xs) (eq-eqb x x refl)) in omega arith
few_below (suc n) xs once below =
    let a = length_without n xs in
    let b = once n in
    let ih = few_below n (without n xs) (λ y. let c = count_without y n xs in let d = once y in omega arith)
    (λ y e. let m = mem_without y n xs e in let l = below y m.0 in let o = m.1 in omega arith) in
    omega arith

-- a place is at most the length
pub place_length : (xs : List ℕ) (x : ℕ) → place_in xs x ≤ length xs
place_length [] x = omega arith
place_length (y ∷ ys) x = let ih = place_length ys x in cond_both (eqb x y) 0 (suc (place_in ys x)) (λ z. z ≤ length (y ∷ ys)) (λ e. omega arith) (λ e. omega arith)

module _ (h : Heap) (order : List ℕ) (f : Bounded h) (a : Adequate h order) where
  -- at most 4096 objects stand in an order
  pub order_few : length order ≤ 4096
  order_few = let l = few_below (length h.objects) order a.once a.inside in let m = f.formed.few in omega arith

  pub pos_few : (x : ℕ) → pos h order x ≤ 4096
  pos_few x = let l = place_length order x in let m = order_few in omega arith

  slot_by_few : (b : Option ℕ) (x : ℕ) → slot_by h order b x ≤ 4096
  slot_by_few None x = pos_few x
  slot_by_few (Some b) x = pos_few b

  pub slot_few : (x : ℕ) → slot h order x ≤ 4096
  slot_few x = slot_by_few (backed h order x) x

  pub pos_small : (x : ℕ) → Small (pos h order x)
  pos_small x = let l = pos_few x in omega arith

  pub slot_small : (x : ℕ) → Small (slot h order x)
  slot_small x = let l = slot_few x in omega arith
