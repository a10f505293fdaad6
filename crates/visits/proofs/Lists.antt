-- Membership and count in a list of numbers: appended lists, members, a member's place in it.
use Rattle.std.proofs.Common.{◌≡◌, ℕ, ◌+◌, ◌≤◌, true, false, ◌||◌, eqb, ◌⊎◌, List, [], ◌∷◌, ◌++◌, refl, ap, ◌∙◌, inl, inr, ⊎_elim, arith, eq-eqb, eqb-true}
use Rattle.std.proofs.lemmas.Bool.{cases_Bool, or_parts, or_cases, both_ways, or_right, or_left}
use Rattle.planner.specs.Visits.{mem}
use Rattle.planner.specs.Names.{count}

-- an appended list counts both
pub count-++ : (y : ℕ) (xs ys : List ℕ) → count y (xs ++ ys) ≡ count y xs + count y ys
count-++ y [] ys = omega arith
count-++ y (x ∷ xs) ys = let ih = count-++ y xs ys in omega arith

-- a member of an appended list is one of either
pub mem-++ : (x : ℕ) (xs ys : List ℕ) → mem x (xs ++ ys) ≡ (mem x xs || mem x ys)
mem-++ x [] ys = refl
mem-++ x (y ∷ xs) ys = grind (arith, mem-++ x xs ys)

-- with one more at the end
pub mem_snoc : (x i : ℕ) (xs : List ℕ) → mem x (xs ++ (i ∷ [])) ≡ (mem x xs || eqb x i)
mem_snoc x i [] = grind arith
mem_snoc x i (y ∷ xs) = let ih = mem_snoc x i xs in grind arith

-- members of the first stay
pub mem_left : (x : ℕ) (xs ys : List ℕ) → mem x xs ≡ true → mem x (xs ++ ys) ≡ true
mem_left x xs ys e = mem-++ x xs ys ∙ or_left (mem x xs) (mem x ys) e

-- members of the second stay
pub mem_right : (x : ℕ) (xs ys : List ℕ) → mem x ys ≡ true → mem x (xs ++ ys) ≡ true
mem_right x xs ys e = mem-++ x xs ys ∙ or_right (mem x xs) (mem x ys) e

-- the head is a member
pub mem_head : (x : ℕ) (xs : List ℕ) → mem x (x ∷ xs) ≡ true
mem_head x xs = or_left (eqb x x) (mem x xs) (eq-eqb x x refl)

-- a member counts at least once
pub count_mem : (x : ℕ) (xs : List ℕ) → mem x xs ≡ true → 1 ≤ count x xs
count_mem x [] e = grind arith
count_mem x (y ∷ xs) e =
    ⊎_elim (λ (a : eqb x y ≡ true). grind arith) (λ (a : mem x xs ≡ true). let ih = count_mem x xs a in omega arith) (or_cases (eqb x y) (mem x xs) e)

-- what is no member counts nothing
pub count_none : (x : ℕ) (xs : List ℕ) → mem x xs ≡ false → count x xs ≡ 0
count_none x [] e = refl
count_none x (y ∷ xs) e = let p = or_parts (eqb x y) (mem x xs) e in let ih = count_none x xs p.1 in grind arith

-- a member stands somewhere
pub record Split (x : ℕ) (xs : List ℕ) : Type 0 where
  pub before : List ℕ
  pub after : List ℕ
  pub whole : xs ≡ before ++ (x ∷ after)

-- so each member splits its list
pub split_at : (x : ℕ) (xs : List ℕ) → mem x xs ≡ true → Split x xs
split_at x [] e = absurd (both_ways false refl e)
split_at x (y ∷ xs) e =
    ⊎_elim
    (λ (a : eqb x y ≡ true). let q = eqb-true x y a in record { before = []; after = xs; whole = cc })
    (λ (b : mem x xs ≡ true). let s = split_at x xs b in record { before = y ∷ s.before; after = s.after; whole = ap (λ z. y ∷ z) s.whole })
    (or_cases (eqb x y) (mem x xs) e)

-- nothing stands in an empty list
pub nil_app : (bs : List ℕ) (i : ℕ) (after : List ℕ) → [] ≡ bs ++ (i ∷ after) → ⊥
nil_app [] i after e = let z : ◌≡◌ {A = ℕ} 0 1 = cc in omega arith
nil_app (b ∷ bs) i after e = let z : ◌≡◌ {A = ℕ} 0 1 = cc in omega arith

-- what stands in an appended list is its last, or stands before that
pub snoc_split : (ps : List ℕ) (x : ℕ) (before : List ℕ) (i : ℕ) (after : List ℕ) →
    ps ++ (x ∷ []) ≡ before ++ (i ∷ after) → ((ps ≡ before) × (x ≡ i)) ⊎ ((rest : List ℕ) × (ps ≡ before ++ (i ∷ rest)))
snoc_split [] x [] i after e = inl (refl, cc)
snoc_split [] x (b ∷ bs) i after e = absurd (nil_app bs i after (cc))
snoc_split (p ∷ ps) x [] i after e = inr (ps, cc)
snoc_split (p ∷ ps) x (b ∷ bs) i after e =
    ⊎_elim (λ (a : (ps ≡ bs) × (x ≡ i)). inl (cc, a.1)) (λ (c : (rest : List ℕ) × (ps ≡ bs ++ (i ∷ rest))). inr (c.0, cc)) (snoc_split ps x bs i after (cc))

-- in a list without duplicates, what stands at a place stands not before it
pub once_before : (x : ℕ) (xs before after : List ℕ) → count x xs ≤ 1 → xs ≡ before ++ (x ∷ after) → mem x before ≡ false
once_before x xs before after n e =
    let o = ap (count x) e ∙ count-++ x before (x ∷ after) in
    let self = eq-eqb x x refl in
    ⊎_elim (λ (t : mem x before ≡ true). absurd (let p = count_mem x before t in grind arith)) (λ u. u) (cases_Bool (mem x before))

-- and not after it
pub once_after : (x : ℕ) (xs before after : List ℕ) → count x xs ≤ 1 → xs ≡ before ++ (x ∷ after) → mem x after ≡ false
once_after x xs before after n e =
    let o = ap (count x) e ∙ count-++ x before (x ∷ after) in
    let self = eq-eqb x x refl in
    ⊎_elim (λ (t : mem x after ≡ true). absurd (let p = count_mem x after t in grind arith)) (λ u. u) (cases_Bool (mem x after))
