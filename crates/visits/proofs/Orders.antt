-- The place of a number in a list: which places are members', that members have different places, and the places before and after a member.
use Rattle.std.proofs.Common.{◌≡◌, ℕ, zero, suc, ◌+◌, ◌<◌, ◌≤◌, true, false, cond, eqb, List, [], ◌∷◌, ◌++◌, length, get_or, sym, refl, ap, ◌∙◌, ⊎_elim, arith, eq-eqb, eqb-true}
use Rattle.std.proofs.lemmas.Bool.{cases_Bool, or_parts, both_ways}
use Rattle.planner.specs.Visits.{mem}
use Rattle.planner.specs.Names.{place_in, count}
use Rattle.visits.proofs.Lists.{count-++, count_mem}

-- a member's place is within the list
pub place_in_lem : (x : ℕ) (xs : List ℕ) → mem x xs ≡ true → place_in xs x < length xs
place_in_lem x [] e = absurd (both_ways false refl e)
place_in_lem x (y ∷ xs) e =
    ⊎_elim (λ (a : eqb x y ≡ true). grind arith) (λ (b : eqb x y ≡ false). let m : mem x xs ≡ true = grind arith in let ih = place_in_lem x xs m in grind arith) (cases_Bool (eqb x y))

-- what is no member has the length as its place
pub place_none : (x : ℕ) (xs : List ℕ) → mem x xs ≡ false → place_in xs x ≡ length xs
place_none x [] e = refl
place_none x (y ∷ xs) e = let p = or_parts (eqb x y) (mem x xs) e in let a = p.0 in let ih = place_none x xs p.1 in grind arith

-- what has a place within the list is a member
pub in_place : (x : ℕ) (xs : List ℕ) → place_in xs x < length xs → mem x xs ≡ true
in_place x xs lt = ⊎_elim (λ (a : mem x xs ≡ true). a) (λ (b : mem x xs ≡ false). absurd (let e = place_none x xs b in omega arith)) (cases_Bool (mem x xs))

-- no place is past the length
pub place_le : (x : ℕ) (xs : List ℕ) → place_in xs x ≤ length xs
place_le x [] = omega arith
place_le x (y ∷ xs) = let ih = place_le x xs in grind arith

-- what stands at the place of a member
pub get_place : (x : ℕ) (xs : List ℕ) (d : ℕ) → mem x xs ≡ true → get_or xs (place_in xs x) d ≡ x
get_place x [] d e = absurd (both_ways false refl e)
get_place x (y ∷ xs) d e =
    ⊎_elim
    (λ (a : eqb x y ≡ true). let q = eqb-true x y a in ap (λ z. get_or (y ∷ xs) (cond z 0 (suc (place_in xs x))) d) a ∙ sym q)
    (λ (b : eqb x y ≡ false). let m : mem x xs ≡ true = grind arith in ap (λ z. get_or (y ∷ xs) (cond z 0 (suc (place_in xs x))) d) b ∙ get_place x xs d m)
    (cases_Bool (eqb x y))

-- a member shares its place with no other
pub place_same : (x y : ℕ) (xs : List ℕ) → mem x xs ≡ true → place_in xs x ≡ place_in xs y → x ≡ y
place_same x y xs m e =
    let lt = place_in_lem x xs m in
    let n = in_place y xs (omega arith) in
    sym (get_place x xs 0 m) ∙ (ap (λ z. get_or xs z 0) e ∙ get_place y xs 0 n)

-- in an appended list, a member of the first keeps its place
pub place_left : (x : ℕ) (xs ys : List ℕ) → mem x xs ≡ true → place_in (xs ++ ys) x ≡ place_in xs x
place_left x [] ys e = absurd (both_ways false refl e)
place_left x (y ∷ xs) ys e =
    ⊎_elim (λ (a : eqb x y ≡ true). grind arith) (λ (b : eqb x y ≡ false). let m : mem x xs ≡ true = grind arith in let ih = place_left x xs ys m in grind arith) (cases_Bool (eqb x y))

-- and what is no member of it has its place in the second, moved
pub place_right : (x : ℕ) (xs ys : List ℕ) → mem x xs ≡ false → place_in (xs ++ ys) x ≡ length xs + place_in ys x
place_right x [] ys e = omega arith
place_right x (y ∷ xs) ys e = let p = or_parts (eqb x y) (mem x xs) e in let a = p.0 in let ih = place_right x xs ys p.1 in grind arith

-- the place of what stands after `before` and not in it
pub place_split : (x : ℕ) (xs before after : List ℕ) → xs ≡ before ++ (x ∷ after) → mem x before ≡ false → place_in xs x ≡ length before
place_split x xs before after e n =
    let s = eq-eqb x x refl in
    let p = place_right x before (x ∷ after) n in
    ap (λ z. place_in z x) e ∙ (grind arith)

module _ (x : ℕ) (xs before after : List ℕ) (e : xs ≡ before ++ (x ∷ after)) (n : mem x before ≡ false) where
  -- members of `before` have a smaller place
  pub place_before : (y : ℕ) → mem y before ≡ true → place_in xs y < place_in xs x
  place_before y m =
      let a = place_split x xs before after e n in
      let b = ap (λ z. place_in z y) e ∙ place_left y before (x ∷ after) m in
      let c = place_in_lem y before m in
      omega arith

  -- what has a smaller place is in `before`
  pub before_place : (y : ℕ) → place_in xs y < place_in xs x → mem y before ≡ true
  before_place y lt =
      let a = place_split x xs before after e n in
      ⊎_elim (λ (t : mem y before ≡ true). t)
      (λ (f : mem y before ≡ false). absurd (let b = ap (λ z. place_in z y) e ∙ place_right y before (x ∷ after) f in omega arith))
      (cases_Bool (mem y before))

  -- members of `after` have a greater place, where each member stands once
  pub place_after : (y : ℕ) → count y xs ≤ 1 → mem y after ≡ true → place_in xs x < place_in xs y
  place_after y c m =
      let a = place_split x xs before after e n in
      let k = ap (count y) e ∙ count-++ y before (x ∷ after) in
      let one = count_mem y after m in
      let nb : mem y before ≡ false = ⊎_elim (λ (t : mem y before ≡ true). absurd (let two = count_mem y before t in grind arith)) (λ f. f) (cases_Bool (mem y before)) in
      let nx : eqb y x ≡ false = ⊎_elim (λ (t : eqb y x ≡ true). absurd (grind arith)) (λ f. f) (cases_Bool (eqb y x)) in
      let b = ap (λ z. place_in z y) e ∙ place_right y before (x ∷ after) nb in
      grind arith

-- the place of what stands at a place, where each member stands once
pub place_get : (xs : List ℕ) (i d : ℕ) → ((y : ℕ) → count y xs ≤ 1) → i < length xs → place_in xs (get_or xs i d) ≡ i
place_get [] i d n lt = absurd (omega arith)
place_get (x ∷ xs) zero d n lt = let s = eq-eqb x x refl in grind arith
place_get (x ∷ xs) (suc i) d n lt =
    let sub : (y : ℕ) → count y xs ≤ 1 = λ y. let m = n y in omega arith in
    let ih = place_get xs i d sub (omega arith) in
    let m = in_place (get_or xs i d) xs (omega arith) in
    let one = count_mem (get_or xs i d) xs m in
    let all = n (get_or xs i d) in
    let nx : eqb (get_or xs i d) x ≡ false = ⊎_elim (λ (t : eqb (get_or xs i d) x ≡ true). absurd (grind arith)) (λ f. f) (cases_Bool (eqb (get_or xs i d) x)) in
    grind arith
