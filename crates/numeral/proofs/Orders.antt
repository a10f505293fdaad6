-- Texts compared unit by unit, as pairs.
use Rattle.std.proofs.Common.{◌≡◌, ◌∙◌, ◌<◌, ℕ, zero, suc, ◌+◌, min, Bool, true, false, not, cond, ◌&&◌, eqb, ltb, List, [], ◌∷◌, length, get_or, take, map, None, Some, refl, ap, arith}
use Rattle.std.specs.List.{list_all, position, position_or_len, zip}
use Rattle.std.proofs.lemmas.List.Quantifiers.{position-Some}
use Rattle.std.proofs.lemmas.Slice.Zip.{length-zip}
use Rattle.std.specs.Option.{option_map_or}
use Rattle.std.proofs.lemmas.Bool.Decides.{nat_tests}
use Rattle.numeral.specs.Words.{same_units}
use Rattle.numeral.specs.Order.{before}

pub same_zip : (xs ys : List ℕ) → same_units xs ys ≡ (eqb (length xs) (length ys) && list_all (λ (p : ℕ × ℕ). eqb p.0 p.1) (zip xs ys))
same_zip [] [] = refl
same_zip [] (y ∷ ys) = grind (arith, nat_tests)
same_zip (x ∷ xs) [] = grind (arith, nat_tests)
same_zip (x ∷ xs) (y ∷ ys) = let e = same_zip xs ys in grind (arith, nat_tests)

-- a place in the rest, counted from the head
behind : (f : ℕ → Bool) (n m : ℕ) (d : Bool) → option_map_or (λ k. f (suc k)) (cond (ltb n m) (Some n) None) d ≡ option_map_or f (cond (ltb (suc n) (suc m)) (Some (suc n)) None) d
behind f n m d =
    let e : ltb (suc n) (suc m) ≡ ltb n m = grind (arith, nat_tests) in
    rw e (elim (ltb n m) as (λ t. option_map_or (λ k. f (suc k)) (cond t (Some n) None) d ≡ option_map_or f (cond t (Some (suc n)) None) d) [ true ↦ refl | false ↦ refl ])

pub before_position : (xs ys : List ℕ) → before xs ys ≡ option_map_or (λ k. ltb (get_or xs k 0) (get_or ys k 0)) (position (λ (p : ℕ × ℕ). not (eqb p.0 p.1)) (zip xs ys)) (ltb (length xs) (length ys))
before_position [] [] = refl
before_position [] (y ∷ ys) = grind (arith, nat_tests)
before_position (x ∷ xs) [] = grind (arith, nat_tests)
before_position (x ∷ xs) (y ∷ ys) =
    let e : ltb (suc (length xs)) (suc (length ys)) ≡ ltb (length xs) (length ys) = grind (arith, nat_tests) in
    let n : ℕ = position_or_len (λ (p : ℕ × ℕ). not (eqb p.0 p.1)) (zip xs ys) in
    let o : 1 + n ≡ suc n = omega arith in
    elim (eqb x y) as (λ t. cond t (before xs ys) (ltb x y) ≡ option_map_or (λ k. ltb (get_or (x ∷ xs) k 0) (get_or (y ∷ ys) k 0)) (cond (ltb (cond (not (not t)) (1 + n) 0) (suc (length (zip xs ys)))) (Some (cond (not (not t)) (1 + n) 0)) None) (ltb (suc (length xs)) (suc (length ys))))
    [ true ↦ rw (e, o) (before_position xs ys ∙ behind (λ k. ltb (get_or (x ∷ xs) k 0) (get_or (y ∷ ys) k 0)) n (length (zip xs ys)) _) | false ↦ let z : ltb 0 (suc (length (zip xs ys))) ≡ true = grind (arith, nat_tests) in rw z refl ]

-- the first place where two texts differ is one of either
pub position_in : (xs ys : List ℕ) (k : ℕ) → position (λ (p : ℕ × ℕ). not (eqb p.0 p.1)) (zip xs ys) ≡ Some k → (k < length xs) × (k < length ys)
position_in xs ys k h =
    let e = rw length-zip at ((position-Some (λ (p : ℕ × ℕ). not (eqb p.0 p.1)) (zip xs ys) k (0, 0) h).0) in
    (omega arith, omega arith)

-- pairs up to the shorter length are all pairs
pub zip_both : {A : Type 0} → (f : A → ℕ) (n : ℕ) (xs ys : List A) → n ≡ min (length xs) (length ys) → zip (map f (take n xs)) (map f (take n ys)) ≡ zip (map f xs) (map f ys)
zip_both f zero [] ys h = refl
zip_both f zero (x ∷ xs) [] h = refl
zip_both f zero (x ∷ xs) (y ∷ ys) h = absurd (omega arith)
zip_both f (suc n) [] ys h = refl
zip_both f (suc n) (x ∷ xs) [] h = refl
zip_both f (suc n) (x ∷ xs) (y ∷ ys) h = ap (λ l. (f x, f y) ∷ l) (zip_both f n xs ys (omega arith))
