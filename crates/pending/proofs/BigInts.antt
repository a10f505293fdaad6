-- The text of a BigInt is told by its number.
use Rattle.std.proofs.Common.{◌≡◌, ℕ, zero, suc, ◌+◌, ◌-◌, ◌*◌, ◌<◌, ◌≤◌, Bool, true, false, cond, not, ◌&&◌, eqb, ltb, leb, List, [], ◌∷◌, length, drop, sym, refl, ap, ◌∙◌, ⊎_elim, arith}
use Rattle.std.proofs.lemmas.Bool.{cases_eq, cases_lt, cases_Bool, and_parts, or_cases, or_left, or_right, eqb-true, eqb-false, leb-true, ltb-true, not-true, both_ways, true≢false, false≢true}
use Rattle.std.proofs.lemmas.Bool.Decides.{nat_tests}
use Rattle.numeral.specs.Digits.{is_digit, are_digits, some_digits, first_is, value_from, is_zero, positive_digits, whole_digits}
use Rattle.numeral.specs.Numerals.{minus, body, is_big_int}
use Rattle.numeral.proofs.Values.{value_grows}
use Rattle.evaluator.specs.Makes.{integer}
use Rattle.evaluator.specs.Isomorphic.{big_value}

digit_from : (c : ℕ) → is_digit c ≡ true → (48 ≤ c) × (c ≤ 57)
digit_from c e = let p = and_parts (leb 48 c) (leb c 57) e in (leb-true 48 c p.0, leb-true c 57 p.1)

-- as many digits with the same value are the same
same_digits : (a b : ℕ) (xs ys : List ℕ) → length xs ≡ length ys → are_digits xs ≡ true → are_digits ys ≡ true → value_from a xs ≡ value_from b ys → (a ≡ b) × (xs ≡ ys)
same_digits a b [] [] n f g e = (e, refl)
same_digits a b [] (y ∷ ys) n f g e = absurd (omega arith)
same_digits a b (x ∷ xs) [] n f g e = absurd (omega arith)
same_digits a b (x ∷ xs) (y ∷ ys) n f g e =
    let p = and_parts (is_digit x) (are_digits xs) f in
    let q = and_parts (is_digit y) (are_digits ys) g in
    let c = digit_from x p.0 in
    let d = digit_from y q.0 in
    let ih = same_digits (a * 10 + (x - 48)) (b * 10 + (y - 48)) xs ys (omega arith) p.1 q.1 e in
    let head = ih.0 in
    let first : x ≡ y = omega arith in
    (omega arith, (λ i. first i ∷ ih.1 i))

-- no fewer digits behind more are more
more_digits : (a b : ℕ) (xs ys : List ℕ) → a < b → length xs ≤ length ys → are_digits xs ≡ true → value_from a xs < value_from b ys
more_digits a b [] ys l n f = let g = value_grows b ys in omega arith
more_digits a b (x ∷ xs) [] l n f = absurd (omega arith)
more_digits a b (x ∷ xs) (y ∷ ys) l n f =
    let p = and_parts (is_digit x) (are_digits xs) f in
    let c = digit_from x p.0 in
    more_digits (a * 10 + (x - 48)) (b * 10 + (y - 48)) xs ys (omega arith) (omega arith) p.1

-- some digits, the first no 0 unless it is the only one
record Written (xs : List ℕ) : Type 0 where
  digits : are_digits xs ≡ true
  some : 0 < length xs
  lead : first_is 48 xs ≡ true → length xs ≡ 1

written : (xs : List ℕ) → whole_digits xs ≡ true → Written xs
written xs e = ⊎_elim (λ (z : is_zero xs ≡ true). from_zero xs z) (λ (p : positive_digits xs ≡ true). from_positive p) (or_cases (is_zero xs) (positive_digits xs) e)
  where
    from_zero : (xs : List ℕ) → is_zero xs ≡ true → Written xs
    from_zero [] e = absurd (false≢true e)
    from_zero (x ∷ []) e = let d = eqb-true x 48 e in record { digits = rw d refl; some = omega arith; lead = λ u. refl }
    from_zero (x ∷ y ∷ xs) e = absurd (let p = and_parts (eqb (suc (suc (length xs))) 1) (eqb x 48) e in let n = eqb-true (suc (suc (length xs))) 1 p.0 in omega arith)

    from_positive : positive_digits xs ≡ true → Written xs
    from_positive e =
        let p = and_parts (not (first_is 48 xs)) (some_digits xs) e in
        let q = and_parts (ltb 0 (length xs)) (are_digits xs) p.1 in
        record { digits = q.1; some = ltb-true 0 (length xs) q.0; lead = λ u. absurd (both_ways (first_is 48 xs) (not-true (first_is 48 xs) p.0) u) }

-- fewer digits are less
less : (xs ys : List ℕ) → Written xs → Written ys → length xs < length ys → value_from 0 xs ≡ value_from 0 ys → ⊥
less xs [] f g n e = omega arith
less xs (y ∷ ys) f g n e =
    let p = and_parts (is_digit y) (are_digits ys) g.digits in
    let c = digit_from y p.0 in
    let some = f.some in
    let big : 48 < y = ⊎_elim (λ (d : eqb y 48 ≡ true). absurd (let l : suc (length ys) ≡ 1 = g.lead d in omega arith)) (λ (d : eqb y 48 ≡ false). grind (arith, nat_tests)) (cases_Bool (eqb y 48)) in
    let m = more_digits 0 (0 * 10 + (y - 48)) xs ys (omega arith) (omega arith) f.digits in
    omega arith

pub same_written : (xs ys : List ℕ) → whole_digits xs ≡ true → whole_digits ys ≡ true → value_from 0 xs ≡ value_from 0 ys → xs ≡ ys
same_written xs ys p q e =
    let f = written xs p in
    let g = written ys q in
    ⊎_elim (λ (n : length xs < length ys). absurd (less xs ys f g n e))
    (λ (n : length ys ≤ length xs). ⊎_elim (λ (m : length ys < length xs). absurd (less ys xs g f m (sym e))) (λ (m : length xs ≤ length ys). (same_digits 0 0 xs ys (omega arith) f.digits g.digits e).1) (cases_lt (length ys) (length xs)))
    (cases_lt (length xs) (length ys))

positive_value : (xs : List ℕ) → positive_digits xs ≡ true → 0 < value_from 0 xs
positive_value [] e = absurd (false≢true e)
positive_value (x ∷ xs) e =
    let p = and_parts (not (eqb x 48)) (some_digits (x ∷ xs)) e in
    let q = and_parts (ltb 0 (suc (length xs))) (is_digit x && are_digits xs) p.1 in
    let c = digit_from x (and_parts (is_digit x) (are_digits xs) q.1).0 in
    let n = eqb-false x 48 (not-true (eqb x 48) p.0) in
    let g = value_grows (0 * 10 + (x - 48)) xs in
    let d : 48 < x = ⊎_elim (λ (y : x ≡ 48). absurd (n y)) (λ (y : x ≡ 48 → ⊥). omega arith) (cases_eq x 48) in
    omega arith

zero_unsigned : (t : List ℕ) → is_zero t ≡ true → minus t ≡ false
zero_unsigned [] e = refl
zero_unsigned (x ∷ xs) e = let p = and_parts (eqb (suc (length xs)) 1) (eqb x 48) e in let d = eqb-true x 48 p.1 in rw d refl

-- the digits of a BigInt, and its minus only before a number above 0
big_digits : (t : List ℕ) → is_big_int t ≡ true → (whole_digits (body t) ≡ true) × (minus t ≡ true → 0 < value_from 0 (body t))
big_digits t e =
    ⊎_elim
    (λ (z : is_zero t ≡ true). let m = zero_unsigned t z in
    (or_left (is_zero (body t)) (positive_digits (body t)) (ap (λ b. is_zero (cond b (drop 1 t) t)) m ∙ z), λ u. absurd (both_ways (minus t) m u)))
    (λ (p : positive_digits (body t) ≡ true). (or_right (is_zero (body t)) (positive_digits (body t)) p, λ u. positive_value (body t) p))
    (or_cases (is_zero t) (positive_digits (body t)) e)

-- a number with its sign
same_integer_lem : (s r : Bool) (m n : ℕ) → (s ≡ true → 0 < m) → (r ≡ true → 0 < n) → integer s m ≡ integer r n → (s ≡ r) × (m ≡ n)
same_integer_lem false false m n f g e = (refl, cc)
same_integer_lem false true m zero f g e = absurd (let l = g refl in omega arith)
same_integer_lem false true m (suc n) f g e = absurd (let z : ◌≡◌ {A = ℕ} 0 1 = cc in omega arith)
same_integer_lem true false zero n f g e = absurd (let l = f refl in omega arith)
same_integer_lem true false (suc m) n f g e = absurd (let z : ◌≡◌ {A = ℕ} 0 1 = cc in omega arith)
same_integer_lem true true zero n f g e = absurd (let l = f refl in omega arith)
same_integer_lem true true (suc m) zero f g e = absurd (let l = g refl in omega arith)
same_integer_lem true true (suc m) (suc n) f g e = let d : m ≡ n = cc in (refl, ap suc d)

-- a text from its minus and the rest
same_body : (t u : List ℕ) → minus t ≡ minus u → body t ≡ body u → t ≡ u
same_body t u m b = go (minus t) (minus u) refl refl m b
  where
    minus_first : (t : List ℕ) → minus t ≡ true → t ≡ 45 ∷ drop 1 t
    minus_first [] e = absurd (false≢true e)
    minus_first (x ∷ xs) e = ap (λ c. c ∷ xs) (eqb-true x 45 e)

    go : (a c : Bool) → minus t ≡ a → minus u ≡ c → a ≡ c → cond a (drop 1 t) t ≡ cond c (drop 1 u) u → t ≡ u
    go true true p q m b = minus_first t p ∙ ap (λ x. 45 ∷ x) b ∙ sym (minus_first u q)
    go true false p q m b = absurd (true≢false m)
    go false true p q m b = absurd (false≢true m)
    go false false p q m b = b

pub same_big : (t u : List ℕ) → is_big_int t ≡ true → is_big_int u ≡ true → big_value t ≡ big_value u → t ≡ u
same_big t u p q e =
    let f = big_digits t p in
    let g = big_digits u q in
    let s = same_integer_lem (minus t) (minus u) (value_from 0 (body t)) (value_from 0 (body u)) f.1 g.1 e in
    same_body t u s.0 (same_written (body t) (body u) f.0 g.0 s.1)
