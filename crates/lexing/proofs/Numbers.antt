-- The texts of numbers are of the kind that the lexer takes for one number.
use Rattle.std.proofs.Common.{◌≡◌, ℕ, zero, suc, ◌/◌, ◌%◌, ◌<◌, Bool, true, false, cond, not, ◌||◌, eqb, ltb, List, [], ◌∷◌, ◌++◌, length, ℤ, pos, negsuc, Some, decimal, sym, refl, subst, ⊎_elim, arith}
use Rattle.std.specs.List.{AllByRecursion as All}
use Rattle.std.specs.Fmt.{digit_glyph, digits_onto, digits}
use Rattle.std.proofs.lemmas.Bool.{cond_both, and_parts, and_from, or_cases, or_left, or_right, eqb-true, ltb-true, both_ways}
use Rattle.std.proofs.lemmas.Bool.Decides.{nat_tests}
use Rattle.numeral.specs.Digits.{are_digits, some_digits, first_is, is_zero, positive_digits, whole_digits}
use Rattle.numeral.specs.Numerals.{body, before_point, after_point, is_fraction, is_numeral, is_big_int}
use Rattle.script.specs.Items.{signed_decimal, hex_digits}
use Rattle.effects.specs.Tokens.{hex_text}
use Rattle.evaluator.specs.Tokens.{Token, number, idle, is_digit, word_part, lex}
use Rattle.lexing.proofs.Lexes.{are_parts, is_word, number_part, are_number_parts, is_number, starts_number_part, lex_number, lex_negative}

-- digits are parts of words and of numbers
digit_part : (c : ℕ) → is_digit c ≡ true → word_part c ≡ true
digit_part c h = or_right _ (is_digit c) h

number_parts : (cs : List ℕ) → are_parts cs ≡ true → are_number_parts cs ≡ true
number_parts [] h = refl
number_parts (c ∷ cs) h = let p = and_parts (word_part c) (are_parts cs) h in and_from (number_part c) (are_number_parts cs) (or_left (word_part c) _ p.0) (number_parts cs p.1)

digit_parts : (cs : List ℕ) → are_digits cs ≡ true → are_parts cs ≡ true
digit_parts [] h = refl
digit_parts (c ∷ cs) h = let p = and_parts (is_digit c) (are_digits cs) h in and_from (word_part c) (are_parts cs) (digit_part c p.0) (digit_parts cs p.1)

parts_both : (xs ys : List ℕ) → are_parts xs ≡ true → are_parts ys ≡ true → are_parts (xs ++ ys) ≡ true
parts_both [] ys h g = g
parts_both (x ∷ xs) ys h g = let p = and_parts (word_part x) (are_parts xs) h in and_from (word_part x) (are_parts (xs ++ ys)) p.0 (parts_both xs ys p.1 g)

-- all of it is in ASCII
pub ascii_number_parts : (cs : List ℕ) → are_number_parts cs ≡ true → All (λ c. c < 128) cs
ascii_number_parts [] h = tt
ascii_number_parts (c ∷ cs) h = let p = and_parts (number_part c) (are_number_parts cs) h in (low c p.0, ascii_number_parts cs p.1)
  where
    low : (c : ℕ) → number_part c ≡ true → c < 128
    low c h = grind (arith, nat_tests)

pub ascii_parts : (cs : List ℕ) → are_parts cs ≡ true → All (λ c. c < 128) cs
ascii_parts cs h = ascii_number_parts cs (number_parts cs h)

pub ascii_word : (w : List ℕ) → is_word w ≡ true → All (λ c. c < 128) w
ascii_word [] h = tt
ascii_word (c ∷ cs) h = let p = and_parts _ (are_parts cs) h in ascii_parts (c ∷ cs) (and_from (word_part c) (are_parts cs) (or_left _ (is_digit c) p.0) p.1)

-- a number with a minus or without
abbrev pub IsNumber : List ℕ → Type 0
IsNumber t = is_number (body t) ≡ true

ascii_unsigned : (t : List ℕ) → is_number t ≡ true → All (λ c. c < 128) t
ascii_unsigned [] h = tt
ascii_unsigned (c ∷ cs) h =
    let p = and_parts (is_digit c) (are_number_parts cs) h in
    ascii_number_parts (c ∷ cs) (and_from (number_part c) (are_number_parts cs) (or_left (word_part c) _ (digit_part c p.0)) p.1)

pub ascii_number : (t : List ℕ) → IsNumber t → All (λ c. c < 128) t
ascii_number [] h = tt
ascii_number (c ∷ cs) h = go (eqb c 45) refl h
  where
    go : (b : Bool) → eqb c 45 ≡ b → is_number (cond b cs (c ∷ cs)) ≡ true → All (λ c. c < 128) (c ∷ cs)
    go true e h = (let q = eqb-true c 45 e in omega arith, ascii_unsigned cs h)
    go false e h = ascii_unsigned (c ∷ cs) h

pub lex_signed : (t rest : List ℕ) (us : List Token) → IsNumber t → starts_number_part rest ≡ false → lex rest idle ≡ Some us → lex (t ++ rest) idle ≡ Some (number t ∷ us)
lex_signed [] rest us h d e = absurd (both_ways false refl h)
lex_signed (c ∷ cs) rest us h d e = go (eqb c 45) refl h
  where
    go : (b : Bool) → eqb c 45 ≡ b → is_number (cond b cs (c ∷ cs)) ≡ true → lex ((c ∷ cs) ++ rest) idle ≡ Some (number (c ∷ cs) ∷ us)
    go true f h = subst (λ x. lex (x ∷ (cs ++ rest)) idle ≡ Some (number (x ∷ cs) ∷ us)) (sym (eqb-true c 45 f)) (lex_negative cs rest us h d e)
    go false f h = lex_number (c ∷ cs) rest us h d e

-- a text that starts with a digit has no minus
unsigned : (t : List ℕ) → is_number t ≡ true → IsNumber t
unsigned [] h = h
unsigned (c ∷ cs) h = cond_both (eqb c 45) cs (c ∷ cs) (λ z. is_number z ≡ true) (λ e. absurd (grind (arith, nat_tests))) (λ e. h)

-- what is written of a number in a base
module _ (P : ℕ → Type 0) (base : ℕ) (each : (n : ℕ) → P (digit_glyph false (n % base))) where
  all_spelled : (k n : ℕ) (acc : List ℕ) → All P acc → All P (digits_onto k base false n acc)
  all_spelled zero n acc h = h
  all_spelled (suc k) n acc h =
      cond_both (eqb (n / base) 0) (digit_glyph false (n % base) ∷ acc) (digits_onto k base false (n / base) (digit_glyph false (n % base) ∷ acc)) (λ z. All P z) (λ e. (each n, h))
      (λ e. all_spelled k (n / base) (digit_glyph false (n % base) ∷ acc) (each n, h))

  pub all_digits : (n : ℕ) → All P (digits base false n)
  unfolding digits
  all_digits n = all_spelled 64 n [] tt

some_spelled : (base k n : ℕ) (acc : List ℕ) → 0 < length acc → 0 < length (digits_onto k base false n acc)
some_spelled base zero n acc h = h
some_spelled base (suc k) n acc h =
    cond_both (eqb (n / base) 0) (digit_glyph false (n % base) ∷ acc) (digits_onto k base false (n / base) (digit_glyph false (n % base) ∷ acc)) (λ z. 0 < length z) (λ e. omega arith)
    (λ e. some_spelled base k (n / base) (digit_glyph false (n % base) ∷ acc) (omega arith))

some_digits_lem : (base n : ℕ) → 0 < length (digits base false n)
unfolding digits
some_digits_lem base n =
    cond_both (eqb (n / base) 0) (digit_glyph false (n % base) ∷ []) (digits_onto 63 base false (n / base) (digit_glyph false (n % base) ∷ [])) (λ z. 0 < length z) (λ e. omega arith)
    (λ e. some_spelled base 63 (n / base) (digit_glyph false (n % base) ∷ []) (omega arith))

are_digits_lem : (ds : List ℕ) → All (λ c. is_digit c ≡ true) ds → are_digits ds ≡ true
are_digits_lem [] h = refl
are_digits_lem (c ∷ cs) h = and_from (is_digit c) (are_digits cs) h.0 (are_digits_lem cs h.1)

are_parts_lem : (ds : List ℕ) → All (λ c. word_part c ≡ true) ds → are_parts ds ≡ true
are_parts_lem [] h = refl
are_parts_lem (c ∷ cs) h = and_from (word_part c) (are_parts cs) h.0 (are_parts_lem cs h.1)

decimal_digits : (n : ℕ) → are_digits (decimal n) ≡ true
decimal_digits n = are_digits_lem (decimal n) (all_digits (λ c. is_digit c ≡ true) 10 each n)
  where
    each : (m : ℕ) → is_digit (digit_glyph false (m % 10)) ≡ true
    each m = grind (arith, nat_tests)

pub decimal_parts : (n : ℕ) → are_parts (decimal n) ≡ true
decimal_parts n = digit_parts (decimal n) (decimal_digits n)

hex_parts : (n : ℕ) → are_parts (hex_digits n) ≡ true
hex_parts n =
    cond_both (ltb n 16) (48 ∷ digits 16 false n) (digits 16 false n) (λ z. are_parts z ≡ true) (λ e. plain) (λ e. plain)
  where
    each : (m : ℕ) → word_part (digit_glyph false (m % 16)) ≡ true
    each m = grind (arith, nat_tests)

    plain : are_parts (digits 16 false n) ≡ true
    plain = are_parts_lem (digits 16 false n) (all_digits (λ c. word_part c ≡ true) 16 each n)

-- digits, but not none
digits_number : (ds : List ℕ) → are_digits ds ≡ true → 0 < length ds → is_number ds ≡ true
digits_number [] h l = absurd (omega arith)
digits_number (c ∷ cs) h l = let p = and_parts (is_digit c) (are_digits cs) h in and_from (is_digit c) (are_number_parts cs) p.0 (number_parts cs (digit_parts cs p.1))

pub decimal_number : (n : ℕ) → is_number (decimal n) ≡ true
decimal_number n = digits_number (decimal n) (decimal_digits n) (some_digits_lem 10 n)

pub whole_number_lem : (z : ℤ) → IsNumber (signed_decimal z)
whole_number_lem (pos n) = unsigned (decimal n) (decimal_number n)
whole_number_lem (negsuc n) = decimal_number (suc n)

pub hex_number_lem : (negative : Bool) (n : ℕ) (big : Bool) → IsNumber (hex_text negative n big)
hex_number_lem true n true = number_parts (hex_digits n ++ (110 ∷ [])) (parts_both (hex_digits n) (110 ∷ []) (hex_parts n) refl)
hex_number_lem true n false = number_parts (hex_digits n ++ []) (parts_both (hex_digits n) [] (hex_parts n) refl)
hex_number_lem false n true = number_parts (hex_digits n ++ (110 ∷ [])) (parts_both (hex_digits n) (110 ∷ []) (hex_parts n) refl)
hex_number_lem false n false = number_parts (hex_digits n ++ []) (parts_both (hex_digits n) [] (hex_parts n) refl)

-- the numeral of a double
whole_digits_lem : (t : List ℕ) → whole_digits t ≡ true → are_digits t ≡ true
whole_digits_lem [] h = refl
whole_digits_lem (c ∷ []) h = grind (arith, nat_tests)
whole_digits_lem (c ∷ d ∷ ds) h = grind (arith, nat_tests)

fraction_parts : (t : List ℕ) → are_digits (before_point t) ≡ true → is_fraction (after_point t) ≡ true → are_number_parts t ≡ true
fraction_parts [] h g = refl
fraction_parts (c ∷ cs) h g = go (eqb c 46) refl h g (fraction_parts cs)
  where
    go : (b : Bool) → eqb c 46 ≡ b → are_digits (cond b [] (c ∷ before_point cs)) ≡ true → is_fraction (cond b (Some cs) (after_point cs)) ≡ true →
        (are_digits (before_point cs) ≡ true → is_fraction (after_point cs) ≡ true → are_number_parts cs ≡ true) → are_number_parts (c ∷ cs) ≡ true
    go true e h g k = and_from (number_part c) (are_number_parts cs) (or_right (word_part c) _ e) (number_parts cs (digit_parts cs (and_parts _ (are_digits cs) g).1))
    go false e h g k =
        let p = and_parts (is_digit c) (are_digits (before_point cs)) h in
        and_from (number_part c) (are_number_parts cs) (or_left (word_part c) _ (digit_part c p.0)) (k p.1 g)

pub numeral_number : (t : List ℕ) → is_numeral t ≡ true → IsNumber t
numeral_number t h = go (body t) p.0 (fraction_parts (body t) (whole_digits_lem (before_point (body t)) p.0) p.1)
  where
    p : (whole_digits (before_point (body t)) ≡ true) × (is_fraction (after_point (body t)) ≡ true)
    p = and_parts (whole_digits (before_point (body t))) (is_fraction (after_point (body t))) h

    first : (b : Bool) (c : ℕ) (cs : List ℕ) → whole_digits (cond b [] (c ∷ cs)) ≡ true → is_digit c ≡ true
    first true c cs w = absurd (both_ways false refl w)
    first false c cs w = (and_parts (is_digit c) (are_digits cs) (whole_digits_lem (c ∷ cs) w)).0

    go : (u : List ℕ) → whole_digits (before_point u) ≡ true → are_number_parts u ≡ true → is_number u ≡ true
    go [] w a = absurd (both_ways false refl w)
    go (c ∷ cs) w a = and_from (is_digit c) (are_number_parts cs) (first (eqb c 46) c (before_point cs) w) (and_parts (number_part c) (are_number_parts cs) a).1

-- a BigInt's digits and an `n`
digits_big : (t : List ℕ) → are_digits t ≡ true → 0 < length t → is_number (t ++ (110 ∷ [])) ≡ true
digits_big [] h l = absurd (omega arith)
digits_big (c ∷ cs) h l =
    let p = and_parts (is_digit c) (are_digits cs) h in
    and_from (is_digit c) (are_number_parts (cs ++ (110 ∷ []))) p.0 (number_parts (cs ++ (110 ∷ [])) (parts_both cs (110 ∷ []) (digit_parts cs p.1) refl))

pub bigint_number : (t : List ℕ) → is_big_int t ≡ true → IsNumber (t ++ (110 ∷ []))
bigint_number [] h = absurd (both_ways false refl h)
bigint_number (c ∷ cs) h = go (eqb c 45) refl h
  where
    some : (t : List ℕ) → positive_digits t ≡ true → is_number (t ++ (110 ∷ [])) ≡ true
    some t q = let p = and_parts (ltb 0 (length t)) (are_digits t) (and_parts (not (first_is 48 t)) (some_digits t) q).1 in digits_big t p.1 (ltb-true 0 (length t) p.0)

    zero_first : eqb c 45 ≡ true → is_zero (c ∷ cs) ≡ true → ⊥
    zero_first e z = grind (arith, nat_tests)

    zero_digits : (ds : List ℕ) → is_zero (c ∷ ds) ≡ true → are_digits (c ∷ ds) ≡ true
    zero_digits [] z = grind (arith, nat_tests)
    zero_digits (d ∷ ds) z = grind (arith, nat_tests)

    go : (b : Bool) → eqb c 45 ≡ b → (is_zero (c ∷ cs) || positive_digits (cond b cs (c ∷ cs))) ≡ true → is_number (cond b (cs ++ (110 ∷ [])) (c ∷ (cs ++ (110 ∷ [])))) ≡ true
    go true e h = ⊎_elim (λ z. absurd (zero_first e z)) (λ q. some cs q) (or_cases (is_zero (c ∷ cs)) (positive_digits cs) h)
    go false e h = ⊎_elim (λ z. digits_big (c ∷ cs) (zero_digits cs z) (omega arith)) (λ q. some (c ∷ cs) q) (or_cases (is_zero (c ∷ cs)) (positive_digits (c ∷ cs)) h)
