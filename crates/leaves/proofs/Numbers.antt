-- Numbers and names as they are written, and the values that the evaluator reads of them.
use Rattle.std.proofs.Common.{◌≡◌, ℕ, zero, suc, ◌+◌, ◌*◌, ◌/◌, ◌%◌, ◌^◌, ◌<◌, ◌≤◌, Bool, true, false, cond, ◌&&◌, ◌||◌, eqb, ltb, leb, ◌⊎◌, List, [], ◌∷◌, ◌++◌, length, drop, ℤ, pos, negsuc, nat_abs, Some, None, codes, decimal, Option, sym, refl, ap, ◌∙◌, subst, inl, inr, ⊎_elim, append-nil, arith, ne_eqb, eqb-true}
use Rattle.std.specs.Fmt.{digits, digit_glyph, digits_onto}
use Rattle.std.specs.List.{AllByRecursion as All}
use Rattle.std.proofs.ByRecursion.{All-weaker, All-drop}
use Rattle.std.proofs.lemmas.Bool.{or_cases, or_right, and_parts, cond_both, le-leb, lt-ltb, ltb-true, ltb-false, both_ways}
use Rattle.std.proofs.lemmas.Bool.Decides.{nat_tests}
use Rattle.numeral.specs.Digits.{are_digits, first_is, is_zero, positive_digits, value_from, whole_digits, whole_within}
use Rattle.numeral.specs.Numerals.{minus, body, is_numeral, is_big_int, whole_of, whole_bits}
use Rattle.numeral.proofs.Laws.{NumeralUnit, numeral_units, bigint_units, pair_numeral, pair_whole}
use Rattle.formed.specs.Formed.{WholeFits, TimeFits}
use Rattle.speller.specs.Spelling.{Lawful}
use Rattle.speller.specs.Whole.{numeral_of}
use Rattle.speller.proofs.Decimals.{minus_is, numeral_is, whole_is, body_is}
use Rattle.script.specs.Items.{signed_decimal, hex_digits}
use Rattle.evaluator.specs.Options.{and_then, when, or_else}
use Rattle.evaluator.specs.Stores.{Val, number, big, State, lookup}
use Rattle.evaluator.specs.Tokens.{hex_value}
use Rattle.evaluator.specs.Makes.{is, integer}
use Rattle.evaluator.specs.Commands.{name_of}
use Rattle.evaluator.specs.Runs.{hex_from, hex_number, hex_body, without_n, whole_number, hex_double, word_value, numeral_value, number_value}
use Rattle.evaluator.specs.Isomorphic.{whole_double, big_value}
use Rattle.effects.specs.Tokens.{hex_text}

-- a text without the letter n is no BigInt
abbrev NoN : ℕ → Type 0
NoN c = c ≡ 110 → ⊥

no_n : (t : List ℕ) → All NoN t → without_n t ≡ None
no_n [] h = refl
no_n (c ∷ []) h = ap (λ b. when b (Some [])) (ne_eqb c 110 h.0)
no_n (c ∷ d ∷ ds) h = ap (λ o. and_then o (λ t. Some (c ∷ t))) (no_n (d ∷ ds) h.1)

-- with one it is
with_n : (t : List ℕ) → without_n (t ++ (110 ∷ [])) ≡ Some t
with_n [] = refl
with_n (c ∷ []) = refl
with_n (c ∷ d ∷ ds) = ap (λ o. and_then o (λ t. Some (c ∷ t))) (with_n (d ∷ ds))

-- a text of digits, points and minuses is no number in hexadecimal, and no BigInt
unit_no_n : (t : List ℕ) → All NumeralUnit t → All NoN t
unit_no_n = All-weaker NumeralUnit NoN (λ c h e. omega (arith, h))

off : (x : Bool) → ((x && false) || (x && false)) ≡ false
off true = refl
off false = refl

no_hex : (t : List ℕ) → All NumeralUnit t → hex_body t ≡ None
no_hex [] h = refl
no_hex (c ∷ []) h = ap (λ b. when b (Some [])) (off (eqb c 48))
no_hex (c ∷ d ∷ ds) h =
    let p = ne_eqb d 120 (λ e. omega (arith, h.1.0)) in
    let q = ne_eqb d 88 (λ e. omega (arith, h.1.0)) in
    (λ i. when ((eqb c 48 && (p i && true)) || (eqb c 48 && (q i && true))) (Some ds)) ∙ ap (λ b. when b (Some ds)) (off (eqb c 48))

body_units : (t : List ℕ) → All NumeralUnit t → All NumeralUnit (body t)
body_units t h = cond_both (minus t) (drop 1 t) t (λ z. All NumeralUnit z) (λ e. All-drop NumeralUnit 1 t h) (λ e. h)

-- so the speller's pairs and the whole numbers decide
module _ (reading : List ℕ → Option ℕ) where
  as_numeral : (t : List ℕ) → All NumeralUnit t → number_value reading t ≡ numeral_value reading t
  as_numeral t h =
      let b = body_units t h in
      (λ i. or_else (and_then (no_n (body t) (unit_no_n (body t) b) i) (λ d. and_then (whole_number d) (λ n. Some (big (integer (minus t) n)))))
      (or_else (and_then (no_hex (body t) b i) (λ d. and_then (hex_number d) (hex_double (minus t))))
      (numeral_value reading t)))

-- numerals
module _ (numeral : ℕ → Option (List ℕ)) (reading : List ℕ → Option ℕ) (lawful : Lawful numeral) (inverse : ((bits : ℕ) (t : List ℕ) → numeral bits ≡ Some t → reading t ≡ Some bits) × ((bits : ℕ) (t : List ℕ) → reading t ≡ Some bits → numeral bits ≡ Some t)) where
  pub number_double : (bits : ℕ) (t : List ℕ) → numeral bits ≡ Some t → number_value reading t ≡ Some (number bits)
  number_double bits t h =
      as_numeral reading t (numeral_units t (pair_numeral bits t (lawful.shaped bits t h)))
      ∙ ap (λ o. or_else (and_then o (λ b. Some (number b))) (when (is_numeral t) (and_then (whole_of t) (λ n. Some (number (whole_bits (minus t) n)))))) (inverse.0 bits t h)

  -- a text of the speller that is a whole number is for that number's double
  whole_value : (negative : Bool) (n : ℕ) → n ≤ 9007199254740991 → numeral_value reading (numeral_of negative n) ≡ Some (number (whole_bits negative n))
  whole_value negative n small = go (reading (numeral_of negative n)) refl
    where
      t : List ℕ
      t = numeral_of negative n

      go : (o : Option ℕ) → reading t ≡ o → or_else (and_then o (λ b. Some (number b))) (when (is_numeral t) (and_then (whole_of t) (λ m. Some (number (whole_bits (minus t) m))))) ≡ Some (number (whole_bits negative n))
      go None e = (λ i. when (numeral_is n small negative i) (and_then (whole_is n small negative i) (λ m. Some (number (whole_bits (minus_is n small negative i) m)))))
      go (Some bits) e =
          let p = lawful.shaped bits t (inverse.1 bits t e) in
          ap (λ b. Some (number b)) (pair_whole bits t p n (whole_is n small negative) ∙ ap (λ s. whole_bits s n) (minus_is n small negative))

  number_numeral : (negative : Bool) (n : ℕ) → n ≤ 9007199254740991 → number_value reading (numeral_of negative n) ≡ Some (number (whole_bits negative n))
  number_numeral negative n small = as_numeral reading (numeral_of negative n) (numeral_units (numeral_of negative n) (numeral_is n small negative)) ∙ whole_value negative n small

  pub number_whole : (z : ℤ) → nat_abs z ≤ 9007199254740991 → number_value reading (signed_decimal z) ≡ Some (number (whole_double z))
  number_whole (pos n) small = number_numeral false n small
  number_whole (negsuc n) small = number_numeral true (suc n) small

-- whole numbers that fit 32 bits, and times, are small enough
pub small_whole : (z : ℤ) → WholeFits z → nat_abs z ≤ 9007199254740991
small_whole (pos n) h = omega arith
small_whole (negsuc n) h = omega arith

pub small_time : (z : ℤ) → TimeFits (Some z) → nat_abs z ≤ 9007199254740991
small_time (pos n) h = omega arith
small_time (negsuc n) h = omega arith

-- BigInts
whole_body : (t : List ℕ) → is_big_int t ≡ true → whole_digits (body t) ≡ true
whole_body [] h = absurd (both_ways false refl h)
whole_body (c ∷ []) h = grind (arith, nat_tests)
whole_body (c ∷ d ∷ ds) h =
    let t : List ℕ = c ∷ d ∷ ds in
    ⊎_elim
    (λ (e : is_zero t ≡ true). absurd (omega (arith, eqb-true (length t) 1 (and_parts (eqb (length t) 1) (first_is 48 t) e).0)))
    (λ (e : positive_digits (body t) ≡ true). or_right (is_zero (body t)) (positive_digits (body t)) e)
    (or_cases (is_zero t) (positive_digits (body t)) h)

body_push : (c : ℕ) (cs ys : List ℕ) → body ((c ∷ cs) ++ ys) ≡ body (c ∷ cs) ++ ys
body_push c cs ys = go (eqb c 45)
  where
    go : (b : Bool) → cond b (cs ++ ys) (c ∷ (cs ++ ys)) ≡ cond b cs (c ∷ cs) ++ ys
    go true = refl
    go false = refl

whole_number_lem : (d : List ℕ) → whole_digits d ≡ true → All NumeralUnit d → whole_number d ≡ Some (value_from 0 d)
whole_number_lem d h u = (λ i. or_else (and_then (no_hex d u i) hex_number) (when (h i) (Some (value_from 0 d))))

pub number_bigint : (reading : List ℕ → Option ℕ) (t : List ℕ) → is_big_int t ≡ true → number_value reading (t ++ (110 ∷ [])) ≡ Some (big (big_value t))
number_bigint reading [] h = absurd (both_ways false refl h)
number_bigint reading (c ∷ cs) h =
    let t : List ℕ = c ∷ cs in
    let u : List ℕ = t ++ (110 ∷ []) in
    let rest : Option Val = or_else (and_then (hex_body (body u)) (λ d. and_then (hex_number d) (hex_double (minus t)))) (numeral_value reading u) in
    let read : Option (List ℕ) → Option Val = λ o. or_else (and_then o (λ d. and_then (whole_number d) (λ n. Some (big (integer (minus t) n))))) rest in
    ap read (ap without_n (body_push c cs (110 ∷ [])) ∙ with_n (body t))
    ∙ ap (λ o. or_else (and_then o (λ n. Some (big (integer (minus t) n)))) rest) (whole_number_lem (body t) (whole_body t h) (body_units t (bigint_units t h)))

-- numbers in hexadecimal
abbrev HexUnit : ℕ → Type 0
HexUnit c = ((48 ≤ c) × (c ≤ 57)) ⊎ ((97 ≤ c) × (c ≤ 102))

hex_unit : (d : ℕ) → d < 16 → HexUnit (digit_glyph false d)
hex_unit d h = cond_both (ltb d 10) (48 + d) (87 + d) HexUnit (λ e. inl (omega arith, omega (arith, ltb-true d 10 e))) (λ e. inr (omega (arith, ltb-false d 10 e), omega arith))

hex_value_lem : (d : ℕ) → d < 16 → hex_value (digit_glyph false d) ≡ d
hex_value_lem d h = grind (arith, nat_tests)

hex_step : (m d : ℕ) (acc : List ℕ) → d < 16 → hex_from m (digit_glyph false d ∷ acc) ≡ hex_from (m * 16 + d) acc
hex_step m d acc h = (λ i. when (ltb (hex_value_lem d h i) 16) (hex_from (m * 16 + hex_value_lem d h i) acc)) ∙ ap (λ b. when b (hex_from (m * 16 + d) acc)) (lt-ltb d 16 h)

-- what is written of a number gives it back
hex_spelled : (k n : ℕ) (acc : List ℕ) → n < 2 ^ k → hex_from 0 (digits_onto k 16 false n acc) ≡ hex_from n acc
hex_spelled zero n acc h = ap (λ m. hex_from m acc) {x = 0} {y = n} (omega arith)
hex_spelled (suc k) n acc h =
    let g : ℕ = digit_glyph false (n % 16) in
    let step = λ (m : ℕ). hex_step m (n % 16) acc (omega arith) in
    cond_both (eqb (n / 16) 0) (g ∷ acc) (digits_onto k 16 false (n / 16) (g ∷ acc)) (λ t. hex_from 0 t ≡ hex_from n acc)
    (λ e. let z = eqb-true (n / 16) 0 e in step 0 ∙ ap (λ m. hex_from m acc) {x = 0 * 16 + n % 16} {y = n} (omega arith))
    (λ e. hex_spelled k (n / 16) (g ∷ acc) (omega arith) ∙ step (n / 16) ∙ ap (λ m. hex_from m acc) {x = n / 16 * 16 + n % 16} {y = n} (omega arith))

units_spelled : (k n : ℕ) (acc : List ℕ) → All HexUnit acc → All HexUnit (digits_onto k 16 false n acc)
units_spelled zero n acc h = h
units_spelled (suc k) n acc h =
    let g : ℕ = digit_glyph false (n % 16) in
    let u = hex_unit (n % 16) (omega arith) in
    cond_both (eqb (n / 16) 0) (g ∷ acc) (digits_onto k 16 false (n / 16) (g ∷ acc)) (All HexUnit) (λ e. (u, h)) (λ e. units_spelled k (n / 16) (g ∷ acc) (u, h))

some_spelled : (k n x : ℕ) (xs : List ℕ) → 0 < length (digits_onto k 16 false n (x ∷ xs))
some_spelled zero n x xs = omega arith
some_spelled (suc k) n x xs =
    let g : ℕ = digit_glyph false (n % 16) in
    cond_both (eqb (n / 16) 0) (g ∷ x ∷ xs) (digits_onto k 16 false (n / 16) (g ∷ x ∷ xs)) (λ t. 0 < length t) (λ e. omega arith) (λ e. some_spelled k (n / 16) g (x ∷ xs))

digits_are : (n : ℕ) → digits 16 false n ≡ digits_onto 64 16 false n []
unfolding digits
digits_are n = refl

number_from : (t : List ℕ) → 0 < length t → hex_number t ≡ hex_from 0 t
number_from [] h = absurd (omega arith)
number_from (c ∷ cs) h = refl

some_first : (n : ℕ) → 0 < length (digits_onto 64 16 false n [])
some_first n = let g : ℕ = digit_glyph false (n % 16) in
    cond_both (eqb (n / 16) 0) (g ∷ []) (digits_onto 63 16 false (n / 16) (g ∷ [])) (λ t. 0 < length t) (λ e. omega arith) (λ e. some_spelled 63 (n / 16) g [])

hex_units : (n : ℕ) → All HexUnit (hex_digits n)
hex_units n =
    let u : All HexUnit (digits 16 false n) = subst (All HexUnit) (sym (digits_are n)) (units_spelled 64 n [] tt) in
    cond_both (ltb n 16) (48 ∷ digits 16 false n) (digits 16 false n) (All HexUnit) (λ e. (inl (omega arith, omega arith), u)) (λ e. u)

hex_number_lem : (n : ℕ) → n < 2 ^ 64 → hex_number (hex_digits n) ≡ Some n
hex_number_lem n small =
    let e : hex_from 0 (digits 16 false n) ≡ Some n = ap (hex_from 0) (digits_are n) ∙ hex_spelled 64 n [] small in
    let s : 0 < length (digits 16 false n) = subst (λ t. 0 < length t) (sym (digits_are n)) (some_first n) in
    cond_both (ltb n 16) (48 ∷ digits 16 false n) (digits 16 false n) (λ t. hex_number t ≡ Some n) (λ _. e) (λ _. number_from (digits 16 false n) s ∙ e)

hex_no_n : (n : ℕ) → All NoN (hex_digits n)
hex_no_n n = All-weaker HexUnit NoN (λ c h e. omega (arith, h)) (hex_digits n) (hex_units n)

module _ (reading : List ℕ → Option ℕ) (n : ℕ) where
  plain : (ds : List ℕ) → All NoN ds → All NoN (48 ∷ 120 ∷ ds)
  plain ds h = (λ e. omega arith, (λ e. omega arith, h))

  -- 0x and digits, with a minus or without
  hex_plain : (negative : Bool) (ds : List ℕ) → All NoN ds → hex_number ds ≡ Some n → n ≤ 9007199254740991 → number_value reading (cond negative (codes "-0x") (codes "0x") ++ ds) ≡ Some (number (whole_bits negative n))
  hex_plain true ds h e small =
      (λ i. or_else (and_then (no_n (48 ∷ 120 ∷ ds) (plain ds h) i) (λ d. and_then (whole_number d) (λ m. Some (big (integer true m)))))
      (or_else (and_then (e i) (hex_double true)) (numeral_value reading (45 ∷ 48 ∷ 120 ∷ ds))))
      ∙ ap (λ b. or_else (when b (Some (number (whole_bits true n)))) (numeral_value reading (45 ∷ 48 ∷ 120 ∷ ds))) (le-leb n 9007199254740991 small)
  hex_plain false ds h e small =
      (λ i. or_else (and_then (no_n (48 ∷ 120 ∷ ds) (plain ds h) i) (λ d. and_then (whole_number d) (λ m. Some (big (integer false m)))))
      (or_else (and_then (e i) (hex_double false)) (numeral_value reading (48 ∷ 120 ∷ ds))))
      ∙ ap (λ b. or_else (when b (Some (number (whole_bits false n)))) (numeral_value reading (48 ∷ 120 ∷ ds))) (le-leb n 9007199254740991 small)

  pub number_hex : (negative : Bool) → n ≤ 9007199254740991 → number_value reading (hex_text negative n false) ≡ Some (number (whole_bits negative n))
  number_hex negative small =
      ap (number_value reading) (append-nil (cond negative (codes "-0x") (codes "0x") ++ hex_digits n))
      ∙ hex_plain negative (hex_digits n) (hex_no_n n) (hex_number_lem n (omega arith)) small

  whole_hex : (ds : List ℕ) → hex_number ds ≡ Some n → whole_number (48 ∷ 120 ∷ ds) ≡ Some n
  whole_hex ds e = ap (λ o. or_else o (when (whole_digits (48 ∷ 120 ∷ ds)) (Some (value_from 0 (48 ∷ 120 ∷ ds))))) e

  -- and an n behind them
  hex_big : (negative : Bool) (ds : List ℕ) → hex_number ds ≡ Some n → number_value reading (cond negative (codes "-0x") (codes "0x") ++ ds ++ (110 ∷ [])) ≡ Some (big (integer negative n))
  hex_big true ds e =
      let rest : Option Val = or_else (and_then (hex_number (ds ++ (110 ∷ []))) (hex_double true)) (numeral_value reading (45 ∷ 48 ∷ 120 ∷ (ds ++ (110 ∷ [])))) in
      ap (λ o. or_else (and_then o (λ d. and_then (whole_number d) (λ m. Some (big (integer true m))))) rest) (with_n (48 ∷ 120 ∷ ds))
      ∙ ap (λ o. or_else (and_then o (λ m. Some (big (integer true m)))) rest) (whole_hex ds e)
  hex_big false ds e =
      let rest : Option Val = or_else (and_then (hex_number (ds ++ (110 ∷ []))) (hex_double false)) (numeral_value reading (48 ∷ 120 ∷ (ds ++ (110 ∷ [])))) in
      ap (λ o. or_else (and_then o (λ d. and_then (whole_number d) (λ m. Some (big (integer false m))))) rest) (with_n (48 ∷ 120 ∷ ds))
      ∙ ap (λ o. or_else (and_then o (λ m. Some (big (integer false m)))) rest) (whole_hex ds e)

  pub number_hex_big : (negative : Bool) → n < 2 ^ 64 → number_value reading (hex_text negative n true) ≡ Some (big (integer negative n))
  number_hex_big negative small = hex_big negative (hex_digits n) (hex_number_lem n small)

-- decimals
passed : (x y z : Bool) (v n : ℕ) → cond x (cond (y && z) (Some v) None) None ≡ Some n → (x ≡ true) × (y ≡ true) × (v ≡ n)
passed true true true v n h = (refl, refl, cc)
passed true true false v n h = absurd (let z : ◌≡◌ {A = ℕ} 0 1 = cc in omega arith)
passed true false z v n h = absurd (let z : ◌≡◌ {A = ℕ} 0 1 = cc in omega arith)
passed false y z v n h = absurd (let z : ◌≡◌ {A = ℕ} 0 1 = cc in omega arith)

module _ (n : ℕ) (small : n ≤ 9007199254740991) where
  pub decimal_digits : (whole_digits (decimal n) ≡ true) × (are_digits (decimal n) ≡ true) × (value_from 0 (decimal n) ≡ n)
  decimal_digits =
      passed (whole_digits (decimal n)) (are_digits (decimal n)) (leb (value_from 0 (decimal n)) 9007199254740991) (value_from 0 (decimal n)) n
      (sym (ap (whole_within 9007199254740991) (body_is n small false)) ∙ whole_is n small false)

  pub decimal_within : (limit : ℕ) → n ≤ limit → whole_within limit (decimal n) ≡ Some n
  decimal_within limit h =
      let d = decimal_digits in
      (λ i. cond (d.0 i) (cond (d.1 i && leb (d.2 i) limit) (Some (d.2 i)) None) None) ∙ ap (λ b. cond b (Some n) None) (le-leb n limit h)

-- names
module _ (n : ℕ) (small : n < 4294967296) where
  pub name_of_lem : name_of (118 ∷ decimal n) ≡ Some n
  name_of_lem = decimal_within n (omega arith) 4294967295 (omega arith)

  pub word_name : (s : State) → word_value (118 ∷ decimal n) s ≡ lookup s.names n
  word_name s = ap (λ o. and_then o (lookup s.names)) name_of_lem

pub not_new : (n : ℕ) → is (118 ∷ decimal n) (codes "new") ≡ false
not_new n = refl
