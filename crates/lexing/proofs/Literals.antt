-- The lexer reads in the bytes of a string literal the units of its text.
use Rattle.std.proofs.Common.{◌≡◌, ℕ, zero, suc, ◌+◌, ◌-◌, ◌*◌, ◌/◌, ◌%◌, ◌^◌, ◌<◌, ◌≤◌, Bool, true, false, cond, ◌&&◌, ◌||◌, eqb, ltb, leb, ◌⊎◌, List, [], ◌∷◌, ◌++◌, Some, None, codes, Option, sym, refl, ap, ◌∙◌, inl, inr, ⊎_elim, append_assoc, append-nil, arith}
use lib.Utf8.{encode}
use Rattle.std.specs.Fmt.{digit_glyph, digits_onto, digits}
use Rattle.std.proofs.ByRecursion.{All-append}
use Rattle.std.proofs.lemmas.Bool.{cond-true, cond-false, cond_both, and_parts, and_from, or_parts, or_from, eq-eqb, ne_eqb, leb-true, lt-ltb, le-ltb, le-leb, cases_eq, cases_lt}
use Rattle.std.proofs.lemmas.Bool.Decides.{nat_tests}
use Rattle.dump.specs.Heaps.{Text}
use Rattle.formed.specs.Formed.{Units}
use Rattle.script.specs.Literals.{is_first, is_second, join_pair, escaped, read_units, literal}
use Rattle.evaluator.specs.Tokens.{Token, string, idle, in_string, escape, escape_u, escape_number, hex_value, units_of_point, lex}
use Rattle.lexing.proofs.Utf8.{Encodes, encodes_none, encodes_both, encodes_low, encodes_ascii, encodes_character}
use Rattle.lexing.proofs.Lexes.{silent, speaks}
use Rattle.lexing.proofs.Numbers.{all_digits}

-- the bytes are read as the units, in a literal
record Carries (bs us : List ℕ) : Type 0 where
  points : List ℕ
  encodes : Encodes bs points
  reads : (rest acc : List ℕ) → lex (points ++ rest) (in_string acc) ≡ lex rest (in_string (acc ++ us))

carries_none : Carries [] []
carries_none = record { points = []; encodes = encodes_none; reads = λ rest acc. ap (λ z. lex rest (in_string z)) (sym (append-nil acc)) }

carries_both : (bs cs us vs : List ℕ) → Carries bs us → Carries cs vs → Carries (bs ++ cs) (us ++ vs)
carries_both bs cs us vs f g = record {
  points = f.points ++ g.points;
  encodes = encodes_both bs cs f.points g.points f.encodes g.encodes;
  reads = λ rest acc.
      ap (λ z. lex z (in_string acc)) (append_assoc f.points g.points rest) ∙ f.reads (g.points ++ rest) acc ∙ g.reads rest (acc ++ us)
      ∙ ap (λ z. lex rest (in_string z)) (append_assoc acc us vs);
}

-- a unit is a code point of its own, and the two of a pair make one
one_unit : (c : ℕ) → c < 65536 → units_of_point c ≡ c ∷ []
one_unit c h = cond-true (ltb c 65536) _ _ (lt-ltb c 65536 h)

two_units : (a b : ℕ) → is_first a ≡ true → is_second b ≡ true → units_of_point (join_pair a b) ≡ a ∷ b ∷ []
two_units a b f s =
    let p = and_parts (leb 55296 a) (leb a 56319) f in
    let q = and_parts (leb 56320 b) (leb b 57343) s in
    let a₁ = leb-true 55296 a p.0 in let a₂ = leb-true a 56319 p.1 in
    let b₁ = leb-true 56320 b q.0 in let b₂ = leb-true b 57343 q.1 in
    cond-false (ltb (join_pair a b) 65536) _ _ (le-ltb (join_pair a b) 65536 (omega arith))
    ∙ (let x : 55296 + (join_pair a b - 65536) / 1024 ≡ a = omega arith in
    let y : 56320 + (join_pair a b - 65536) % 1024 ≡ b = omega arith in
    cc)

-- a character that needs no escape
raw : (c : ℕ) (us : List ℕ) → eqb c 34 ≡ false → eqb c 92 ≡ false → (eqb c 10 || eqb c 13) ≡ false → units_of_point c ≡ us →
    (rest acc : List ℕ) → lex (c ∷ rest) (in_string acc) ≡ lex rest (in_string (acc ++ us))
raw c us n₁ n₂ n₃ u rest acc =
    silent c (in_string acc) (in_string (acc ++ units_of_point c)) rest (cond-false _ _ _ n₁ ∙ cond-false _ _ _ n₂ ∙ cond-false _ _ _ n₃)
    ∙ ap (λ z. lex rest (in_string (acc ++ z))) u

-- a backslash before it
backslash : (c : ℕ) → (eqb c 34 || eqb c 92) ≡ true → Carries (92 ∷ c ∷ []) (c ∷ [])
backslash c h = record {
  points = 92 ∷ c ∷ [];
  encodes = encodes_ascii (92 ∷ c ∷ []) (omega arith, (grind (arith, nat_tests), tt));
  reads = λ rest acc.
      silent 92 (in_string acc) (escape acc) (c ∷ rest) refl ∙ silent c (escape acc) (in_string (acc ++ (c ∷ []))) rest (cond-true _ _ _ h);
}

-- a digit of an escape by number
digit_value : (d : ℕ) → d < 16 → hex_value (digit_glyph false d) ≡ d
digit_value d h = grind (arith, nat_tests)

no_brace : (d : ℕ) → d < 16 → eqb (digit_glyph false d) 125 ≡ false
no_brace d h = grind (arith, nat_tests)

low_digit : (d : ℕ) → d < 16 → digit_glyph false d < 128
low_digit d h = grind (arith, nat_tests)

digit_read : (d n : ℕ) (some : Bool) (us rest : List ℕ) → d < 16 → n * 16 + d ≤ 1114111 → lex (digit_glyph false d ∷ rest) (escape_number us some n) ≡ lex rest (escape_number us true (n * 16 + d))
digit_read d n some us rest h l =
    let g = digit_glyph false d in
    let v = digit_value d h in
    silent g (escape_number us some n) (escape_number us true (n * 16 + hex_value g)) rest
    (cond-false (eqb g 125) _ _ (no_brace d h)
    ∙ cond-true _ _ _ (and_from (ltb (hex_value g) 16) (leb (n * 16 + hex_value g) 1114111) (lt-ltb (hex_value g) 16 (omega arith)) (le-leb (n * 16 + hex_value g) 1114111 (omega arith))))
    ∙ ap (λ z. lex rest (escape_number us true (n * 16 + z))) v

-- all of them, from the first on
abbrev DigitsRead : ℕ → ℕ → Type 0
DigitsRead k n = (some : Bool) (us acc rest : List ℕ) → lex (digits_onto k 16 false n acc ++ rest) (escape_number us some 0) ≡ lex (acc ++ rest) (escape_number us true n)

one_digit : (k n : ℕ) → n / 16 ≡ 0 → n ≤ 1114111 → DigitsRead (suc k) n
one_digit k n e l some us acc rest =
    ap (λ b. lex (cond b (digit_glyph false (n % 16) ∷ acc) (digits_onto k 16 false (n / 16) (digit_glyph false (n % 16) ∷ acc)) ++ rest) (escape_number us some 0)) (eq-eqb (n / 16) 0 e)
    ∙ digit_read (n % 16) 0 some us (acc ++ rest) (omega arith) (omega arith) ∙ ap (λ z. lex (acc ++ rest) (escape_number us true z)) {x = 0 * 16 + n % 16} {y = n} (omega arith)

more_digits : (k n : ℕ) → (n / 16 ≡ 0 → ⊥) → n ≤ 1114111 → DigitsRead k (n / 16) → DigitsRead (suc k) n
more_digits k n e l ih some us acc rest =
    ap (λ b. lex (cond b (digit_glyph false (n % 16) ∷ acc) (digits_onto k 16 false (n / 16) (digit_glyph false (n % 16) ∷ acc)) ++ rest) (escape_number us some 0)) (ne_eqb (n / 16) 0 e)
    ∙ ih some us (digit_glyph false (n % 16) ∷ acc) rest ∙ digit_read (n % 16) (n / 16) true us (acc ++ rest) (omega arith) (omega arith)
    ∙ ap (λ z. lex (acc ++ rest) (escape_number us true z)) {x = n / 16 * 16 + n % 16} {y = n} (omega arith)

digits_read : (k n : ℕ) → n < 2 ^ suc k → n ≤ 1114111 → DigitsRead (suc k) n
digits_read zero n h l = one_digit zero n (omega arith) l
digits_read (suc k) n h l =
    ⊎_elim (λ (e : n / 16 ≡ 0). one_digit (suc k) n e l) (λ (e : n / 16 ≡ 0 → ⊥). more_digits (suc k) n e l (digits_read k (n / 16) (omega arith) (omega arith))) (cases_eq (n / 16) 0)

hex_read : (c : ℕ) (us rest : List ℕ) → c < 65536 → lex (digits 16 false c ++ rest) (escape_number us false 0) ≡ lex rest (escape_number us true c)
unfolding digits
hex_read c us rest h = digits_read 63 c (omega arith) (omega arith) false us [] rest

-- an escape by number
by_number : (c : ℕ) → c < 65536 → Carries (codes "\\u{" ++ digits 16 false c ++ codes "}") (c ∷ [])
by_number c h = record {
  points = codes "\\u{" ++ digits 16 false c ++ codes "}";
  encodes = encodes_ascii (codes "\\u{" ++ digits 16 false c ++ codes "}")
      (omega arith, (omega arith, (omega arith, All-append (λ z. z < 128) (digits 16 false c) (125 ∷ []) (all_digits (λ z. z < 128) 16 (λ n. low_digit (n % 16) (omega arith)) c) (omega arith, tt))));
  reads = λ rest acc.
      let end = (digits 16 false c ++ (125 ∷ [])) ++ rest in
      silent 92 (in_string acc) (escape acc) (117 ∷ 123 ∷ end) refl ∙ silent 117 (escape acc) (escape_u acc) (123 ∷ end) refl
      ∙ silent 123 (escape_u acc) (escape_number acc false 0) end refl ∙ ap (λ z. lex z (escape_number acc false 0)) (append_assoc (digits 16 false c) (125 ∷ []) rest)
      ∙ hex_read c acc (125 ∷ rest) h ∙ silent 125 (escape_number acc true c) (in_string (acc ++ units_of_point c)) rest refl
      ∙ ap (λ z. lex rest (in_string (acc ++ z))) (one_unit c h);
}

-- one unit
plain : (c : ℕ) → c < 65536 → (eqb c 34 || eqb c 92) ≡ false → (ltb c 32 || (eqb c 127 || (leb 55296 c && leb c 57343))) ≡ false → Carries (encode c) (c ∷ [])
plain c h n m = record {
  points = c ∷ [];
  encodes = encodes_character c (omega arith) (split (cases_lt c 55296));
  reads = raw c (c ∷ []) (or_parts (eqb c 34) (eqb c 92) n).0 (or_parts (eqb c 34) (eqb c 92) n).1 (grind (arith, nat_tests)) (one_unit c h);
}
  where
    split : (c < 55296) ⊎ (55296 ≤ c) → (c < 55296) ⊎ (57344 ≤ c)
    split (inl l) = inl l
    split (inr l) = inr (grind (arith, nat_tests))

carries_escaped : (c : ℕ) → c < 65536 → Carries (escaped c) (c ∷ [])
carries_escaped c h =
    cond_both (eqb c 34 || eqb c 92) _ _ (λ z. Carries z (c ∷ [])) (backslash c)
    (λ n. cond_both (ltb c 32 || (eqb c 127 || (leb 55296 c && leb c 57343))) _ _ (λ z. Carries z (c ∷ [])) (λ _. by_number c h) (plain c h n))

-- the two of a pair
carries_pair : (a b : ℕ) → is_first a ≡ true → is_second b ≡ true → Carries (encode (join_pair a b)) (a ∷ b ∷ [])
carries_pair a b f s =
    let p = and_parts (leb 55296 a) (leb a 56319) f in
    let q = and_parts (leb 56320 b) (leb b 57343) s in
    let a₁ = leb-true 55296 a p.0 in
    let a₂ = leb-true a 56319 p.1 in
    let b₁ = leb-true 56320 b q.0 in
    let b₂ = leb-true b 57343 q.1 in
    record {
      points = join_pair a b ∷ [];
      encodes = encodes_character (join_pair a b) (omega arith) (inr (omega arith));
      reads = raw (join_pair a b) (a ∷ b ∷ []) (ne_eqb (join_pair a b) 34 (λ e. omega arith)) (ne_eqb (join_pair a b) 92 (λ e. omega arith))
          (or_from _ _ (ne_eqb (join_pair a b) 10 (λ e. omega arith)) (ne_eqb (join_pair a b) 13 (λ e. omega arith))) (two_units a b f s);
    }

-- all units of a text, behind a first surrogate that waits
abbrev Waits : Option ℕ → Type 0
Waits None = Unit {0}
Waits (Some a) = is_first a ≡ true

abbrev waited : Option ℕ → List ℕ
waited None = []
waited (Some a) = a ∷ []

first_small : (a : ℕ) → is_first a ≡ true → a < 65536
first_small a f = let p = and_parts (leb 55296 a) (leb a 56319) f in omega (arith, leb-true a 56319 p.1)

carries_units : (t : Text) (w : Option ℕ) → Units t → Waits w → Carries (read_units w t) (waited w ++ t)
carries_units [] None l f = carries_none
carries_units [] (Some a) l f = carries_escaped a (first_small a f)
carries_units (u ∷ us) None l f = go (is_first u) refl (λ w g. carries_units us w l.1 g)
  where
    go : (b : Bool) → is_first u ≡ b → ((w : Option ℕ) → Waits w → Carries (read_units w us) (waited w ++ us)) → Carries (cond b [] (escaped u) ++ read_units (cond b (Some u) None) us) (u ∷ us)
    go true e k = k (Some u) e
    go false e k = carries_both (escaped u) (read_units None us) (u ∷ []) us (carries_escaped u l.0) (k None tt)
carries_units (u ∷ us) (Some a) l f = go (is_second u) (is_first u) refl refl (λ w g. carries_units us w l.1 g)
  where
    first : Carries (escaped a) (a ∷ [])
    first = carries_escaped a (first_small a f)

    go : (s b : Bool) → is_second u ≡ s → is_first u ≡ b → ((w : Option ℕ) → Waits w → Carries (read_units w us) (waited w ++ us)) →
        Carries (cond s (encode (join_pair a u)) (escaped a ++ cond b [] (escaped u)) ++ read_units (cond b (Some u) None) us) (a ∷ u ∷ us)
    go true true d e k = absurd (grind (arith, nat_tests))
    go true false d e k = carries_both (encode (join_pair a u)) (read_units None us) (a ∷ u ∷ []) us (carries_pair a u f d) (k None tt)
    go false true d e k = carries_both (escaped a ++ []) (read_units (Some u) us) (a ∷ []) (u ∷ us) (carries_both (escaped a) [] (a ∷ []) [] first carries_none) (k (Some u) e)
    go false false d e k =
        carries_both (escaped a ++ escaped u) (read_units None us) (a ∷ u ∷ []) us (carries_both (escaped a) (escaped u) (a ∷ []) (u ∷ []) first (carries_escaped u l.0)) (k None tt)

-- A literal: its characters, and the one token in them.
pub record Quoted (t : Text) : Type 0 where
  pub points : List ℕ
  pub encodes : Encodes (literal t) (34 ∷ points)
  pub lexes : (rest : List ℕ) (us : List Token) → lex rest idle ≡ Some us → lex (34 ∷ (points ++ rest)) idle ≡ Some (string t ∷ us)

pub quoted : (t : Text) → Units t → Quoted t
quoted t l = record {
  points = c.points ++ (34 ∷ []);
  encodes = encodes_both (34 ∷ []) (read_units None t ++ (34 ∷ [])) (34 ∷ []) (c.points ++ (34 ∷ [])) (encodes_low 34 (omega arith))
      (encodes_both (read_units None t) (34 ∷ []) c.points (34 ∷ []) c.encodes (encodes_low 34 (omega arith)));
  lexes = λ rest us e.
      silent 34 idle (in_string []) ((c.points ++ (34 ∷ [])) ++ rest) refl ∙ ap (λ z. lex z (in_string [])) (append_assoc c.points (34 ∷ []) rest)
      ∙ c.reads (34 ∷ rest) [] ∙ speaks 34 (in_string t) idle rest (string t ∷ []) us refl e;
}
  where
    c : Carries (read_units None t) t
    c = carries_units t None l tt
