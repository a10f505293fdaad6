-- What the lexer finds in the characters of one word, mark, number or piece of layout, whatever follows.
use Rattle.std.proofs.Common.{◌≡◌, ℕ, zero, suc, Bool, true, false, ◌&&◌, ◌||◌, eqb, List, [], ◌∷◌, ◌++◌, Some, None, codes, Option, sym, refl, ap, ◌∙◌, append_assoc, append-nil, arith}
use Rattle.std.proofs.lemmas.Bool.{cond-true, cond-false, and_parts, both_ways}
use Rattle.std.proofs.lemmas.Bool.Decides.{nat_tests}
use Rattle.script.specs.Items.{spaces}
use Rattle.evaluator.specs.Options.{and_then}
use Rattle.evaluator.specs.Tokens.{Token, word, number, mark, break, Lexing, idle, minus, in_word, in_number, slash, comment, star, is_digit, word_start, word_part, is_blank, is_line_end, is_mark, Next, go, stuck, fresh, after, lex_step, follow, lex}

none_some : {A : Type 0} {a : A} → ◌≡◌ {A = Option A} None (Some a) → ⊥
none_some e = let z : ◌≡◌ {A = ℕ} 0 1 = cc in omega arith

-- a step that ends no token
quiet : (o : Option (List Token)) → and_then o (λ us. Some us) ≡ o
quiet None = refl
quiet (Some us) = refl

pub silent : (c : ℕ) (l l' : Lexing) (cs : List ℕ) → lex_step c l ≡ go [] l' → lex (c ∷ cs) l ≡ lex cs l'
silent c l l' cs e = ap (λ z. follow z (lex cs)) e ∙ quiet (lex cs l')

-- a step that ends tokens
pub speaks : (c : ℕ) (l l' : Lexing) (cs : List ℕ) (ts us : List Token) → lex_step c l ≡ go ts l' → lex cs l' ≡ Some us → lex (c ∷ cs) l ≡ Some (ts ++ us)
speaks c l l' cs ts us e h = ap (λ z. follow z (lex cs)) e ∙ ap (λ o. and_then o (λ vs. Some (ts ++ vs))) h

-- a token that ends where the next character begins something new
follow_after : (t : Token) (x : Next) (k : Lexing → Option (List Token)) (us : List Token) → follow x k ≡ Some us → follow (after t x) k ≡ Some (t ∷ us)
follow_after t (go ts l) k us e = on (k l) e
  where
    on : (o : Option (List Token)) → and_then o (λ vs. Some (ts ++ vs)) ≡ Some us → and_then o (λ vs. Some (t ∷ (ts ++ vs))) ≡ Some (t ∷ us)
    on None e = absurd (none_some e)
    on (Some vs) e = let d : ts ++ vs ≡ us = cc in ap (λ z. Some (t ∷ z)) d
follow_after t stuck k us e = absurd (none_some e)

-- a word

abbrev pub are_parts : List ℕ → Bool
are_parts [] = true
are_parts (c ∷ cs) = word_part c && are_parts cs

abbrev pub is_word : List ℕ → Bool
is_word [] = false
is_word (c ∷ cs) = word_start c && are_parts cs

abbrev pub starts_part : List ℕ → Bool
starts_part [] = false
starts_part (c ∷ cs) = word_part c

start_word : (c : ℕ) → word_start c ≡ true → fresh c ≡ go [] (in_word (c ∷ []))
start_word c h =
    cond-false (is_blank c) _ _ (grind (arith, nat_tests)) ∙ cond-false (is_line_end c) _ _ (grind (arith, nat_tests)) ∙ cond-false (eqb c 34) _ _ (grind (arith, nat_tests))
    ∙ cond-false (is_digit c) _ _ (grind (arith, nat_tests)) ∙ cond-false (eqb c 45) _ _ (grind (arith, nat_tests)) ∙ cond-true (word_start c) _ _ h

word_run : (cs rest w : List ℕ) → are_parts cs ≡ true → lex (cs ++ rest) (in_word w) ≡ lex rest (in_word (w ++ cs))
word_run [] rest w h = ap (λ z. lex rest (in_word z)) (sym (append-nil w))
word_run (c ∷ cs) rest w h =
    let p = and_parts (word_part c) (are_parts cs) h in
    silent c (in_word w) (in_word (w ++ (c ∷ []))) (cs ++ rest) (cond-true (word_part c) _ _ p.0)
    ∙ word_run cs rest (w ++ (c ∷ [])) p.1 ∙ ap (λ z. lex rest (in_word z)) (append_assoc w (c ∷ []) cs)

word_end : (rest w : List ℕ) (us : List Token) → starts_part rest ≡ false → lex rest idle ≡ Some us → lex rest (in_word w) ≡ Some (word w ∷ us)
word_end [] w us d e = let x : [] ≡ us = cc in ap (λ z. Some (word w ∷ z)) x
word_end (c ∷ cs) w us d e = ap (λ z. follow z (lex cs)) (cond-false (word_part c) _ _ d) ∙ follow_after (word w) (fresh c) (lex cs) us e

pub lex_word : (w rest : List ℕ) (us : List Token) → is_word w ≡ true → starts_part rest ≡ false → lex rest idle ≡ Some us → lex (w ++ rest) idle ≡ Some (word w ∷ us)
lex_word [] rest us h d e = absurd (both_ways false refl h)
lex_word (c ∷ cs) rest us h d e =
    let p = and_parts (word_start c) (are_parts cs) h in
    silent c idle (in_word (c ∷ [])) (cs ++ rest) (start_word c p.0) ∙ word_run cs rest (c ∷ []) p.1 ∙ word_end rest (c ∷ cs) us d e

-- a word behind a minus that no digit follows
pub lex_minus_word : (w rest : List ℕ) (us : List Token) → is_word w ≡ true → starts_part rest ≡ false → lex rest idle ≡ Some us → lex (45 ∷ (w ++ rest)) idle ≡ Some (mark 45 ∷ word w ∷ us)
lex_minus_word [] rest us h d e = absurd (both_ways false refl h)
lex_minus_word (c ∷ cs) rest us h d e =
    let p = and_parts (word_start c) (are_parts cs) h in
    silent 45 idle minus ((c ∷ cs) ++ rest) refl ∙ ap (λ z. follow z (lex (cs ++ rest))) (cond-false (is_digit c) _ _ (no_digit c p.0))
    ∙ follow_after (mark 45) (fresh c) (lex (cs ++ rest)) (word (c ∷ cs) ∷ us) (lex_word (c ∷ cs) rest us h d e)
  where
    no_digit : (c : ℕ) → word_start c ≡ true → is_digit c ≡ false
    no_digit c h = grind (arith, nat_tests)

-- a number

abbrev pub number_part : ℕ → Bool
number_part c = word_part c || eqb c 46

abbrev pub are_number_parts : List ℕ → Bool
are_number_parts [] = true
are_number_parts (c ∷ cs) = number_part c && are_number_parts cs

abbrev pub starts_number_part : List ℕ → Bool
starts_number_part [] = false
starts_number_part (c ∷ cs) = number_part c

-- a digit, and what may go on
abbrev pub is_number : List ℕ → Bool
is_number [] = false
is_number (c ∷ cs) = is_digit c && are_number_parts cs

start_number : (c : ℕ) → is_digit c ≡ true → fresh c ≡ go [] (in_number (c ∷ []))
start_number c h =
    cond-false (is_blank c) _ _ (grind (arith, nat_tests)) ∙ cond-false (is_line_end c) _ _ (grind (arith, nat_tests)) ∙ cond-false (eqb c 34) _ _ (grind (arith, nat_tests))
    ∙ cond-true (is_digit c) _ _ h

number_run : (cs rest w : List ℕ) → are_number_parts cs ≡ true → lex (cs ++ rest) (in_number w) ≡ lex rest (in_number (w ++ cs))
number_run [] rest w h = ap (λ z. lex rest (in_number z)) (sym (append-nil w))
number_run (c ∷ cs) rest w h =
    let p = and_parts (number_part c) (are_number_parts cs) h in
    silent c (in_number w) (in_number (w ++ (c ∷ []))) (cs ++ rest) (cond-true (number_part c) _ _ p.0)
    ∙ number_run cs rest (w ++ (c ∷ [])) p.1 ∙ ap (λ z. lex rest (in_number z)) (append_assoc w (c ∷ []) cs)

number_end : (rest w : List ℕ) (us : List Token) → starts_number_part rest ≡ false → lex rest idle ≡ Some us → lex rest (in_number w) ≡ Some (number w ∷ us)
number_end [] w us d e = let x : [] ≡ us = cc in ap (λ z. Some (number w ∷ z)) x
number_end (c ∷ cs) w us d e = ap (λ z. follow z (lex cs)) (cond-false (number_part c) _ _ d) ∙ follow_after (number w) (fresh c) (lex cs) us e

pub lex_number : (w rest : List ℕ) (us : List Token) → is_number w ≡ true → starts_number_part rest ≡ false → lex rest idle ≡ Some us → lex (w ++ rest) idle ≡ Some (number w ∷ us)
lex_number [] rest us h d e = absurd (both_ways false refl h)
lex_number (c ∷ cs) rest us h d e =
    let p = and_parts (is_digit c) (are_number_parts cs) h in
    silent c idle (in_number (c ∷ [])) (cs ++ rest) (start_number c p.0) ∙ number_run cs rest (c ∷ []) p.1 ∙ number_end rest (c ∷ cs) us d e

-- with a minus before it
pub lex_negative : (w rest : List ℕ) (us : List Token) → is_number w ≡ true → starts_number_part rest ≡ false → lex rest idle ≡ Some us → lex (45 ∷ (w ++ rest)) idle ≡ Some (number (45 ∷ w) ∷ us)
lex_negative [] rest us h d e = absurd (both_ways false refl h)
lex_negative (c ∷ cs) rest us h d e =
    let p = and_parts (is_digit c) (are_number_parts cs) h in
    silent 45 idle minus ((c ∷ cs) ++ rest) refl ∙ silent c minus (in_number (45 ∷ c ∷ [])) (cs ++ rest) (cond-true (is_digit c) _ _ p.0)
    ∙ number_run cs rest (45 ∷ c ∷ []) p.1 ∙ number_end rest (45 ∷ c ∷ cs) us d e

-- a mark
pub lex_mark : (c : ℕ) (rest : List ℕ) (us : List Token) → is_mark c ≡ true → lex rest idle ≡ Some us → lex (c ∷ rest) idle ≡ Some (mark c ∷ us)
lex_mark c rest us h e = speaks c idle idle rest (mark c ∷ []) us go_on e
  where
    go_on : fresh c ≡ go (mark c ∷ []) idle
    go_on =
        cond-false (is_blank c) _ _ (grind (arith, nat_tests)) ∙ cond-false (is_line_end c) _ _ (grind (arith, nat_tests)) ∙ cond-false (eqb c 34) _ _ (grind (arith, nat_tests))
        ∙ cond-false (is_digit c) _ _ (grind (arith, nat_tests)) ∙ cond-false (eqb c 45) _ _ (grind (arith, nat_tests)) ∙ cond-false (word_start c) _ _ (grind (arith, nat_tests))
        ∙ cond-false (eqb c 47) _ _ (grind (arith, nat_tests)) ∙ cond-true (is_mark c) _ _ h

-- blanks, and a line end
pub lex_blanks : (n : ℕ) (rest : List ℕ) → lex (spaces n ++ rest) idle ≡ lex rest idle
lex_blanks zero rest = refl
lex_blanks (suc n) rest = silent 32 idle idle (spaces n ++ rest) refl ∙ lex_blanks n rest

pub lex_line_end : (rest : List ℕ) (us : List Token) → lex rest idle ≡ Some us → lex (10 ∷ rest) idle ≡ Some (break ∷ us)
lex_line_end rest us e = speaks 10 idle idle rest (break ∷ []) us refl e

-- a comment of letters and digits

note_run : (t rest : List ℕ) → are_parts t ≡ true → lex (t ++ rest) comment ≡ lex rest comment
note_run [] rest h = refl
note_run (c ∷ t) rest h =
    let p = and_parts (word_part c) (are_parts t) h in
    silent c comment comment (t ++ rest) (cond-false (eqb c 42) _ _ (no_star c p.0) ∙ cond-false (is_line_end c) _ _ (no_end c p.0)) ∙ note_run t rest p.1
  where
    no_star : (c : ℕ) → word_part c ≡ true → eqb c 42 ≡ false
    no_star c h = grind (arith, nat_tests)

    no_end : (c : ℕ) → word_part c ≡ true → is_line_end c ≡ false
    no_end c h = grind (arith, nat_tests)

pub lex_comment : (t rest : List ℕ) → are_parts t ≡ true → lex (codes "/* " ++ (t ++ (codes " */" ++ rest))) idle ≡ lex rest idle
lex_comment t rest h =
    let end = t ++ (codes " */" ++ rest) in
    silent 47 idle slash (42 ∷ 32 ∷ end) refl ∙ silent 42 slash comment (32 ∷ end) refl ∙ silent 32 comment comment end refl ∙ note_run t (codes " */" ++ rest) h
    ∙ silent 32 comment comment (42 ∷ 47 ∷ rest) refl ∙ silent 42 comment star (47 ∷ rest) refl ∙ silent 47 star idle rest refl
