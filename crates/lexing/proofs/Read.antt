-- The lexer finds in the bytes of items that fit the tokens of each.
use Rattle.std.proofs.Common.{◌≡◌, ℕ, zero, suc, ◌<◌, Bool, true, false, cond, ◌||◌, eqb, List, [], ◌∷◌, ◌++◌, Some, codes, Option, sym, refl, ap, ◌∙◌, append_assoc, arith}
use Rattle.std.specs.List.{AllByRecursion as All}
use Rattle.std.proofs.ByRecursion.{All-append}
use Rattle.std.proofs.lemmas.Bool.{or_parts, or_from, not-true}
use Rattle.std.proofs.lemmas.Bool.Decides.{nat_tests}
use Rattle.numeral.specs.Numerals.{finite}
use Rattle.numeral.proofs.Laws.{pair_numeral}
use Rattle.speller.specs.Spelling.{Lawful}
use Rattle.script.specs.Items as items
use Rattle.script.specs.Items.{Item, all, spelled, spaces, signed_decimal, not_finite, or_cut, before, line}
use Rattle.script.specs.Literals.{literal}
use Rattle.effects.specs.Readable.{Spelled}
use Rattle.effects.specs.Tokens.{hex_text, not_finite_tokens, numeral_tokens, item_tokens, items_tokens}
use Rattle.evaluator.specs.Characters.{characters}
use Rattle.evaluator.specs.Tokens.{Token, word, number, string, mark, break, idle, word_part, is_mark, lex}
use Rattle.lexing.proofs.Utf8.{Encodes, encodes_both, encodes_low, encodes_ascii}
use Rattle.lexing.proofs.Lexes.{are_parts, is_word, starts_part, starts_number_part, lex_word, lex_minus_word, lex_mark, lex_blanks, lex_line_end, lex_comment}
use Rattle.lexing.proofs.Numbers.{IsNumber, lex_signed, ascii_parts, ascii_word, ascii_number, whole_number_lem, hex_number_lem, numeral_number, bigint_number}
use Rattle.lexing.proofs.Literals.{quoted}
use Rattle.lexing.proofs.Fits.{Edge, free, worded, numbered, apart, Fit, fit_word, fit_mark, fit_text, fit_whole, fit_double, fit_bigint, fit_hex, fit_blanks, fit_blank, fit_line_end, fit_comment, Runs, done, eased, ◌then◌}

-- the first character would go on with what stands before
abbrev pub meets : Edge → List ℕ → Bool
meets free cs = false
meets worded cs = starts_part cs
meets numbered cs = starts_number_part cs

no_part : (cs : List ℕ) → starts_number_part cs ≡ false → starts_part cs ≡ false
no_part [] h = refl
no_part (c ∷ cs) h = (or_parts (word_part c) (eqb c 46) h).0

no_mark : (d : Edge) (c : ℕ) (cs : List ℕ) → is_mark c ≡ true → apart d c ≡ true → meets d (c ∷ cs) ≡ false
no_mark free c cs m a = refl
no_mark worded c cs m a = grind (arith, nat_tests)
no_mark numbered c cs m a = or_from (word_part c) (eqb c 46) (grind (arith, nat_tests)) (not-true (eqb c 46) a)

-- what neither goes on with a word nor with a number
no_start : (d : Edge) (c : ℕ) (cs : List ℕ) → (word_part c || eqb c 46) ≡ false → meets d (c ∷ cs) ≡ false
no_start free c cs h = refl
no_start worded c cs h = (or_parts (word_part c) (eqb c 46) h).0
no_start numbered c cs h = h

-- bytes with the characters and the tokens in them, behind one edge and before another
record Piece (d : Edge) (bs : List ℕ) (ts : List Token) (e : Edge) : Type 0 where
  chars : List ℕ
  encodes : Encodes bs chars
  lexes : (rest : List ℕ) (us : List Token) → meets e rest ≡ false → lex rest idle ≡ Some us → lex (chars ++ rest) idle ≡ Some (ts ++ us)
  clear : (rest : List ℕ) → meets d (chars ++ rest) ≡ false

number_piece : (t : List ℕ) → IsNumber t → Piece free t (number t ∷ []) numbered
number_piece t h = record { chars = t; encodes = encodes_ascii t (ascii_number t h); lexes = λ rest us m e. lex_signed t rest us h m e; clear = λ rest. refl }

word_piece : (w : List ℕ) → is_word w ≡ true → Piece free w (word w ∷ []) worded
word_piece w h = record { chars = w; encodes = encodes_ascii w (ascii_word w h); lexes = λ rest us m e. lex_word w rest us h m e; clear = λ rest. refl }

-- an infinite double, or none
not_finite_piece : (bits : ℕ) → Piece free (not_finite bits) (not_finite_tokens bits) numbered
not_finite_piece bits = go (eqb bits 9218868437227405312) (eqb bits 18442240474082181120)
  where
    plain : (w : List ℕ) → is_word w ≡ true → Piece free w (word w ∷ []) numbered
    plain w h = record { chars = w; encodes = encodes_ascii w (ascii_word w h); lexes = λ rest us m e. lex_word w rest us h (no_part rest m) e; clear = λ rest. refl }

    go : (a b : Bool) → Piece free (cond a (codes "Infinity") (cond b (codes "-Infinity") (codes "NaN"))) (cond a (word (codes "Infinity") ∷ []) (cond b (mark 45 ∷ word (codes "Infinity") ∷ []) (word (codes "NaN") ∷ []))) numbered
    go true b = plain (codes "Infinity") refl
    go false true = record {
      chars = codes "-Infinity";
      encodes = encodes_both (45 ∷ []) (codes "Infinity") (45 ∷ []) (codes "Infinity") (encodes_low 45 (omega arith)) (encodes_ascii (codes "Infinity") (ascii_word (codes "Infinity") refl));
      lexes = λ rest us m e. lex_minus_word (codes "Infinity") rest us refl (no_part rest m) e;
      clear = λ rest. refl;
    }
    go false false = plain (codes "NaN") refl

blanks_ascii : (n : ℕ) → All (λ c. c < 128) (spaces n)
blanks_ascii zero = tt
blanks_ascii (suc n) = (omega arith, blanks_ascii n)

comment_piece : (d : Edge) (t : List ℕ) → are_parts t ≡ true → Piece d (codes "/* " ++ t ++ codes " */") [] free
comment_piece d t h = record {
  chars = codes "/* " ++ t ++ codes " */";
  encodes = encodes_ascii (codes "/* " ++ t ++ codes " */")
      (omega arith, (omega arith, (omega arith, All-append (λ c. c < 128) t (codes " */") (ascii_parts t h) (omega arith, (omega arith, (omega arith, tt))))));
  lexes = λ rest us m e. ap (λ z. lex (codes "/* " ++ z) idle) (append_assoc t (codes " */") rest) ∙ lex_comment t rest h ∙ e;
  clear = λ rest. no_start d 47 _ refl;
}

-- Items between an edge and the line's end: their bytes, the characters, and the tokens in them.
pub record Reads (numeral : ℕ → Option (List ℕ)) (d : Edge) (is : List Item) : Type 0 where
  pub bytes : List ℕ
  pub chars : List ℕ
  pub written : line numeral is ≡ all bytes
  pub decoded : characters bytes ≡ Some chars
  pub lexed : lex chars idle ≡ Some (items_tokens numeral is)
  pub clear : meets d chars ≡ false

module _ (numeral : ℕ → Option (List ℕ)) (lawful : Lawful numeral) where
  -- one item more in front
  joined : {d e : Edge} (i : Item) (is : List Item) (bs : List ℕ) (ts : List Token) → ((l : List ℕ) → before numeral i (all l) ≡ all (bs ++ l)) → item_tokens numeral i ≡ ts →
      Piece d bs ts e → Reads numeral e is → Reads numeral d (i ∷ is)
  joined i is bs ts w t p r = record {
    bytes = bs ++ r.bytes;
    chars = p.chars ++ r.chars;
    written = ap (before numeral i) r.written ∙ w r.bytes;
    decoded = p.encodes r.bytes r.chars r.decoded;
    lexed = p.lexes r.chars (items_tokens numeral is) r.clear r.lexed ∙ ap (λ z. Some (z ++ items_tokens numeral is)) (sym t);
    clear = p.clear r.chars;
  }

  -- a double: its numeral, or the word for it
  reads_double : (bits : ℕ) (is : List Item) → Spelled numeral bits → Reads numeral numbered is → Reads numeral free (items.double bits ∷ is)
  reads_double bits is s r = go (finite bits) refl
    where
      go : (b : Bool) → finite bits ≡ b → Reads numeral free (items.double bits ∷ is)
      go true e =
          let t = (s e).0 in
          let h = (s e).1 in
          joined (items.double bits) is t (number t ∷ []) (λ l. ap (λ b. cond b (or_cut bits (numeral bits) (all l)) (spelled (not_finite bits) (all l))) e ∙ ap (λ o. or_cut bits o (all l)) h)
          (ap (λ b. cond b (numeral_tokens (numeral bits)) (not_finite_tokens bits)) e ∙ ap numeral_tokens h)
          (number_piece t (numeral_number t (pair_numeral bits t (lawful.shaped bits t h)))) r
      go false e =
          joined (items.double bits) is (not_finite bits) (not_finite_tokens bits) (λ l. ap (λ b. cond b (or_cut bits (numeral bits) (all l)) (spelled (not_finite bits) (all l))) e)
          (ap (λ b. cond b (numeral_tokens (numeral bits)) (not_finite_tokens bits)) e) (not_finite_piece bits) r

  reads_one : {d e : Edge} {i : Item} (is : List Item) → Fit numeral d i e → Reads numeral e is → Reads numeral d (i ∷ is)
  reads_one is (fit_word {w = w} h) r = joined (items.word w) is w (word w ∷ []) (λ l. refl) refl (word_piece w h) r
  reads_one is (fit_mark {d = d} {c = c} m a) r =
      joined (items.mark c) is (c ∷ []) (mark c ∷ []) (λ l. refl) refl
      (record { chars = c ∷ []; encodes = encodes_low c (low c m); lexes = λ rest us _ e. lex_mark c rest us m e; clear = λ rest. no_mark d c rest m a }) r
    where
      low : (c : ℕ) → is_mark c ≡ true → c < 128
      low c h = grind (arith, nat_tests)
  reads_one is (fit_text {d = d} {t = t} u) r =
      let q = quoted t u in
      joined (items.text t) is (literal t) (string t ∷ []) (λ l. refl) refl
      (record { chars = 34 ∷ q.points; encodes = q.encodes; lexes = λ rest us _ e. q.lexes rest us e; clear = λ rest. no_start d 34 _ refl }) r
  reads_one is (fit_whole {z = z}) r = joined (items.whole z) is (signed_decimal z) (number (signed_decimal z) ∷ []) (λ l. refl) refl (number_piece (signed_decimal z) (whole_number_lem z)) r
  reads_one is (fit_double {bits = bits} s) r = reads_double bits is s r
  reads_one is (fit_bigint {t = t} h) r = joined (items.bigint t) is (t ++ (110 ∷ [])) (number (t ++ (110 ∷ [])) ∷ []) (λ l. refl) refl (number_piece (t ++ (110 ∷ [])) (bigint_number t h)) r
  reads_one is (fit_hex {negative = m} {n = n} {big = b}) r = joined (items.hex m n b) is (hex_text m n b) (number (hex_text m n b) ∷ []) (λ l. refl) refl (number_piece (hex_text m n b) (hex_number_lem m n b)) r
  reads_one is (fit_blanks {n = n}) r = joined (items.blanks n) is (spaces n) [] (λ l. refl) refl
      (record { chars = spaces n; encodes = encodes_ascii (spaces n) (blanks_ascii n); lexes = λ rest us _ e. lex_blanks n rest ∙ e; clear = λ rest. refl }) r
  reads_one is (fit_blank {d = d}) r = joined (items.blanks 1) is (32 ∷ []) [] (λ l. refl) refl
      (record { chars = 32 ∷ []; encodes = encodes_low 32 (omega arith); lexes = λ rest us _ e. lex_blanks 1 rest ∙ e; clear = λ rest. no_start d 32 _ refl }) r
  reads_one is (fit_line_end {d = d}) r = joined items.line_end is (10 ∷ []) (break ∷ []) (λ l. refl) refl
      (record { chars = 10 ∷ []; encodes = encodes_low 10 (omega arith); lexes = λ rest us _ e. lex_line_end rest us e; clear = λ rest. no_start d 10 _ refl }) r
  reads_one is (fit_comment {d = d} {t = t} h) r = joined (items.comment t) is (codes "/* " ++ t ++ codes " */") [] (λ l. refl) refl (comment_piece d t h) r

  reads_none : (d : Edge) → Reads numeral d []
  reads_none d = record { bytes = []; chars = []; written = refl; decoded = refl; lexed = refl; clear = empty d }
    where
      empty : (d : Edge) → meets d [] ≡ false
      empty free = refl
      empty worded = refl
      empty numbered = refl

  pub reads : {d e : Edge} {is : List Item} → Runs numeral d is e → Reads numeral d is
  reads {d = d} done = reads_none d
  reads {d = d} eased = reads_none d
  reads (◌then◌ {is = is} f r) = reads_one is f (reads r)
