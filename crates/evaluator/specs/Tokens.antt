-- The tokens of a line, by ECMA-262: white space, line ends and comments stand between them.
use Rattle.std.specs.Prelude.{ℕ, ◌+◌, ◌-◌, ◌*◌, ◌/◌, ◌%◌, Bool, true, false, cond, ◌&&◌, ◌||◌, List, [], ◌∷◌, ◌++◌, Some, None, Option, ◌==◌, nat_le, nat_lt}
use Rattle.evaluator.specs.Options.{and_then}

pub data Token : Type 0 where
  -- a word, a number as it is written, a string's units, a mark by its code
  word number string : List ℕ → Token
  mark : ℕ → Token
  -- a line end before the next token
  break : Token

pub data Lexing : Type 0 where
  idle : Lexing
  -- a minus that may begin a number
  minus : Lexing
  in_word in_number : List ℕ → Lexing
  -- a string: its units so far; behind a backslash; in an escape by number
  in_string escape : List ℕ → Lexing
  escape_u : List ℕ → Lexing
  escape_number : List ℕ → Bool → ℕ → Lexing
  -- a slash; a comment to the line's end; a comment, and a star in it
  slash line_comment comment star : Lexing

abbrev pub is_digit : ℕ → Bool
is_digit c = nat_le 48 c && nat_le c 57

abbrev pub word_start : ℕ → Bool
word_start c = (nat_le 97 c && nat_le c 122) || ((nat_le 65 c && nat_le c 90) || (c == 95 || c == 36))

abbrev pub word_part : ℕ → Bool
word_part c = word_start c || is_digit c

-- white space: tab, vertical tab, form feed, space, no-break space, byte order mark
abbrev pub is_blank : ℕ → Bool
is_blank c = c == 9 || (c == 11 || (c == 12 || (c == 32 || (c == 160 || c == 65279))))

abbrev pub is_line_end : ℕ → Bool
is_line_end c = c == 10 || (c == 13 || (c == 8232 || c == 8233))

-- ( ) { } [ ] , ; : . =
abbrev pub is_mark : ℕ → Bool
is_mark c =
    (c == 40) || (c == 41 || (c == 123 || (c == 125 || (c == 91 || (c == 93 || (c == 44 || (c == 59 || (c == 58 || (c == 46 || c == 61)))))))))

-- a hexadecimal digit's value, 16 for no digit
abbrev pub hex_value : ℕ → ℕ
hex_value c = cond (is_digit c) (c - 48) (cond (nat_le 97 c && nat_le c 102) (c - 87) (cond (nat_le 65 c && nat_le c 70) (c - 55) 16))

-- UTF-16 units of a code point; a lone surrogate is one
abbrev pub units_of_point : ℕ → List ℕ
units_of_point c = cond (nat_lt c 65536) (c ∷ []) ((55296 + (c - 65536) / 1024) ∷ (56320 + (c - 65536) % 1024) ∷ [])

-- what one character makes: the tokens that are done, and the state after it
pub data Next : Type 0 where
  go : List Token → Lexing → Next
  stuck : Next

abbrev pub fresh : ℕ → Next
fresh c =
    cond (is_blank c) (go [] idle)
    (cond (is_line_end c) (go (break ∷ []) idle)
    (cond (c == 34) (go [] (in_string []))
    (cond (is_digit c) (go [] (in_number (c ∷ [])))
    (cond (c == 45) (go [] minus)
    (cond (word_start c) (go [] (in_word (c ∷ [])))
    (cond (c == 47) (go [] slash)
    (cond (is_mark c) (go (mark c ∷ []) idle)
    stuck)))))))

abbrev pub after : Token → Next → Next
after t (go ts l) = go (t ∷ ts) l
after t stuck = stuck

abbrev pub lex_step : ℕ → Lexing → Next
lex_step c idle = fresh c
lex_step c minus = cond (is_digit c) (go [] (in_number (45 ∷ c ∷ []))) (after (mark 45) (fresh c))
lex_step c (in_word w) = cond (word_part c) (go [] (in_word (w ++ (c ∷ [])))) (after (word w) (fresh c))
lex_step c (in_number w) = cond (word_part c || c == 46) (go [] (in_number (w ++ (c ∷ [])))) (after (number w) (fresh c))
lex_step c (in_string us) =
    cond (c == 34) (go (string us ∷ []) idle)
    (cond (c == 92) (go [] (escape us))
    (cond (c == 10 || c == 13) stuck
    (go [] (in_string (us ++ units_of_point c)))))
lex_step c (escape us) =
    cond (c == 34 || c == 92) (go [] (in_string (us ++ (c ∷ []))))
    (cond (c == 117) (go [] (escape_u us)) stuck)
lex_step c (escape_u us) = cond (c == 123) (go [] (escape_number us false 0)) stuck
lex_step c (escape_number us some n) =
    cond (c == 125) (cond some (go [] (in_string (us ++ units_of_point n))) stuck)
    (cond (nat_lt (hex_value c) 16 && nat_le (n * 16 + hex_value c) 1114111) (go [] (escape_number us true (n * 16 + hex_value c))) stuck)
lex_step c slash = cond (c == 42) (go [] comment) (cond (c == 47) (go [] line_comment) stuck)
lex_step c line_comment = cond (is_line_end c) (go (break ∷ []) idle) (go [] line_comment)
lex_step c comment = cond (c == 42) (go [] star) (cond (is_line_end c) (go (break ∷ []) comment) (go [] comment))
lex_step c star = cond (c == 47) (go [] idle) (cond (c == 42) (go [] star) (cond (is_line_end c) (go (break ∷ []) comment) (go [] comment)))

abbrev pub lex_end : Lexing → Option (List Token)
lex_end idle = Some []
lex_end minus = Some (mark 45 ∷ [])
lex_end (in_word w) = Some (word w ∷ [])
lex_end (in_number w) = Some (number w ∷ [])
lex_end (in_string us) = None
lex_end (escape us) = None
lex_end (escape_u us) = None
lex_end (escape_number us some n) = None
lex_end slash = None
lex_end line_comment = Some []
lex_end comment = None
lex_end star = None

abbrev pub follow : Next → (Lexing → Option (List Token)) → Option (List Token)
follow (go ts l) k = and_then (k l) (λ us. Some (ts ++ us))
follow stuck k = None

abbrev pub lex : List ℕ → Lexing → Option (List Token)
lex [] l = lex_end l
lex (c ∷ cs) l = follow (lex_step c l) (lex cs)

abbrev pub tokens : List ℕ → Option (List Token)
tokens cs = lex cs idle
