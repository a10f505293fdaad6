-- Items that may follow each other: no word or number meets another, and no point meets a number.
use Rattle.std.proofs.Common.{◌≡◌, ℕ, Bool, true, not, eqb, List, [], ◌∷◌, ◌++◌, ℤ, Option, refl}
use Rattle.dump.specs.Heaps.{Text}
use Rattle.numeral.specs.Numerals.{is_big_int}
use Rattle.formed.specs.Formed.{Units}
use Rattle.script.specs.Items.{Item, word, mark, text, whole, double, bigint, hex, blanks, line_end, comment}
use Rattle.effects.specs.Readable.{Spelled}
use Rattle.evaluator.specs.Tokens.{is_mark}
use Rattle.lexing.proofs.Lexes.{are_parts, is_word}

-- what stands before: something that ends by itself, a word, or a number
pub data Edge : Type 0 where
  free worded numbered : Edge

-- a point may not stand behind a number
abbrev pub apart : Edge → ℕ → Bool
apart free c = true
apart worded c = true
apart numbered c = not (eqb c 46)

module _ (numeral : ℕ → Option (List ℕ)) where
  -- an item that may stand behind an edge, and the edge behind it
  pub data Fit : Edge → Item → Edge → Type 0 where
    fit_word : {w : List ℕ} → is_word w ≡ true → Fit free (word w) worded
    fit_mark : {d : Edge} {c : ℕ} → is_mark c ≡ true → apart d c ≡ true → Fit d (mark c) free
    fit_text : {d : Edge} {t : Text} → Units t → Fit d (text t) free
    fit_whole : {z : ℤ} → Fit free (whole z) numbered
    fit_double : {bits : ℕ} → Spelled numeral bits → Fit free (double bits) numbered
    fit_bigint : {t : Text} → is_big_int t ≡ true → Fit free (bigint t) numbered
    fit_hex : {negative : Bool} {n : ℕ} {big : Bool} → Fit free (hex negative n big) numbered
    fit_blanks : {n : ℕ} → Fit free (blanks n) free
    fit_blank : {d : Edge} → Fit d (blanks 1) free
    fit_line_end : {d : Edge} → Fit d line_end free
    fit_comment : {d : Edge} {t : List ℕ} → are_parts t ≡ true → Fit d (comment t) free

  -- items one behind the other, between two edges; the last edge may be a stricter one
  pub data Runs : Edge → List Item → Edge → Type 0 where
    done : {d : Edge} → Runs d [] d
    eased : {d : Edge} → Runs d [] numbered
    ◌then◌ : {d e f : Edge} {i : Item} {is : List Item} → Fit d i e → Runs e is f → Runs d (i ∷ is) f

infixr 60 ◌then◌
looser : (d : Edge) (c : ℕ) → apart numbered c ≡ true → apart d c ≡ true
looser free c h = refl
looser worded c h = refl
looser numbered c h = h

module _ {numeral : ℕ → Option (List ℕ)} where
  -- what may stand behind a number may stand behind anything
  fit_anywhere : (d : Edge) {i : Item} {e : Edge} → Fit numeral numbered i e → Fit numeral d i e
  fit_anywhere d (fit_mark {c = c} m a) = fit_mark m (looser d c a)
  fit_anywhere d (fit_text u) = fit_text u
  fit_anywhere d fit_blank = fit_blank
  fit_anywhere d fit_line_end = fit_line_end
  fit_anywhere d (fit_comment p) = fit_comment p

  pub anywhere : (d : Edge) {is : List Item} {e : Edge} → Runs numeral numbered is e → Runs numeral d is e
  anywhere d done = eased
  anywhere d eased = eased
  anywhere d (f then r) = fit_anywhere d f then r

  -- a stricter edge at the end
  pub strict : {d e : Edge} {is : List Item} → Runs numeral d is e → Runs numeral d is numbered
  strict done = eased
  strict eased = eased
  strict (f then r) = f then strict r

  pub runs_both : {d e f : Edge} {xs ys : List Item} → Runs numeral d xs e → Runs numeral e ys f → Runs numeral d (xs ++ ys) f
  runs_both done s = s
  runs_both {d = d} eased s = anywhere d s
  runs_both (h then r) s = h then runs_both r s
