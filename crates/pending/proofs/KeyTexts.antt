-- Keys by their texts: keys that are apart have other texts, and an index is read back.
use Rattle.std.proofs.Common.{◌≡◌, ℕ, ◌<◌, ◌≤◌, Bool, true, false, cond, ◌&&◌, leb, List, is_some, Some, None, decimal, sym, ap, ◌∙◌, ⊎_elim, arith}
use Rattle.std.proofs.lemmas.Fmt.{decimal_injective}
use Rattle.std.proofs.lemmas.Bool.{cases_Bool, le-leb, false≢true}
use Rattle.dump.specs.Heaps.{Text, Key, index, name}
use Rattle.numeral.specs.Digits.{are_digits, value_from, whole_digits, whole_within, index_of}
use Rattle.numeral.specs.Words.{same_units}
use Rattle.numeral.proofs.Laws.{same_units_lem}
use Rattle.formed.specs.Formed.{KeyFormed, KeyBefore}
use Rattle.speller.proofs.Decimals.{body_is, whole_is}
use Rattle.evaluator.specs.Isomorphic.{key_text}

-- texts with other units
pub units_apart : (xs ys : List ℕ) → (xs ≡ ys → ⊥) → same_units xs ys ≡ false
units_apart xs ys n = ⊎_elim (λ (e : same_units xs ys ≡ true). absurd (n ((same_units_lem xs ys).0 e))) (λ (e : same_units xs ys ≡ false). e) (cases_Bool (same_units xs ys))

pub units_same : (xs ys : List ℕ) → xs ≡ ys → same_units xs ys ≡ true
units_same xs ys e = (same_units_lem xs ys).1 e

-- a number up to a lower limit
within_lower : (a b n : ℕ) (t : List ℕ) → n ≤ b → whole_within a t ≡ Some n → whole_within b t ≡ Some n
within_lower a b n t l e = go (whole_digits t) (are_digits t) (leb (value_from 0 t) a) (value_from 0 t) e
  where
    go : (x y z : Bool) (v : ℕ) → cond x (cond (y && z) (Some v) None) None ≡ Some n → cond x (cond (y && leb v b) (Some v) None) None ≡ Some n
    go true true true v e = let d : v ≡ n = cc in ap (λ t. cond t (Some v) None) (le-leb v b (omega arith)) ∙ e
    go true true false v e = absurd (let z : ◌≡◌ {A = ℕ} 0 1 = cc in omega arith)
    go true false z v e = absurd (let z : ◌≡◌ {A = ℕ} 0 1 = cc in omega arith)
    go false y z v e = absurd (let z : ◌≡◌ {A = ℕ} 0 1 = cc in omega arith)

pub index_decimal : (i : ℕ) → i < 4294967295 → index_of (decimal i) ≡ Some i
index_decimal i l =
    within_lower 9007199254740991 4294967294 i (decimal i) (omega arith)
    (sym (ap (whole_within 9007199254740991) (body_is i (omega arith) false)) ∙ whole_is i (omega arith) false)

-- a name that is no index is not the text of one
pub name_index : (t : Text) (i : ℕ) → is_some (index_of t) ≡ false → i < 4294967295 → t ≡ decimal i → ⊥
name_index t i n l e = false≢true (sym n ∙ ap (λ x. is_some (index_of x)) e ∙ ap is_some (index_decimal i l))

pub decimals_apart : (i j : ℕ) → i < 4294967296 → j < 4294967296 → (i ≡ j → ⊥) → decimal i ≡ decimal j → ⊥
decimals_apart i j a b n e = n (decimal_injective i j (omega arith) (omega arith) e)

pub texts_apart : (limit : ℕ) (array : Bool) (k k' : Key) → limit ≤ 4294967295 → KeyFormed limit array k → KeyFormed limit array k' → KeyBefore k k' → key_text k ≡ key_text k' → ⊥
texts_apart limit array (index i) (index j) l f g b e = decimals_apart i j (omega arith) (omega arith) (λ d. omega arith) e
texts_apart limit array (index i) (name t) l f g b e = name_index t i g.1 (omega arith) (sym e)
texts_apart limit array (name t) (index j) l f g b e = b
texts_apart limit array (name t) (name u) l f g b e = b e
