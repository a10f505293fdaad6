-- Copying a numeral to the front of a buffer.
use Rattle.std.proofs.Common.{◌≡◌, ℕ, ◌<◌, ◌≤◌, true, List, length, get_or, take, sym, ap, ◌∙◌, subst, arith}
use Rattle.std.proofs.lemmas.List.{ext_get_or, length-take-le}
use Rattle.std.proofs.ByRecursion.{All-get_or}
use Rattle.dump.specs.Heaps.{Numeral, empty_numeral}
use Rattle.numeral.specs.Numerals.{is_numeral, is_pair}
use Rattle.numeral.proofs.Laws.{pair_numeral, pair_short, numeral_units, ascii_units}
use Rattle.heap_check.specs.declared.checked.Checked.{Checked}
use Rattle.heap_check.specs.Heaps.{model}
use Rattle.heap_check.proofs.Kept.{formed}

-- row i of a checked dump
module _ (h : Checked) (i : ℕ) (there : i < length (model h).numerals) where
  abbrev row : Numeral
  row = get_or (model h).numerals i empty_numeral

  pair : is_pair row.bits row.digits ≡ true
  pair = All-get_or (λ (n : Numeral). is_pair n.bits n.digits ≡ true) (model h).numerals i empty_numeral there (formed h).numerals.0

  -- the text of its digits
  module _ (t : List ℕ) (is : t ≡ row.digits) where
    pub text_short : length t ≤ 400
    text_short = subst (λ n. n ≤ 400) (sym (ap length is)) (pair_short _ _ pair)

    pub text_ascii : (k : ℕ) → k < length t → get_or t k 0 < 128
    text_ascii k under =
        let numeral : is_numeral t ≡ true = ap is_numeral is ∙ pair_numeral row.bits row.digits pair in
        All-get_or (λ c. c < 128) t k 0 under (ascii_units t (numeral_units t numeral))

    -- the front of a buffer that the digits fill, and that they are there
    module _ (buffer : List ℕ) (n : ℕ) (long : n ≡ length t) (room : 400 ≤ length buffer) where
      pub front_long : length (take n buffer) ≡ length t
      front_long = length-take-le n buffer (omega (arith, text_short)) ∙ long

      pub front_filled : (front : List ℕ) (k : ℕ) → length front ≡ length (take n buffer) → k ≡ length (take n buffer) → ((j : ℕ) → j < k → get_or front j 0 ≡ get_or t j 0) → front ≡ row.digits
      front_filled front k same end written =
          ext_get_or 0 front t (same ∙ front_long) (λ j h. written j (omega arith)) ∙ is
