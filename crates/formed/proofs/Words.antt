-- Bounds of words, units and bytes.
use Rattle.std.proofs.Common.{◌≡◌, ℕ, zero, suc, ◌+◌, ◌<◌, true, List, arith}
use lib.Pow.{are_bytes}
use Rattle.std.specs.List.{AllByRecursion as All}
use Rattle.dump.specs.declared.layout.Layout.{Layout}
use Rattle.dump.specs.Bytes.{word, unit, units_at, bytes_at}
use Rattle.dump.specs.Places.{row_at, cell_at}
use Rattle.dump.proofs.Runs.{byte_below}
use Rattle.formed.specs.Formed.{Units}

module _ (b : List ℕ) (bytes : are_bytes b ≡ true) where
  pub word_below : (p : ℕ) → word b p < 4294967296
  unfolding word
  word_below p =
      let x = byte_below b p bytes in
      let y = byte_below b (p + 1) bytes in
      let z = byte_below b (p + 2) bytes in
      let w = byte_below b (p + 3) bytes in
      omega arith

  pub unit_below : (p : ℕ) → unit b p < 65536
  unfolding unit
  unit_below p = let x = byte_below b p bytes in let y = byte_below b (p + 1) bytes in omega arith

  pub units_below : (p n : ℕ) → Units (units_at b p n)
  units_below p zero = tt
  units_below p (suc n) = (unit_below p, units_below (p + 2) n)

  pub bytes_below_lem : (p n : ℕ) → All (λ x. x < 256) (bytes_at b p n)
  bytes_below_lem p zero = tt
  bytes_below_lem p (suc n) = (byte_below b p bytes, bytes_below_lem (p + 1) n)

  pub low_below : (p : ℕ) → (cell_at b p).low < 4294967296
  unfolding cell_at
  low_below p = word_below (p + 4)

  pub high_below : (p : ℕ) → (cell_at b p).high < 4294967296
  unfolding cell_at
  high_below p = word_below (p + 8)

  pub a_below : (l : Layout) (i : ℕ) → (row_at b l i).a < 4294967296
  unfolding row_at
  a_below l i = word_below _

  pub b_below : (l : Layout) (i : ℕ) → (row_at b l i).b < 4294967296
  unfolding row_at
  b_below l i = word_below _

  pub c_below : (l : Layout) (i : ℕ) → (row_at b l i).c < 4294967296
  unfolding row_at
  c_below l i = word_below _

  pub d_below : (l : Layout) (i : ℕ) → (row_at b l i).d < 4294967296
  unfolding row_at
  d_below l i = word_below _
