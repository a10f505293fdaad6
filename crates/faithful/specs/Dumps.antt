-- The main statement of a dump with its own numerals: nothing is left to suppose.
use Rattle.std.specs.Prelude.{◌≡◌, ℕ, true, List, Ok}
use Rattle.std.proofs.Math.Pow.{are_bytes}
use Rattle.dump.specs.Heaps.{Heap}
use Rattle.rules.specs.Verdicts.{verdict}
use Rattle.table.specs.Tables.{numeral_in}
use Rattle.table.specs.Readings.{reading_in}
use Rattle.planner.specs.Lines.{Format, Plan, planned}
use Rattle.faithful.specs.Accepted.{FaithfulAt}

-- for every dump that check accepts, and every format: spelt by the dump's numerals, and read by them
abbrev pub OwnNumeralsFaithful : Type 0
OwnNumeralsFaithful =
    (b : List ℕ) (h : Heap) (f : Format) (p : Plan) → are_bytes b ≡ true → verdict b ≡ Ok h → planned (numeral_in h.numerals) h f ≡ Ok p → FaithfulAt h (numeral_in h.numerals) (reading_in h.numerals) p
