-- A number sent: its numeral went out, or as much of it as fitted; or it has none, and nothing changed.
use Rattle.std.specs.Prelude.{◌≡◌, ℕ, List, Some, None, Ok, Err, Option, Result}
use Rattle.sink.specs.Meanings.{Meaning}
use Rattle.sink.specs.Puts.{Put}
use Rattle.speller.specs.declared.fault.SpellFault.TheVariants.{Short, Unspelled}
use Rattle.numbers.specs.declared.fault.NumberFault.{NumberFault}
use Rattle.numbers.specs.declared.fault.NumberFault.TheVariants.{Sinking, Spelling}

abbrev pub Sent : {K : Type 0} → Meaning K → K → Option (List ℕ) → Result (Unit {0}) NumberFault → K → Type 0
Sent m k (Some t) (Ok u) k' = Put m k t (Ok tt) k'
Sent m k (Some t) (Err (Sinking f)) k' = Put m k t (Err f) k'
Sent m k (Some t) (Err (Spelling f)) k' = ⊥
Sent m k None (Ok u) k' = ⊥
Sent m k None (Err (Sinking f)) k' = ⊥
Sent m k None (Err (Spelling Short)) k' = ⊥
Sent m k None (Err (Spelling Unspelled)) k' = k' ≡ k
