-- The refusals of a sink.
use Rattle.std.specs.Prelude.{ℕ, List, []}
use Rattle.sink.specs.declared.fault.SinkFault.{SinkFault}
use Rattle.sink.specs.declared.fault.SinkFault.TheVariants.{Full}

-- A refusal is told by a number, and the values that belong to it.
pub record Refusal : Type 0 where
  pub number : ℕ
  pub values : List ℕ

-- no space for the next byte
abbrev pub full : Refusal
full = record { number = 22; values = [] }

-- every refusal of a sink
abbrev pub refusal : SinkFault → Refusal
refusal Full = full
