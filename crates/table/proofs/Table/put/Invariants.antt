use Rattle.std.proofs.Common.{◌≡◌, ℕ, ◌<◌, get_or}
use Rattle.dump.specs.Texts.{text_units}
use Rattle.table.proofs.Table.put.Given as goal

-- the digits before `k` are written
abbrev pub invariant-loop-k : goal.invariant-loop-k
invariant-loop-k l = (j : ℕ) → j < l.k → get_or l.byte-items j 0 ≡ get_or (text_units l.text) j 0
