use Rattle.std.proofs.Common.{ℕ, ◌<◌, Ok}
use Rattle.rules.proofs.each.each.Given as goal

-- every row so far passed
abbrev pub invariant-loop-i : goal.invariant-loop-i
invariant-loop-i g l = (k : ℕ) → k < l.i → g.F.Fn.post l.judge (k, tt) (Ok tt)
