use Rattle.std.proofs.Common.{sym, arith, rules}
use Rattle.dump.proofs.Rules.{any_none, any_found}
use Rattle.rules.proofs.part.Part.same_before.Goals as goal

pub returns-then-is : goal.returns-then-is
returns-then-is c = rw (← c.new-sought.ensures) (sym (any_found _ c.loop-j.j c.args.self.now.k c.loop-j.invariant (search rules) (omega arith)))

pub loop-j-preserved : goal.loop-j-preserved
loop-j-preserved c = any_none _ c.loop-j.j c.loop-j.invariant (search rules)
