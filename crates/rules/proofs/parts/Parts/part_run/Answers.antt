use Rattle.std.proofs.Common.{rules, tests}
use Rattle.rules.proofs.Judging.{each_judged}
use Rattle.rules.proofs.parts.Parts.part_run.Goals as goal

pub returns : goal.returns
returns c = each_judged _ _ c.each.result c.each.ensures (λ i v p. search (rules, tests))
