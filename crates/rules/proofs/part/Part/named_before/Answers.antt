use Rattle.std.proofs.Common.{◌∙◌, arith, rules, tests}
use Rattle.std.proofs.lemmas.Iterator.{YieldsList-from_range}
use Rattle.std.proofs.lemmas.Iterator.Search.{any_from_yields_List}
use Rattle.dump.proofs.Rules.{any_in_range}
use Rattle.rules.proofs.part.Part.named_before.Goals as goal

pub returns : goal.returns
returns c =
    any_from_yields_List _ _ _ _ c.any.ensures.ran (YieldsList-from_range 0 c.args.self.now.k c.args.self.now.k (cc) (omega arith)) (λ x b q k. search (rules, tests))
    ∙ any_in_range _ c.args.self.now.k
