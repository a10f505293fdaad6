use Rattle.dump.proofs.Refusals.{all_three}
use Rattle.dump.specs.Tellings.{rule_back, site_back}
use Rattle.dump.proofs.refusal.RefusalPartialEq.eq.Goals as goal

pub returns : goal.returns
returns c =
    rw
    (← c.t1-1.view_is, ← c.t2-1.view_is, rule_back c.t1-1.inside.rule, rule_back c.t2-1.inside.rule, site_back c.t1-1.inside.site, site_back c.t2-1.inside.site)
    (all_three c.and_eq-2.result c.and_eq.result c.eq.result _ _ _ c.and_eq-2.ensures c.and_eq.ensures c.eq.ensures)
