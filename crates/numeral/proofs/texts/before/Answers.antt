use Rattle.std.proofs.Common.{sym}
use Rattle.dump.specs.Texts.{text_units}
use Rattle.numeral.proofs.Orders.{position_in}
use Rattle.numeral.proofs.texts.before.Goals as goal

pub unit-requires : goal.unit-requires
unit-requires c = (position_in (text_units c.args.x) (text_units c.args.y) c.in-Some.k (sym c.in-Some.ensures)).0

pub unit-requires-in-Some : goal.unit-requires-in-Some
unit-requires-in-Some c = (position_in (text_units c.args.x) (text_units c.args.y) c.in-Some.k (sym c.in-Some.ensures)).1
