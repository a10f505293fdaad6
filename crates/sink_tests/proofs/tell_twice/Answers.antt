-- The tally is a new one, over the sink that the function is lent.
use Rattle.std.proofs.Common.{sym, rules}
use Rattle.sink.proofs.Tallies.{tally_name, tally_told, tally_stops}
use Rattle.sink_tests.proofs.tell_twice.Goals as goal

pub returns-in_err-twice : goal.returns-in_err-twice
returns-in_err-twice g c =
    let p = c.in_err-twice.ensures in
    let n = sym (tally_name g.K.Sink.means p) in
    tally_stops g.K.Sink.means _ c.from_residual.ensures p (search rules) (search rules)

pub returns : goal.returns
returns g c =
    let p = c.in_ok-twice.ensures in
    let n = sym (tally_name g.K.Sink.means p) in
    tally_told g.K.Sink.means p c.new-tally.ensures.count c.count.ensures (search rules) (search rules)
