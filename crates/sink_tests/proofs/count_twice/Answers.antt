-- The counter started at 0.
use Rattle.std.proofs.Common.{arith}
use Rattle.sink.proofs.Ends.{counter_counts}
use Rattle.sink.proofs.Puts.{put_fits}
use Rattle.sink_tests.proofs.count_twice.Goals as goal

pub returns : goal.returns
returns c =
    let p = c.in_ok-twice.ensures in
    let n = counter_counts p in
    let f = put_fits p in
    (omega arith, omega arith)
