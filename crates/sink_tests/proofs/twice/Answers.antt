-- One put after the other.
use Rattle.sink.proofs.Puts.{put_then}
use Rattle.sink_tests.proofs.twice.Goals as goal

pub returns : goal.returns
returns g c = put_then c.in_ok-put_all.ensures c.put_all-2.ensures
