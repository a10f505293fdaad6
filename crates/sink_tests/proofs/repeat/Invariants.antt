-- What is still to be put: the bytes as many times as turns are left.
use Rattle.std.proofs.Common.{◌-◌}
use Rattle.sink.proofs.Owes.{Owes}
use Rattle.sink_tests.specs.Repeated.{repeated}
use Rattle.sink_tests.proofs.repeat.Given as goal

abbrev pub invariant-loop : goal.invariant-loop
invariant-loop g l = Owes g.K.Sink.means l.initial.sink (repeated l.times l.bytes) l.sink (repeated (l.times - l.counter) l.bytes)
