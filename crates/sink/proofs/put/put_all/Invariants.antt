-- The bytes before the next one were put.
use Rattle.std.proofs.Common.{take, Ok}
use Rattle.sink.specs.Puts.{Put}
use Rattle.sink.proofs.put.put_all.Given as goal

abbrev pub invariant-loop-byte : goal.invariant-loop-byte
invariant-loop-byte g l = Put g.K.Sink.means l.initial.sink (take l.byte-index l.bytes) (Ok tt) l.sink
