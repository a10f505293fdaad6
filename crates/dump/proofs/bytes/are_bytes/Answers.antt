use Rattle.std.proofs.Common.{arith}
use Rattle.dump.proofs.Runs.{are_bytes_lem}
use Rattle.dump.proofs.bytes.are_bytes.Goals as goal

pub returns : goal.returns
returns c = are_bytes_lem c.args.dump.now (λ k l. c.loop-byte.invariant k (omega arith))
