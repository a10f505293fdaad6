use Rattle.std.proofs.Common.{rules}
use Rattle.dump.specs.Bytes.{word}
use Rattle.dump.proofs.bytes.word.Goals as goal

pub returns : goal.returns
unfolding word
returns c = search rules
