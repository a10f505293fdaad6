use Rattle.std.proofs.Common.{rules}
use Rattle.dump.specs.Places.{row_at}
use Rattle.dump.proofs.raw.Raw.row.Goals as goal

pub returns : goal.returns
unfolding row_at
returns c = search rules
