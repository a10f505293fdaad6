use Rattle.std.proofs.Common.{rules}
use Rattle.dump.specs.Places.{cell_at}
use Rattle.dump.proofs.raw.Raw.cell.Goals as goal

pub returns : goal.returns
unfolding cell_at
returns c = search rules
