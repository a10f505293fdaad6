use Rattle.vectors.proofs.Rebuilds.{rebuilds_one, rebuilds_two, rebuilds_three, rebuilds_four, rebuilds_five, rebuilds_six, rebuilds_seven, rebuilds_eight}
use Rattle.vectors.proofs.Stands.{stand_one, stand_two, stand_three, stand_four, stand_five, stand_six, stand_seven, stand_eight}
use Rattle.vectors.proofs.vectors_stand.Goals as goal

pub returns : goal.returns
returns c = record { written = (stand_one, (stand_two, (stand_three, (stand_four, (stand_five, (stand_six, (stand_seven, (stand_eight, tt)))))))); rebuilt = (rebuilds_one, (rebuilds_two, (rebuilds_three, (rebuilds_four, (rebuilds_five, (rebuilds_six, (rebuilds_seven, (rebuilds_eight, tt)))))))) }
