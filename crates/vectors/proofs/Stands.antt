-- Each table by computing.
use Rattle.std.proofs.Common.{refl}
use lib.Ieee as Ieee
use lib.Utf8.{encode}
use Rattle.std.specs.Fmt.{digits}
use Rattle.std.specs.List.{AllByRecursion as All}
use Rattle.dump.specs.Bytes.{word, unit}
use Rattle.dump.specs.Layouts.{section_at}
use Rattle.dump.specs.Places.{row_at, cell_at}
use Rattle.vectors.specs.Cases.{Holds}
use Rattle.vectors.specs.Tables.{one, two, three, four, five, six, seven, eight}

pub stand_one : All Holds one
unfolding word unit section_at row_at cell_at Ieee.eq Ieee.of_int Ieee.of_bits Ieee.of_fields Ieee.to_bits Ieee.is_nan Ieee.round Ieee.units Ieee.odd Ieee.size Ieee.climb Ieee.span encode digits
stand_one = (refl, (refl, (refl, (refl, (refl, (refl, (refl, (refl, (refl, (refl, tt))))))))))

pub stand_two : All Holds two
unfolding word unit section_at row_at cell_at Ieee.eq Ieee.of_int Ieee.of_bits Ieee.of_fields Ieee.to_bits Ieee.is_nan Ieee.round Ieee.units Ieee.odd Ieee.size Ieee.climb Ieee.span encode digits
stand_two = (refl, (refl, (refl, (refl, (refl, (refl, (refl, (refl, (refl, (refl, tt))))))))))

pub stand_three : All Holds three
unfolding word unit section_at row_at cell_at Ieee.eq Ieee.of_int Ieee.of_bits Ieee.of_fields Ieee.to_bits Ieee.is_nan Ieee.round Ieee.units Ieee.odd Ieee.size Ieee.climb Ieee.span encode digits
stand_three = (refl, (refl, (refl, (refl, (refl, (refl, (refl, (refl, (refl, (refl, tt))))))))))

pub stand_four : All Holds four
unfolding word unit section_at row_at cell_at Ieee.eq Ieee.of_int Ieee.of_bits Ieee.of_fields Ieee.to_bits Ieee.is_nan Ieee.round Ieee.units Ieee.odd Ieee.size Ieee.climb Ieee.span encode digits
stand_four = (refl, (refl, (refl, (refl, (refl, (refl, (refl, (refl, (refl, (refl, tt))))))))))

pub stand_five : All Holds five
unfolding word unit section_at row_at cell_at Ieee.eq Ieee.of_int Ieee.of_bits Ieee.of_fields Ieee.to_bits Ieee.is_nan Ieee.round Ieee.units Ieee.odd Ieee.size Ieee.climb Ieee.span encode digits
stand_five = (refl, (refl, (refl, (refl, (refl, (refl, (refl, (refl, (refl, (refl, tt))))))))))

pub stand_six : All Holds six
unfolding word unit section_at row_at cell_at Ieee.eq Ieee.of_int Ieee.of_bits Ieee.of_fields Ieee.to_bits Ieee.is_nan Ieee.round Ieee.units Ieee.odd Ieee.size Ieee.climb Ieee.span encode digits
stand_six = (refl, (refl, (refl, (refl, (refl, (refl, (refl, (refl, (refl, (refl, tt))))))))))

pub stand_seven : All Holds seven
unfolding word unit section_at row_at cell_at Ieee.eq Ieee.of_int Ieee.of_bits Ieee.of_fields Ieee.to_bits Ieee.is_nan Ieee.round Ieee.units Ieee.odd Ieee.size Ieee.climb Ieee.span encode digits
stand_seven = (refl, (refl, (refl, (refl, (refl, (refl, (refl, (refl, (refl, (refl, tt))))))))))

pub stand_eight : All Holds eight
unfolding word unit section_at row_at cell_at Ieee.eq Ieee.of_int Ieee.of_bits Ieee.of_fields Ieee.to_bits Ieee.is_nan Ieee.round Ieee.units Ieee.odd Ieee.size Ieee.climb Ieee.span encode digits
stand_eight = (refl, (refl, (refl, (refl, (refl, (refl, (refl, (refl, (refl, (refl, tt))))))))))
