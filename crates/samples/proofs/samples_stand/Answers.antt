use Rattle.std.proofs.Common.{refl}
use lib.Ieee as Ieee
use lib.Utf8.{encode}
use Rattle.std.specs.Fmt.{digits}
use Rattle.dump.specs.Bytes.{word, unit}
use Rattle.dump.specs.Layouts.{section_at}
use Rattle.dump.specs.Places.{row_at, cell_at}
use Rattle.samples.proofs.Deep.{passes, refused}
use Rattle.samples.proofs.Rebuilt.{rebuilt}
use Rattle.samples.proofs.samples_stand.Goals as goal

pub returns : goal.returns
unfolding word unit section_at row_at cell_at Ieee.eq Ieee.of_int Ieee.is_nan Ieee.round Ieee.units Ieee.odd Ieee.size Ieee.climb Ieee.span encode digits
returns c = record {
  heaps = (refl, (refl, (refl, (refl, (refl, (refl, (refl, (refl, tt))))))));
  scripts = (refl, (refl, (refl, (refl, (refl, (refl, (refl, (refl, tt))))))));
  deep = (passes, refused);
  rebuilt = rebuilt;
}
