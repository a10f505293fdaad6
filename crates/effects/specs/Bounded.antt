-- A formed heap whose buffers have no more bytes than a dump has room for: their lengths are written as decimals.
use Rattle.std.specs.Prelude.{◌≤◌, length}
use Rattle.std.specs.List.{AllByRecursion}
use Rattle.dump.specs.Heaps.{Kind, boolean_object, number_object, bigint_object, string_object, regexp, date, plain, sparse, dense, map, set, buffer, view, error, Object, Heap}
use Rattle.formed.specs.Formed.{Formed}

abbrev pub KindShort : Kind → Type 0
KindShort (boolean_object b) = Unit {0}
KindShort (number_object bits) = Unit {0}
KindShort (bigint_object t) = Unit {0}
KindShort (string_object t) = Unit {0}
KindShort (regexp t flags) = Unit {0}
KindShort (date time) = Unit {0}
KindShort plain = Unit {0}
KindShort (sparse n) = Unit {0}
KindShort (dense n) = Unit {0}
KindShort map = Unit {0}
KindShort set = Unit {0}
KindShort (buffer bytes maximum) = length bytes ≤ 1048576
KindShort (view k offset n tracking) = Unit {0}
KindShort (error n message stack) = Unit {0}

abbrev pub ObjectShort : Object → Type 0
ObjectShort o = KindShort o.kind

pub record Bounded (h : Heap) : Type 0 where
  pub formed : Formed h
  pub short : AllByRecursion ObjectShort h.objects
