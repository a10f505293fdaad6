-- What a typed row means, that what it lends lies in the dump, and that the objects that it names are there.
use Rattle.std.specs.Prelude.{◌≡◌, ℕ, ◌+◌, ◌*◌, ◌<◌, ◌≤◌, true, false, List, length, Some, None, Option}
use Rattle.dump.specs.declared.row.Run.{Run}
use Rattle.dump.specs.declared.text.Text.{Text as Units}
use Rattle.dump.specs.Bytes.{bytes_at}
use Rattle.dump.specs.Heaps as meant
use Rattle.dump.specs.Places.{units_of}
use Rattle.dump.specs.Texts.{text_units}
use Rattle.reads.specs.declared.value.Value.{Value}
use Rattle.reads.specs.declared.value.Value.TheVariants.{Undefined, Null, Hole, Boolean, Whole, Double, BigInt, Text, Object}
use Rattle.reads.specs.declared.value.Key.{Key}
use Rattle.reads.specs.declared.value.Key.TheVariants.{Index, Name}
use Rattle.reads.specs.declared.object.Kind.{Kind}
use Rattle.reads.specs.declared.object.Kind.TheVariants.{BooleanObject, NumberObject, BigIntObject, StringObject, RegExp, Date, Plain, Sparse, Dense, Map, Set, Buffer, View, Error}
use Rattle.reads.specs.declared.object.Part.{Part}
use Rattle.reads.specs.declared.object.Part.TheVariants.{Property, Element, Entry, Member, Below, Cause}

abbrev pub maybe_in : Option Units → Option meant.Text
maybe_in None = None
maybe_in (Some t) = Some (text_units t)

abbrev pub value_in : Value → meant.Value
value_in Undefined = meant.undefined
value_in Null = meant.null
value_in Hole = meant.hole
value_in (Boolean x) = meant.boolean x
value_in (Whole n) = meant.whole n
value_in (Double n) = meant.double n
value_in (BigInt t) = meant.bigint (text_units t)
value_in (Text t) = meant.text (text_units t)
value_in (Object i) = meant.object i

abbrev pub key_in : Key → meant.Key
key_in (Index n) = meant.index n
key_in (Name t) = meant.name (text_units t)

abbrev pub kind_in : Kind → meant.Kind
kind_in (BooleanObject x) = meant.boolean_object x
kind_in (NumberObject n) = meant.number_object n
kind_in (BigIntObject t) = meant.bigint_object (text_units t)
kind_in (StringObject t) = meant.string_object (text_units t)
kind_in (RegExp pattern flags) = meant.regexp (text_units pattern) flags
kind_in (Date time) = meant.date time
kind_in Plain = meant.plain
kind_in (Sparse n) = meant.sparse n
kind_in (Dense n) = meant.dense n
kind_in Map = meant.map
kind_in Set = meant.set
kind_in (Buffer octets maximum) = meant.buffer octets.now maximum
kind_in (View kind offset (Some n)) = meant.view kind offset n false
kind_in (View kind offset None) = meant.view kind offset 0 true
kind_in (Error name message stack) = meant.error name (maybe_in message) (maybe_in stack)

abbrev pub part_in : Part → meant.Part
part_in (Property k v) = meant.property (key_in k) (value_in v)
part_in (Element v) = meant.element (value_in v)
part_in (Entry k v) = meant.entry (value_in k) (value_in v)
part_in (Member v) = meant.member (value_in v)
part_in (Below i) = meant.below i
part_in (Cause v) = meant.cause (value_in v)

-- what is lent lies in the dump of the bytes b
module _ (b : List ℕ) where
  abbrev pub RunFits : Run → Type 0
  RunFits r = r.start + r.count * 2 ≤ length b

  -- a text has the units of a run of the dump
  abbrev pub TextFits : Units → Type 0
  TextFits t = (r : Run) × RunFits r × (text_units t ≡ units_of b r)

  -- bytes are those of the dump from some place on
  abbrev pub OctetsFit : List ℕ → Type 0
  OctetsFit o = (start : ℕ) × (start + length o ≤ length b) × (bytes_at b start (length o) ≡ o)

  abbrev pub MaybeFits : Option Units → Type 0
  MaybeFits None = Unit {0}
  MaybeFits (Some t) = TextFits t

  abbrev pub ValueFits : Value → Type 0
  ValueFits Undefined = Unit {0}
  ValueFits Null = Unit {0}
  ValueFits Hole = Unit {0}
  ValueFits (Boolean x) = Unit {0}
  ValueFits (Whole n) = Unit {0}
  ValueFits (Double n) = Unit {0}
  ValueFits (BigInt t) = TextFits t
  ValueFits (Text t) = TextFits t
  ValueFits (Object i) = Unit {0}

  abbrev pub KeyFits : Key → Type 0
  KeyFits (Index n) = Unit {0}
  KeyFits (Name t) = TextFits t

  abbrev pub KindFits : Kind → Type 0
  KindFits (BooleanObject x) = Unit {0}
  KindFits (NumberObject n) = Unit {0}
  KindFits (BigIntObject t) = TextFits t
  KindFits (StringObject t) = TextFits t
  KindFits (RegExp pattern flags) = TextFits pattern
  KindFits (Date time) = Unit {0}
  KindFits Plain = Unit {0}
  KindFits (Sparse n) = Unit {0}
  KindFits (Dense n) = Unit {0}
  KindFits Map = Unit {0}
  KindFits Set = Unit {0}
  KindFits (Buffer octets maximum) = OctetsFit octets.now
  KindFits (View kind offset n) = Unit {0}
  KindFits (Error name message stack) = MaybeFits message × MaybeFits stack

  abbrev pub PartFits : Part → Type 0
  PartFits (Property k v) = KeyFits k × ValueFits v
  PartFits (Element v) = ValueFits v
  PartFits (Entry k v) = ValueFits k × ValueFits v
  PartFits (Member v) = ValueFits v
  PartFits (Below i) = Unit {0}
  PartFits (Cause v) = ValueFits v

-- an object that a value or a part names is one of n
module _ (n : ℕ) where
  abbrev pub ValueThere : Value → Type 0
  ValueThere Undefined = Unit {0}
  ValueThere Null = Unit {0}
  ValueThere Hole = Unit {0}
  ValueThere (Boolean x) = Unit {0}
  ValueThere (Whole x) = Unit {0}
  ValueThere (Double x) = Unit {0}
  ValueThere (BigInt r) = Unit {0}
  ValueThere (Text r) = Unit {0}
  ValueThere (Object i) = i < n

  abbrev pub PartThere : Part → Type 0
  PartThere (Property k v) = ValueThere v
  PartThere (Element v) = ValueThere v
  PartThere (Entry k v) = ValueThere k × ValueThere v
  PartThere (Member v) = ValueThere v
  PartThere (Below i) = i < n
  PartThere (Cause v) = ValueThere v
