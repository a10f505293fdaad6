-- What a value and a part must keep to for the expressions that are planned of them to be readable.
use Rattle.std.specs.Prelude.{◌≡◌, ℕ, true, false, List, Option}
use Rattle.dump.specs.Heaps.{Value, undefined, null, hole, boolean, whole, double, bigint, text, object, Part, property, element, entry, member, below, cause}
use Rattle.numeral.specs.Numerals.{is_big_int}
use Rattle.formed.specs.Formed.{Units, WholeFits}
use Rattle.planner.specs.Lines.{value_unspelled}
use Rattle.effects.specs.Readable.{KeyReadable, Spelled}

module _ (numeral : ℕ → Option (List ℕ)) where
  -- a readable value, or an object
  abbrev pub Writable : Value → Type 0
  Writable undefined = Unit {0}
  Writable null = Unit {0}
  Writable hole = ⊥
  Writable (boolean b) = Unit {0}
  Writable (whole z) = WholeFits z
  Writable (double bits) = Spelled numeral bits
  Writable (bigint t) = is_big_int t ≡ true
  Writable (text t) = Units t
  Writable (object o) = Unit {0}

  -- an element may be a hole
  abbrev pub ElementWritable : Value → Type 0
  ElementWritable undefined = Unit {0}
  ElementWritable null = Unit {0}
  ElementWritable hole = Unit {0}
  ElementWritable (boolean b) = Unit {0}
  ElementWritable (whole z) = WholeFits z
  ElementWritable (double bits) = Spelled numeral bits
  ElementWritable (bigint t) = is_big_int t ≡ true
  ElementWritable (text t) = Units t
  ElementWritable (object o) = Unit {0}

  abbrev pub PartWritable : Part → Type 0
  PartWritable (property k v) = KeyReadable k × Writable v
  PartWritable (element v) = ElementWritable v
  PartWritable (entry k v) = Writable k × Writable v
  PartWritable (member v) = Writable v
  PartWritable (below o) = Unit {0}
  PartWritable (cause v) = Writable v

  -- no finite double of a part is without a numeral
  abbrev pub PartSpelled : Part → Type 0
  PartSpelled (property k v) = value_unspelled numeral v ≡ false
  PartSpelled (element v) = value_unspelled numeral v ≡ false
  PartSpelled (entry k v) = (value_unspelled numeral k ≡ false) × (value_unspelled numeral v ≡ false)
  PartSpelled (member v) = value_unspelled numeral v ≡ false
  PartSpelled (below o) = Unit {0}
  PartSpelled (cause v) = value_unspelled numeral v ≡ false
