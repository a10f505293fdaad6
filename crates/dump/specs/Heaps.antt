-- The heap that a dump means: objects by number, each a kind with plain content and a list of parts; numerals; a root.
use Rattle.std.specs.Prelude.{ℕ, Bool, List, [], ℤ, Option}
use Rattle.dump.specs.declared.kinds.ViewKind.{ViewKind}
use Rattle.dump.specs.declared.kinds.ErrorName.{ErrorName}

-- UTF-16 units
abbrev pub Text : Type 0
Text = List ℕ

-- A whole number has 32 bits, signed or not; a double is its 64 bits; a bigint is its decimal text; an object is its number.
-- A hole is a missing element.
pub data Value : Type 0 where
  undefined null hole : Value
  boolean : Bool → Value
  whole : ℤ → Value
  double : ℕ → Value
  bigint text : Text → Value
  object : ℕ → Value

pub data Key : Type 0 where
  index : ℕ → Key
  name : Text → Key

-- What an object has besides its parts.
pub data Kind : Type 0 where
  boolean_object : Bool → Kind
  number_object : ℕ → Kind
  bigint_object string_object : Text → Kind
  -- pattern, and the flags as bits
  regexp : Text → ℕ → Kind
  -- milliseconds, none if invalid
  date : Option ℤ → Kind
  plain : Kind
  -- length
  sparse : ℕ → Kind
  -- how many elements come before the properties
  dense : ℕ → Kind
  map set : Kind
  -- bytes, and the maximum of a resizable one
  buffer : List ℕ → Option ℕ → Kind
  -- kind, offset, length (0 if tracking), tracking
  view : ViewKind → ℕ → ℕ → Bool → Kind
  -- name, message, stack
  error : ErrorName → Option Text → Option Text → Kind

pub data Part : Type 0 where
  property : Key → Value → Part
  element : Value → Part
  entry : Value → Value → Part
  member : Value → Part
  -- the buffer below a view
  below : ℕ → Part
  cause : Value → Part

pub record Object : Type 0 where
  pub kind : Kind
  pub parts : List Part

pub record Numeral : Type 0 where
  pub bits : ℕ
  pub digits : Text

pub record Heap : Type 0 where
  pub objects : List Object
  pub numerals : List Numeral
  pub root : Value

-- What stands for a row past the last.
abbrev pub nobody : Object
nobody = record { kind = plain; parts = [] }

abbrev pub no_part : Part
no_part = below 0

abbrev pub empty_numeral : Numeral
empty_numeral = record { bits = 0; digits = [] }
