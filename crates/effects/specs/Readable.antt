-- What a statement must keep to for its text to be read back: numbers in range, numerals for its doubles, texts of units, bytes in whole elements, no hole in a Set.
use Rattle.std.specs.Prelude.{◌≡◌, ℕ, ◌%◌, ◌<◌, ◌≤◌, true, List, length, Some, None, Option}
use Rattle.std.specs.List.{AllByRecursion}
use Rattle.dump.specs.declared.kinds.ViewKind.{ViewKind}
use Rattle.dump.specs.Heaps as heaps
use Rattle.dump.specs.Heaps.{Text, Value, Key, index, name}
use Rattle.dump.specs.Kinds.{width}
use Rattle.numeral.specs.Numerals.{finite, is_big_int}
use Rattle.shapes.specs.Rows.{flags_ok}
use Rattle.formed.specs.Formed.{Units, WholeFits, TimeFits, MaybeUnits}
use Rattle.script.specs.Syntax as syntax
use Rattle.script.specs.Syntax.{Form, named, buffer_of_named, circular, new_boolean, new_number, new_bigint, new_string, new_regexp, new_date, new_array, empty_map_form, empty_set_form, buffer_form, new_resizable, data_buffer, new_typed, typed_part, subarray, Group, braces, brackets, map_group, set_group, error_group, view_group, Expr, value, form, group, Items, none, item, keyed, pair, Stmt, opening, const, assign, put, add, fill, last, return}
use Rattle.script.specs.Texts.{Listing, numbers, floats, listing}
use Rattle.evaluator.specs.Makes.{is_typed}
use Rattle.effects.specs.Plans.{braced}

-- in 32 bits
abbrev pub Small : ℕ → Type 0
Small n = n < 4294967296

abbrev pub MaybeSmall : Option ℕ → Type 0
MaybeSmall None = Unit {0}
MaybeSmall (Some n) = Small n

abbrev pub IsNumbers : Listing → Type 0
IsNumbers (numbers minus big) = Unit {0}
IsNumbers floats = ⊥

-- bytes in whole elements of a typed array's kind
pub record Data (k : ViewKind) (bytes : List ℕ) : Type 0 where
  pub typed : is_typed k ≡ true
  pub small : Small (length bytes)
  pub octets : AllByRecursion (λ x. x < 256) bytes
  pub even : length bytes % width k ≡ 0

abbrev pub KeyReadable : Key → Type 0
KeyReadable (index n) = Small n
KeyReadable (name t) = Units t

-- items without a hole among them
abbrev pub NoHole : Items → Type 0
NoHole none = Unit {0}
NoHole (syntax.hole is) = ⊥
NoHole (item e is) = NoHole is
NoHole (keyed k e is) = NoHole is
NoHole (pair e f is) = NoHole is

-- no hole stands in the row of a Set: `new Set([,])` would add undefined
abbrev pub RowFull : Group → Items → Type 0
RowFull braces is = Unit {0}
RowFull brackets is = Unit {0}
RowFull map_group is = Unit {0}
RowFull set_group is = NoHole is
RowFull (error_group n m) is = Unit {0}
RowFull (view_group k o n) is = Unit {0}

module _ (numeral : ℕ → Option (List ℕ)) where
  -- a finite double has a numeral
  abbrev pub Spelled : ℕ → Type 0
  Spelled bits = finite bits ≡ true → (t : List ℕ) × (numeral bits ≡ Some t)

  abbrev pub ValueReadable : Value → Type 0
  ValueReadable heaps.undefined = Unit {0}
  ValueReadable heaps.null = Unit {0}
  ValueReadable heaps.hole = ⊥
  ValueReadable (heaps.boolean b) = Unit {0}
  ValueReadable (heaps.whole z) = WholeFits z
  ValueReadable (heaps.double bits) = Spelled bits
  ValueReadable (heaps.bigint t) = is_big_int t ≡ true
  ValueReadable (heaps.text t) = Units t
  ValueReadable (heaps.object o) = ⊥

  abbrev pub FormReadable : Form → Type 0
  FormReadable (named n) = Small n
  FormReadable (buffer_of_named n) = Small n
  FormReadable circular = Unit {0}
  FormReadable (new_boolean b) = Unit {0}
  FormReadable (new_number bits) = Spelled bits
  FormReadable (new_bigint t) = is_big_int t ≡ true
  FormReadable (new_string t) = Units t
  FormReadable (new_regexp t flags) = Units t × (flags_ok flags ≡ true)
  FormReadable (new_date time) = TimeFits time
  FormReadable (new_array n) = Small n
  FormReadable empty_map_form = Unit {0}
  FormReadable empty_set_form = Unit {0}
  FormReadable (buffer_form n) = Small n
  FormReadable (new_resizable n m) = (n ≤ m) × Small m
  FormReadable (data_buffer k bytes) = Data k bytes
  FormReadable (new_typed k bytes) = Data k bytes
  FormReadable (typed_part k bytes a b) = Data k bytes × Small a × Small b
  -- an end is written only behind a start
  FormReadable (subarray n None None) = Small n
  FormReadable (subarray n None (Some b)) = ⊥
  FormReadable (subarray n (Some a) b) = Small n × Small a × MaybeSmall b

  -- an offset is written before every length
  abbrev pub GroupReadable : Group → Type 0
  GroupReadable braces = Unit {0}
  GroupReadable brackets = Unit {0}
  GroupReadable map_group = Unit {0}
  GroupReadable set_group = Unit {0}
  GroupReadable (error_group n m) = MaybeUnits m
  GroupReadable (view_group k None None) = Unit {0}
  GroupReadable (view_group k None (Some n)) = ⊥
  GroupReadable (view_group k (Some o) n) = Small o × MaybeSmall n

  abbrev mutual
    pub ExprReadable : Expr → Type 0
    ExprReadable (value v) = ValueReadable v
    ExprReadable (form f) = FormReadable f
    ExprReadable (group g is) = GroupReadable g × ItemsReadable is × RowFull g is

    pub ItemsReadable : Items → Type 0
    ItemsReadable none = Unit {0}
    ItemsReadable (syntax.hole is) = ItemsReadable is
    ItemsReadable (item e is) = ExprReadable e × ItemsReadable is
    ItemsReadable (keyed k e is) = KeyReadable k × ExprReadable e × ItemsReadable is
    ItemsReadable (pair e f is) = ExprReadable e × ExprReadable f × ItemsReadable is

  abbrev pub StmtReadable : Stmt → Type 0
  StmtReadable opening = Unit {0}
  StmtReadable (const n e) = Small n × ExprReadable e
  StmtReadable (assign n k e) = Small n × KeyReadable k × ExprReadable e
  StmtReadable (put n e f) = Small n × ExprReadable e × ExprReadable f
  StmtReadable (add n e) = Small n × ExprReadable e
  StmtReadable (fill n k bytes) = Small n × Data k bytes × IsNumbers (listing k)
  -- braces that begin a line would be a block
  StmtReadable (last b e) = ExprReadable e × (braced e ≡ true → b ≡ true)
  StmtReadable (return e) = ExprReadable e
