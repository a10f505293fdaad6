-- Expressions and statements of a script, as data: one constructor a form.
use Rattle.std.specs.Prelude.{ℕ, Bool, List, ℤ, Option}
use Rattle.dump.specs.declared.kinds.ViewKind.{ViewKind}
use Rattle.dump.specs.declared.kinds.ErrorName.{ErrorName}
use Rattle.dump.specs.Heaps.{Text, Value, Key}

-- What is written with no expression inside. Names are numbers: 3 is v3.
pub data Form : Type 0 where
  -- vN, and vN.buffer
  named buffer_of_named : ℕ → Form
  -- in the place of a value that is not ready
  circular : Form
  new_boolean : Bool → Form
  new_number : ℕ → Form
  new_bigint new_string : Text → Form
  -- pattern, flags
  new_regexp : Text → ℕ → Form
  new_date : Option ℤ → Form
  -- length
  new_array : ℕ → Form
  -- of a Map or Set without entries
  empty_map_form empty_set_form : Form
  -- all zero, of this length
  buffer_form : ℕ → Form
  -- length, maximum
  new_resizable : ℕ → ℕ → Form
  -- a buffer with data, and a typed array over data of its own, in a kind
  data_buffer new_typed : ViewKind → List ℕ → Form
  -- the elements from one index to another of a typed array over data of its own
  typed_part : ViewKind → List ℕ → ℕ → ℕ → Form
  -- vN.subarray, from an index and to an index, where they are written
  subarray : ℕ → Option ℕ → Option ℕ → Form

-- What has expressions inside.
pub data Group : Type 0 where
  braces brackets map_group set_group : Group
  -- name and message; the cause is inside
  error_group : ErrorName → Option Text → Group
  -- kind, offset and length where they are written; the buffer is inside
  view_group : ViewKind → Option ℕ → Option ℕ → Group

mutual
  pub data Expr : Type 0 where
    value : Value → Expr
    form : Form → Expr
    group : Group → Items → Expr

  pub data Items : Type 0 where
    none : Items
    hole : Items → Items
    item : Expr → Items → Items
    keyed : Key → Expr → Items → Items
    pair : Expr → Expr → Items → Items

pub data Stmt : Type 0 where
  -- (function() {
  opening : Stmt
  -- const vN = e;
  const : ℕ → Expr → Stmt
  -- vN[k] = e;
  assign : ℕ → Key → Expr → Stmt
  -- vN.set(e, f); and vN.add(e);
  put : ℕ → Expr → Expr → Stmt
  add : ℕ → Expr → Stmt
  -- new K(vN).set([..]);
  fill : ℕ → ViewKind → List ℕ → Stmt
  -- e, or (e)
  last : Bool → Expr → Stmt
  -- return e, and the closing
  return : Expr → Stmt
