-- Kinds, tags and names by their numbers, and the bytes of a view's element.
use Rattle.std.specs.Prelude.{◌≡◌, ℕ, ◌<◌, cond, Result, MatchResult, ◌==◌}
use Rattle.dump.specs.declared.kinds.ObjectKind.{ObjectKind}
use Rattle.dump.specs.declared.kinds.ObjectKind.TheVariants as kind
use Rattle.dump.specs.declared.kinds.Tag.{Tag}
use Rattle.dump.specs.declared.kinds.Tag.TheVariants as tag
use Rattle.dump.specs.declared.kinds.Unknown.{Unknown}
use Rattle.dump.specs.declared.kinds.ViewKind.{ViewKind}
use Rattle.dump.specs.declared.kinds.ViewKind.TheVariants.{Int8Array, Uint8Array, Uint8ClampedArray, Int16Array, Uint16Array, Int32Array, Uint32Array, Float32Array, Float64Array, BigInt64Array, BigUint64Array, DataView}
use Rattle.dump.specs.declared.kinds.ErrorName.{ErrorName}
use Rattle.dump.specs.declared.kinds.ErrorName.TheVariants.{Error, EvalError, RangeError, ReferenceError, SyntaxError, TypeError, UriError}

abbrev pub view_kind : ℕ → ViewKind
view_kind n =
    cond (n == 0) Int8Array
    (cond (n == 1) Uint8Array
    (cond (n == 2) Uint8ClampedArray
    (cond (n == 3) Int16Array
    (cond (n == 4) Uint16Array
    (cond (n == 5) Int32Array
    (cond (n == 6) Uint32Array
    (cond (n == 7) Float32Array
    (cond (n == 8) Float64Array
    (cond (n == 9) BigInt64Array
    (cond (n == 10) BigUint64Array
    DataView))))))))))

abbrev pub error_name : ℕ → ErrorName
error_name n =
    cond (n == 0) Error
    (cond (n == 1) EvalError
    (cond (n == 2) RangeError
    (cond (n == 3) ReferenceError
    (cond (n == 4) SyntaxError
    (cond (n == 5) TypeError
    UriError)))))

abbrev pub width : ViewKind → ℕ
width Int8Array = 1
width Uint8Array = 1
width Uint8ClampedArray = 1
width Int16Array = 2
width Uint16Array = 2
width Int32Array = 4
width Uint32Array = 4
width Float32Array = 4
width Float64Array = 8
width BigInt64Array = 8
width BigUint64Array = 8
width DataView = 1

-- the number of a view kind
abbrev pub view_number : ViewKind → ℕ
view_number Int8Array = 0
view_number Uint8Array = 1
view_number Uint8ClampedArray = 2
view_number Int16Array = 3
view_number Uint16Array = 4
view_number Int32Array = 5
view_number Uint32Array = 6
view_number Float32Array = 7
view_number Float64Array = 8
view_number BigInt64Array = 9
view_number BigUint64Array = 10
view_number DataView = 11

-- the number of an error's name
abbrev pub error_number : ErrorName → ℕ
error_number Error = 0
error_number EvalError = 1
error_number RangeError = 2
error_number ReferenceError = 3
error_number SyntaxError = 4
error_number TypeError = 5
error_number UriError = 6

-- the number of an object's kind
abbrev pub kind_number : ObjectKind → ℕ
kind_number kind.Boolean = 0
kind_number kind.Number = 1
kind_number kind.BigInt = 2
kind_number kind.String = 3
kind_number kind.RegExp = 4
kind_number kind.Date = 5
kind_number kind.Plain = 6
kind_number kind.Sparse = 7
kind_number kind.Dense = 8
kind_number kind.Map = 9
kind_number kind.Set = 10
kind_number kind.Buffer = 11
kind_number kind.View = 12
kind_number kind.Error = 13

-- the number of a value's tag
abbrev pub tag_number : Tag → ℕ
tag_number tag.Undefined = 0
tag_number tag.Null = 1
tag_number tag.Boolean = 2
tag_number tag.Signed = 3
tag_number tag.Unsigned = 4
tag_number tag.Double = 5
tag_number tag.BigInt = 6
tag_number tag.Text = 7
tag_number tag.Object = 8
tag_number tag.Hole = 9

-- what has the number n, or an error with n where that is past the last
abbrev pub IsNumbered : {A : Type 0} → (A → ℕ) → ℕ → ℕ → Result A Unknown → Type 0
IsNumbered number last n r = MatchResult r (λ x. n ≡ number x) (λ e. (e.0 ≡ n) × (last < n))

abbrev pub IsObjectKind : ℕ → Result ObjectKind Unknown → Type 0
IsObjectKind = IsNumbered kind_number 13

abbrev pub IsTag : ℕ → Result Tag Unknown → Type 0
IsTag = IsNumbered tag_number 9

abbrev pub IsViewKind : ℕ → Result ViewKind Unknown → Type 0
IsViewKind = IsNumbered view_number 11

abbrev pub IsErrorName : ℕ → Result ErrorName Unknown → Type 0
IsErrorName = IsNumbered error_number 6
