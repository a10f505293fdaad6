-- Two words of the plan that need neither the heap nor the order, said without them: by computing they are in_braces and stack_value of any heap and order.
use Rattle.std.specs.Prelude.{Bool, true, false, Some, None, Option}
use Rattle.dump.specs.Heaps.{Text, Value, undefined, text}
use Rattle.script.specs.Syntax as syntax
use Rattle.script.specs.Syntax.{form, group, braces, brackets, map_group, set_group, error_group, view_group, Expr}

-- an object literal: braces at the start of a line would be a block
abbrev pub braced : Expr → Bool
braced (syntax.value v) = false
braced (form f) = false
braced (group braces is) = true
braced (group brackets is) = false
braced (group map_group is) = false
braced (group set_group is) = false
braced (group (error_group n m) is) = false
braced (group (view_group k o n) is) = false

-- the value that an error's stack is set to: undefined for none
abbrev pub stack_text : Option Text → Value
stack_text None = undefined
stack_text (Some s) = text s
