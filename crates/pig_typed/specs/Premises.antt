-- What the laws of expressions ask of the functions, which another crate shows.
use Rattle.std.specs.Prelude.{◌≡◌, List, Some}
use Rattle.pig_value.specs.FunctionKinds.{function_kind}
use Rattle.pig_value.specs.Functions.{apply_tree}
use Rattle.pig_value.specs.Kinds.{IsOf, IsRowOf}
use Rattle.pig_value.specs.Texts.{IsLineFree, IsLineFreeRow}
use Rattle.pig_value.specs.Trees.{Tree, KindTree}
use Rattle.pig_value.specs.Valid.{IsValue, IsRow}
use Rattle.pig_value.specs.declared.functions.Function.{Function}

-- of arguments of kinds that it takes a function gives a value of its kind
abbrev pub FunctionsKeepKinds : Type 0
FunctionsKeepKinds = (f : Function) (args : List Tree) (kinds : List KindTree) (k : KindTree) → IsRowOf args kinds → function_kind f kinds ≡ Some k → IsOf (apply_tree f args) k

-- of values it gives a value
abbrev pub FunctionsKeepValues : Type 0
FunctionsKeepValues = (f : Function) (args : List Tree) → IsRow args → IsValue (apply_tree f args)

-- and of values without an LF it gives one without
abbrev pub FunctionsKeepLines : Type 0
FunctionsKeepLines = (f : Function) (args : List Tree) → IsRow args → IsLineFreeRow args → IsLineFree (apply_tree f args)

-- a value without an LF
abbrev pub IsLineFreeValue : Tree → Type 0
IsLineFreeValue v = IsValue v × IsLineFree v
