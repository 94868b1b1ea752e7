-- Which functions take any number of arguments.
use Rattle.std.specs.Prelude.{Bool, true, false}
use Rattle.pig_value.specs.declared.functions.Function.{Function}
use Rattle.pig_value.specs.declared.functions.Function.TheVariants as f

abbrev pub is_variadic : Function → Bool
is_variadic f.Concat = true
is_variadic f.ToTuple = true
is_variadic (f.ToBag width) = true
is_variadic f = false
