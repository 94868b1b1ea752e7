use Rattle.std.proofs.Common.{◌≡◌, ◌++◌, drop}
use Rattle.std.specs.List.{concat}
use Rattle.std.specs.Option.{option_map}
use Rattle.pig_value.specs.FieldReader.{all_of}
use Rattle.pig_value.specs.Functions.{bytes_in}
use Rattle.pig_value.specs.Trees.{row_tree}
use Rattle.pig_builtins.proofs.making.join_bytes.Given as goal

abbrev pub invariant-loop-arg : goal.invariant-loop-arg
invariant-loop-arg l =
    option_map (λ more. l.joined.items ++ concat more) (all_of bytes_in (row_tree (drop l.arg-index l.args))) ≡ option_map concat (all_of bytes_in (row_tree l.args))
