use Rattle.std.proofs.Common.{◌≡◌, ◌++◌, drop}
use Rattle.std.specs.Prelude.{string_bytes}
use Rattle.std.specs.List.{concat}
use Rattle.std.specs.Option.{option_map}
use Rattle.pig_value.specs.FieldReader.{all_of}
use Rattle.pig_value.specs.Functions.{text_in}
use Rattle.pig_value.specs.Trees.{row_tree}
use Rattle.pig_builtins.proofs.making.join_texts.Given as goal

abbrev pub invariant-loop-arg : goal.invariant-loop-arg
invariant-loop-arg l =
    option_map (λ more. string_bytes l.joined ++ concat more) (all_of text_in (row_tree (drop l.arg-index l.args))) ≡ option_map concat (all_of text_in (row_tree l.args))
