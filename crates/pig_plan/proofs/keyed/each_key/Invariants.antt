use Rattle.std.proofs.Common.{◌≡◌, ◌++◌, map, drop}
use Rattle.std.specs.Option.{option_map}
use Rattle.pig_value.specs.FieldReader.{all_of}
use Rattle.pig_value.specs.Trees.{kind_tree}
use Rattle.pig_typed.specs.Typed.{typed}
use Rattle.pig_plan.specs.NodeKinds.{key_kind}
use Rattle.pig_plan.proofs.keyed.each_key.Given as goal

abbrev pub invariant-loop-key : goal.invariant-loop-key
invariant-loop-key l =
    option_map (λ more. map kind_tree l.found.items ++ more) (all_of (key_kind (map kind_tree l.row)) (map typed (drop l.key-index l.key-items)))
    ≡ all_of (key_kind (map kind_tree l.row)) (map typed l.keys)
