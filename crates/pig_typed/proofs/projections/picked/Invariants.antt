use Rattle.std.proofs.Common.{◌≡◌, ◌++◌, map, drop}
use Rattle.std.specs.Option.{option_map}
use Rattle.pig_value.specs.Trees.{kind_tree}
use Rattle.pig_typed.specs.ExprKinds.{picked_kinds}
use Rattle.pig_typed.proofs.projections.picked.Given as goal

abbrev pub invariant-loop-field : goal.invariant-loop-field
invariant-loop-field l =
    option_map (λ more. map kind_tree l.made.items ++ more) (picked_kinds (drop l.field-index l.fields) (map kind_tree l.kinds))
    ≡ picked_kinds l.fields (map kind_tree l.kinds)
