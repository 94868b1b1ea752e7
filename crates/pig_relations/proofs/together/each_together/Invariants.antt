use Rattle.std.proofs.Common.{◌≡◌, ◌++◌, map, drop}
use Rattle.std.specs.Option.{option_map}
use Rattle.pig_value.specs.Trees.{kind_tree}
use Rattle.pig_schema.specs.FieldTrees.{tree_kind}
use Rattle.pig_relations.specs.Together.{each_together}
use Rattle.pig_relations.specs.Views.{fields_seen}
use Rattle.pig_relations.proofs.together.each_together.Given as goal

abbrev pub invariant-loop-kind : goal.invariant-loop-kind
invariant-loop-kind l =
    option_map (λ more. map kind_tree l.made ++ more) (each_together (map kind_tree (drop l.kind-index l.kinds)) (map tree_kind (fields_seen l.left)))
    ≡ each_together (map kind_tree l.kinds) (map tree_kind (fields_seen l.row))
