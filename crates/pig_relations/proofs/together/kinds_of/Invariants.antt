use Rattle.std.proofs.Common.{◌≡◌, ◌++◌, map, drop}
use Rattle.pig_value.specs.Trees.{kind_tree}
use Rattle.pig_schema.specs.FieldTrees.{tree_kind}
use Rattle.pig_relations.specs.Views.{fields_seen}
use Rattle.pig_relations.proofs.together.kinds_of.Given as goal

abbrev pub invariant-loop-column : goal.invariant-loop-column
invariant-loop-column l =
    map kind_tree l.kinds ++ map tree_kind (fields_seen (drop l.column-index l.row)) ≡ map tree_kind (fields_seen l.row)
