use Rattle.std.proofs.Common.{◌≡◌, ◌++◌, map, drop}
use Rattle.pig_schema.specs.FieldTrees.{tree_kind}
use Rattle.pig_relations.specs.Keyed.{keys_kinds}
use Rattle.pig_relations.specs.Views.{fields_seen, input_tree}
use Rattle.pig_relations.proofs.keyed.key_rows.Given as goal

abbrev pub invariant-loop-input : goal.invariant-loop-input
invariant-loop-input l =
    map (λ row. map tree_kind (fields_seen row.items)) l.rows.items ++ map keys_kinds (map input_tree (drop l.input-index l.inputs))
    ≡ map keys_kinds (map input_tree l.inputs)
