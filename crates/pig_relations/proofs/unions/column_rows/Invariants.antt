use Rattle.std.proofs.Common.{◌≡◌, ◌++◌, map, drop}
use Rattle.pig_schema.specs.FieldTrees.{tree_kind}
use Rattle.pig_relations.specs.Unions.{column_kinds}
use Rattle.pig_relations.specs.Views.{fields_seen, relations_seen}
use Rattle.pig_relations.proofs.unions.column_rows.Given as goal

abbrev pub invariant-loop-input : goal.invariant-loop-input
invariant-loop-input l =
    map (λ row. map tree_kind (fields_seen row.items)) l.rows.items ++ map column_kinds (relations_seen (drop l.input-index l.inputs))
    ≡ map column_kinds (relations_seen l.inputs)
