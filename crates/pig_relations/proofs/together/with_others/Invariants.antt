use Rattle.std.proofs.Common.{◌≡◌, map, drop}
use Rattle.pig_value.specs.Trees.{kind_tree}
use Rattle.pig_schema.specs.FieldTrees.{tree_kind}
use Rattle.pig_relations.specs.Together.{with_others}
use Rattle.pig_relations.specs.Views.{fields_seen}
use Rattle.pig_relations.proofs.together.with_others.Given as goal

abbrev pub invariant-loop-other : goal.invariant-loop-other
invariant-loop-other l =
    with_others (map kind_tree l.so_far) (map (λ row. map tree_kind (fields_seen row.items)) (drop l.other-index l.others))
    ≡ with_others (map kind_tree l.fn.kinds) (map (λ row. map tree_kind (fields_seen row.items)) l.others)
