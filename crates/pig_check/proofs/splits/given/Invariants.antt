use Rattle.std.proofs.Common.{◌≡◌, ◌++◌, drop, map}
use Rattle.std.specs.Option.{option_to_list}
use Rattle.pig_schema.specs.FieldTrees.{schema_tree}
use Rattle.pig_relations.specs.Aliases.{aliases_of}
use Rattle.pig_check.specs.Splits.{branch_aliases, relations_from}
use Rattle.pig_check.proofs.splits.given.Given as goal

abbrev pub invariant-loop-branch : goal.invariant-loop-branch
invariant-loop-branch l =
    aliases_of l.given ++ relations_from l.node (schema_tree l.columns) (map (λ b. b.alias) (drop l.branch-index l.branches) ++ option_to_list l.otherwise)
    ≡ relations_from l.next (schema_tree l.columns) (branch_aliases l.branches l.otherwise)
