use Rattle.std.proofs.Common.{◌≡◌, map, drop, ◌+◌, ◌*◌}
use Rattle.std.specs.Prelude.{◌++◌}
use Rattle.pig_value.specs.Trees.{kind_tree, kinds_of}
use Rattle.pig_schema.specs.FieldTrees.{schema_tree}
use Rattle.pig_typing.specs.Columns.{each_unnamed}
use Rattle.pig_typing.proofs.columns.+unnamed.Given as goal

abbrev pub decreases-inner_unnamed : goal.decreases-inner_unnamed
decreases-inner_unnamed l = 2 * goal.size-inner_unnamed l

abbrev pub decreases-each_unnamed : goal.decreases-each_unnamed
decreases-each_unnamed l = 2 * goal.size-each_unnamed l + 1

abbrev pub invariant-each_unnamed-loop-kind : goal.invariant-each_unnamed-loop-kind
invariant-each_unnamed-loop-kind l =
    schema_tree l.made.items ++ each_unnamed (kinds_of (map kind_tree (drop l.kind-index l.kinds)))
    ≡ each_unnamed (kinds_of (map kind_tree l.fn.kinds))
