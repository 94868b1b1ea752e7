use Rattle.std.proofs.Common.{◌≡◌, ◌++◌, drop}
use Rattle.pig_value.specs.Trees.{rows_tree}
use Rattle.pig_typed.specs.Blocks.{foreach_all}
use Rattle.pig_typed.specs.Typed.{block_typed}
use Rattle.pig_stream.proofs.batch.generated.Given as goal

abbrev pub invariant-loop-row : goal.invariant-loop-row
invariant-loop-row l = rows_tree l.made ++ foreach_all (block_typed l.block) (rows_tree (drop l.row-index l.rows)) ≡ foreach_all (block_typed l.block) (rows_tree l.rows)
