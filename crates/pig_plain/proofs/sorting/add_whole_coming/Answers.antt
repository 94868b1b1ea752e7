use Rattle.std.proofs.Common.{◌∙◌, ap}
use Rattle.pig_value.specs.Trees.{rows_tree}
use Rattle.pig_plain.specs.Coming.{coming}
use Rattle.pig_operators.specs.Keying.{row_entry}
use Rattle.pig_plain.proofs.Walks.{batch_values, goes_on, rest_values}
use Rattle.pig_plain.proofs.sorting.add_whole_coming.Goals as goal

pub add_whole_rows-requires-clause-rows : goal.add_whole_rows-requires-clause-rows
add_whole_rows-requires-clause-rows c =
    batch_values (coming c.batches.walk) (rows_tree c.in_ok-rows.rows) (coming c.next_batch.new.self) c.in_ok-rows.ensures.rows c.batches.invariant.1

pub batches-preserved : goal.batches-preserved
batches-preserved c =
    let told = c.in_ok-add_whole_rows.ensures in (
      ap (λ b. b.dirs) told ∙ c.batches.invariant.0,
      rest_values (coming c.batches.walk) (rows_tree c.in_ok-rows.rows) (coming c.next_batch.new.self) c.in_ok-rows.ensures.rows c.batches.invariant.1,
      goes_on row_entry c.batches.builder.entries c.add_whole_rows.new.builder.entries _ (coming c.batches.walk) (rows_tree c.in_ok-rows.rows)
          (coming c.next_batch.new.self) c.in_ok-rows.ensures.rows (ap (λ b. b.entries) told) c.batches.invariant.2,
    )
