use Rattle.std.proofs.Common.{◌∙◌, ap, subst, sym, map}
use Rattle.pig_value.specs.Trees.{rows_tree}
use Rattle.pig_value.specs.Valid.{AreRows}
use Rattle.pig_runs.specs.Entries.{and_entries}
use Rattle.pig_plain.specs.Coming.{coming}
use Rattle.pig_plain.specs.Entered.{IsReady, entry_under}
use Rattle.pig_plain.proofs.Walks.{batch_values, goes_on, rest_values}
use Rattle.pig_plain.proofs.entering.add_coming.Goals as goal

pub add_each-requires-clause-rows : goal.add_each-requires-clause-rows
add_each-requires-clause-rows c =
    subst (λ rows. AreRows (rows_tree rows)) (sym c.as_slice.ensures)
    (batch_values (coming c.batches.walk) (rows_tree c.in_ok-rows.rows) (coming c.next_batch.new.self) c.in_ok-rows.ensures.rows c.batches.invariant.1)

pub batches-preserved : goal.batches-preserved
batches-preserved c =
    let told = c.in_ok-add_each.ensures ∙ ap (λ rows. and_entries (map (entry_under c.args.how.now) (rows_tree rows)) c.batches.builder) c.as_slice.ensures in (
      subst (IsReady c.args.how.now) (sym (ap (λ b. b.dirs) told)) c.batches.invariant.0,
      rest_values (coming c.batches.walk) (rows_tree c.in_ok-rows.rows) (coming c.next_batch.new.self) c.in_ok-rows.ensures.rows c.batches.invariant.1,
      goes_on (entry_under c.args.how.now) c.batches.builder.entries c.add_each.new.builder.entries _ (coming c.batches.walk) (rows_tree c.in_ok-rows.rows)
          (coming c.next_batch.new.self) c.in_ok-rows.ensures.rows (ap (λ b. b.entries) told) c.batches.invariant.2,
    )
