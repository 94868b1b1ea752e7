use Rattle.std.proofs.Common.{◌≡◌, ◌∙◌, ap, map, rules}
use Rattle.pig_runs.specs.Entries.{and_entries, no_entries_in, run_of}
use Rattle.pig_plan.specs.Entries.{dirs_of, sort_entry}
use Rattle.pig_operators.specs.Given.{run_rows}
use Rattle.pig_operators.proofs.SortEntries.{ordering_rows}
use Rattle.pig_plain.specs.Tables.{rows_of}
use Rattle.pig_plain.proofs.Tables.{told_used, used_both}
use Rattle.pig_plain.proofs.sorting.in_order.Goals as goal

pub returns : goal.returns
returns c =
    let keys = c.args.keys.now in
    let before = c.args.table.now in
    let rows = rows_of before c.args.input in
    let builder_is : c.enter.new.builder ≡ and_entries (map (sort_entry keys) rows) (no_entries_in (dirs_of keys)) = search rules in
    record {
      rows = c.of_ordered.ensures ∙ c.new-rows.ensures.rows
          ∙ ap run_rows (c.finish.ensures ∙ ap (λ b. run_of b.dirs b.entries) builder_is) ∙ ordering_rows keys rows;
      left = used_both before c.enter.new.table c.release.new.self
          (told_used c.is_last-last.result c.args.input before c.enter.new.table c.is_last-last.ensures c.in_ok-enter.ensures.left) c.release.ensures;
    }
