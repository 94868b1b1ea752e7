use Rattle.std.proofs.Common.{◌≡◌, ◌∙◌, [], ap, rules}
use Rattle.pig_plan.specs.ByKey.{gathered, group_of}
use Rattle.pig_runs.specs.Entries.{and_entries, no_entries_in, run_of}
use Rattle.pig_operators.proofs.Keying.{run_gathers}
use Rattle.pig_operators.specs.Keying.{all_rows_keyed}
use Rattle.pig_plain.specs.Tables.{rows_of}
use Rattle.pig_plain.proofs.Tables.{told_used, used_both}
use Rattle.pig_plain.proofs.keyed.group_all.Goals as goal

pub returns : goal.returns
returns c =
    let before = c.args.table.now in
    let rows = rows_of before c.args.input in
    let builder_is : c.enter.new.builder ≡ and_entries (all_rows_keyed rows) (no_entries_in []) = search rules in
    record {
      rows = c.groups.ensures ∙ ap (λ b. gathered group_of (run_of b.dirs b.entries).entries) builder_is ∙ run_gathers group_of (all_rows_keyed rows);
      left = used_both before c.enter.new.table c.release.new.self
          (told_used c.is_last-last.result c.args.input before c.enter.new.table c.is_last-last.ensures c.in_ok-enter.ensures.left) c.release.ensures;
    }
