use Rattle.std.proofs.Common.{◌∙◌, ap, map}
use Rattle.pig_plan.specs.ByKey.{gathered}
use Rattle.pig_plan.specs.Operators.{keyed_entries}
use Rattle.pig_plan.specs.Plans.{keyed_of}
use Rattle.pig_runs.specs.Entries.{run_of}
use Rattle.pig_operators.proofs.Keying.{run_gathers}
use Rattle.pig_operators.specs.Given.{made}
use Rattle.pig_plain.specs.Tables.{rows_of}
use Rattle.pig_plain.proofs.Tables.{used_both}
use Rattle.pig_plain.proofs.keyed.rows_by_key.Goals as goal

pub returns : goal.returns
returns c = record {
  rows = c.groups.ensures
      ∙ ap (λ b. gathered (made c.args.how) (run_of b.dirs b.entries).entries) c.in_ok-builder.ensures.entries
      ∙ run_gathers (made c.args.how) (keyed_entries 0 (map keyed_of c.args.inputs.now) (rows_of c.args.table.now));
  left = used_both c.args.table.now c.entries.new.table c.release_keyed.new.self c.in_ok-builder.ensures.used c.release_keyed.ensures;
}
