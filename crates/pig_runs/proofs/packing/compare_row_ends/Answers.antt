use Rattle.std.proofs.Common.{sym, ◌∙◌}
use Rattle.std.specs.Prelude.{max, nat_le}
use Rattle.pig_runs.specs.Fronts.{front_len}
use Rattle.pig_runs.proofs.Ends.{rows_end}
use Rattle.pig_runs.proofs.packing.compare_row_ends.Goals as goal

pub returns-then-end_within : goal.returns-then-end_within
returns-then-end_within c =
    rows_end c.args.bytes.now c.args.with.now c.args.a.now c.args.b.now
    ((λ i. nat_le (max (sym c.untold_len.ensures i) (sym c.untold_len-2.ensures i)) front_len) ∙ (sym c.end_within.ensures ∙ c.if-end_within.true))
