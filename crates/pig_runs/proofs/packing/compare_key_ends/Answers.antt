use Rattle.std.proofs.Common.{sym, ◌∙◌}
use Rattle.pig_runs.proofs.Ends.{keys_end}
use Rattle.pig_runs.proofs.packing.compare_key_ends.Goals as goal

pub returns-then-end_within : goal.returns-then-end_within
returns-then-end_within c = keys_end c.args.bytes.now c.args.with.now c.args.a.now c.args.b.now (sym c.end_within.ensures ∙ c.if-end_within.true)
