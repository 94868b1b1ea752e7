use Rattle.std.proofs.Common.{sym}
use Rattle.pig_runs.proofs.Sliced.{slice_is}
use Rattle.pig_runs.proofs.run_parts.part_between.Goals as goal

pub returns-clause-entries : goal.returns-clause-entries
returns-clause-entries c =
    sym (slice_is c.args.run.now.dirs c.args.run.now.entries c.args.points.now.points c.args.part c.count_before-from.result c.count_below-end.result c.count_below-end.ensures.parts c.count_before-from.ensures)
