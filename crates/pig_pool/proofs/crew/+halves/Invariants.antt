use Rattle.std.proofs.Common.{◌+◌, ◌*◌}
use Rattle.pig_pool.proofs.crew.+halves.Given as goal

abbrev pub decreases-run_crew : goal.decreases-run_crew
decreases-run_crew g l = 4 * l.depth

abbrev pub decreases-run_half : goal.decreases-run_half
decreases-run_half g l = 4 * l.depth + 1

abbrev pub decreases-run_both : goal.decreases-run_both
decreases-run_both g l = 4 * l.depth + 3

abbrev pub decreases-run_both-join_mut+arg2 : goal.decreases-run_both-join_mut+arg2
decreases-run_both-join_mut+arg2 g l = 4 * l.depth + 2

abbrev pub decreases-run_both-join_mut+arg3 : goal.decreases-run_both-join_mut+arg3
decreases-run_both-join_mut+arg3 g l = 4 * l.depth + 2
