use Rattle.std.proofs.Common.{◌≡◌, ◌<◌, ℕ, Some}
use Rattle.std.specs.Prelude.{slice_get}
use Rattle.pig_physical.specs.Seen.{staged}
use Rattle.pig_physical.specs.Stages.{Task, tasks_in}
use Rattle.pig_tasks_tests.specs.Fits.{GoesTo}
use Rattle.pig_tasks_tests.proofs.sorting.all_go_to.Given as goal

abbrev pub invariant-loop-at : goal.invariant-loop-at
invariant-loop-at l = (i : ℕ) (task : Task) → i < l.at → slice_get (tasks_in (staged l.stages) l.wave) i ≡ Some task → GoesTo l.node task
