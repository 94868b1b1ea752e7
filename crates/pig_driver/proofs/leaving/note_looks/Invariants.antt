use Rattle.std.proofs.Common.{◌≡◌, drop}
use Rattle.pig_physical.specs.Seen.{staged}
use Rattle.pig_physical.specs.Stages.{tasks_in}
use Rattle.pig_driver.specs.Left.{looked}
use Rattle.pig_driver.proofs.leaving.note_looks.Given as goal

abbrev pub invariant-loop-at : goal.invariant-loop-at
invariant-loop-at l =
    looked (drop l.at (tasks_in (staged l.stages) l.wave)) l.wave l.lasts.items ≡ looked (tasks_in (staged l.stages) l.wave) l.wave l.fn.lasts.items
