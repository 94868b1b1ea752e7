use Rattle.std.proofs.Common.{◌≡◌, ◌+◌, ◌%◌, ◌^◌, drop, map}
use Rattle.pig_physical.specs.Handed.{out_of}
use Rattle.pig_physical.specs.Seen.{staged}
use Rattle.pig_physical.specs.Stages.{tasks_in}
use Rattle.pig_driver.specs.Handing.{handed_in}
use Rattle.pig_driver.proofs.handing.handed_in.Given as goal

abbrev pub invariant-loop-at : goal.invariant-loop-at
invariant-loop-at l =
    (l.count + handed_in (staged l.stages).plan (drop l.at (tasks_in (staged l.stages) l.wave)) (drop l.at (map out_of l.outs))) % 2 ^ 64
    ≡ handed_in (staged l.stages).plan (tasks_in (staged l.stages) l.wave) (map out_of l.outs) % 2 ^ 64
