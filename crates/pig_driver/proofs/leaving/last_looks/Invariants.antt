use Rattle.std.proofs.Common.{◌≡◌, length}
use Rattle.pig_physical.specs.Seen.{staged}
use Rattle.pig_physical.specs.Stages.{heads}
use Rattle.pig_driver.specs.Left.{HaveAllLooked, HaveLooked, HaveMarked}
use Rattle.pig_driver.proofs.leaving.last_looks.Given as goal

abbrev pub invariant-loop-wave : goal.invariant-loop-wave
invariant-loop-wave l = (length l.lasts.items ≡ length (heads (staged l.stages).plan)) × HaveLooked (staged l.stages) l.wave l.lasts.items

abbrev pub invariant-loop-wave-2 : goal.invariant-loop-wave-2
invariant-loop-wave-2 l =
    (length l.lasts.items ≡ length (heads (staged l.stages).plan)) × HaveAllLooked (staged l.stages) l.lasts.items × HaveMarked (staged l.stages) l.wave l.lasts.items
