use Rattle.std.proofs.Common.{◌≡◌, ◌+◌, ◌%◌, ◌^◌, drop, length}
use Rattle.std.specs.List.{sum_by}
use Rattle.pig_physical.specs.Handed.{runs_of_out}
use Rattle.pig_driver.proofs.handing.entries_of.Given as goal

abbrev pub invariant-loop-at : goal.invariant-loop-at
invariant-loop-at l =
    (l.count + sum_by (λ run. length run.entries) (drop l.at (runs_of_out l.runs))) % 2 ^ 64
    ≡ sum_by (λ run. length run.entries) (runs_of_out l.runs) % 2 ^ 64
