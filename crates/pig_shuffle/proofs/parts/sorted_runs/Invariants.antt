use Rattle.std.proofs.Common.{◌≡◌, map}
use Rattle.pig_runs.specs.Entries.{run_of}
use Rattle.pig_shuffle.proofs.parts.sorted_runs.Given as goal

abbrev pub invariant-loop-builder : goal.invariant-loop-builder
invariant-loop-builder l = l.runs ≡ map (λ b. run_of b.dirs b.entries) l.yielded
