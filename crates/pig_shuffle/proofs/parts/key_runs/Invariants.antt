use Rattle.std.proofs.Common.{◌≡◌, [], map}
use Rattle.pig_runs.specs.Alone.{alone_once}
use Rattle.pig_runs.specs.Entries.{run_of}
use Rattle.pig_shuffle.proofs.parts.key_runs.Given as goal

abbrev pub invariant-loop-builder : goal.invariant-loop-builder
invariant-loop-builder l = l.runs ≡ map (λ keys. run_of [] (alone_once keys)) l.yielded
