use Rattle.std.proofs.Common.{◌≡◌, ◌++◌, drop, map}
use Rattle.pig_plan.specs.Plans.{keyed_of}
use Rattle.pig_reduce.proofs.choosing.flags.Given as goal

abbrev pub invariant-loop-input : goal.invariant-loop-input
invariant-loop-input l = l.inner ++ map (λ i. i.inner) (map keyed_of (drop l.input-index l.inputs)) ≡ map (λ i. i.inner) (map keyed_of l.inputs)
