use Rattle.std.proofs.Common.{◌≡◌, map, drop}
use Rattle.pig_plan.specs.Plans.{keyed_of}
use Rattle.pig_share.specs.Hashed.{all_hash, keyed_hash}
use Rattle.pig_share.proofs.hashing.mix_inputs.Given as goal

abbrev pub invariant-loop-input : goal.invariant-loop-input
invariant-loop-input l = all_hash keyed_hash l.made (map keyed_of (drop l.input-index l.inputs)) ≡ all_hash keyed_hash l.h (map keyed_of l.inputs)
