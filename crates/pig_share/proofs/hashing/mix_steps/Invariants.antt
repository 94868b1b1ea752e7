use Rattle.std.proofs.Common.{◌≡◌, map, drop}
use Rattle.pig_typed.specs.Typed.{step_typed}
use Rattle.pig_share.specs.Hashed.{all_hash, step_hash}
use Rattle.pig_share.proofs.hashing.mix_steps.Given as goal

abbrev pub invariant-loop-step : goal.invariant-loop-step
invariant-loop-step l = all_hash step_hash l.made (map step_typed (drop l.step-index l.steps)) ≡ all_hash step_hash l.h (map step_typed l.steps)
