use Rattle.std.proofs.Common.{map}
use Rattle.std.proofs.Math.Logic.{∥∥₁_elim}
use Rattle.pig_runs.specs.Packed.{found_at, held_prop}
use Rattle.pig_runs.proofs.Joined.{slots_seen}
use Rattle.pig_runs.proofs.builder.RunBuilder.from_slots.Goals as goal

pub invariant_of-result : goal.invariant_of-result
invariant_of-result c = (∥∥₁_elim c.requires.held (held_prop c.args.dirs (map (found_at c.args.bytes.items) c.args.slots.items)) (λ h. h), tt)

pub returns : goal.returns
returns c es stands = slots_seen c.args.dirs (map (found_at c.args.bytes.items) c.args.slots.items) c.result-1.given.0 es stands
