use Rattle.std.proofs.Common.{map}
use Rattle.pig_runs.specs.Places.{found_place}
use Rattle.pig_runs.proofs.Joined.{slots_seen}
use Rattle.pig_runs.proofs.Stretched.{held_of, held_up}
use Rattle.pig_runs.proofs.merged.Merged.from_places.Goals as goal

pub invariant_of-result : goal.invariant_of-result
invariant_of-result c = (held_of c.args.dirs (map (found_place c.args.stretches.items) c.args.places.items) c.requires, tt)

pub invariant_of-result-2 : goal.invariant_of-result-2
invariant_of-result-2 c = held_up c.args.dirs (map (found_place c.args.stretches.items) c.args.places.items) c.result-1.given.0 c.requires

pub returns : goal.returns
returns c es stands = slots_seen c.args.dirs (map (found_place c.args.stretches.items) c.args.places.items) c.result-1.given.0 es stands
