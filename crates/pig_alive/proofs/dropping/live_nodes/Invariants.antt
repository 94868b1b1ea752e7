use Rattle.std.proofs.Common.{◌≡◌, map}
use Rattle.std.specs.Prelude.{slice_get}
use Rattle.std.specs.List.{filter, filter_map, range_with_len}
use Rattle.pig_plan.specs.Nodes.{is_live}
use Rattle.pig_plan.specs.Plans.{plan_of}
use Rattle.pig_plan.specs.Renumbered.{renamed}
use Rattle.pig_share.specs.Table.{at_of}
use Rattle.pig_alive.proofs.dropping.live_nodes.Given as goal

abbrev pub invariant-loop-place : goal.invariant-loop-place
invariant-loop-place l = plan_of l.made ≡ map (renamed (at_of l.table)) (filter_map (slice_get (plan_of l.nodes)) (filter (is_live (plan_of l.nodes)) (range_with_len 0 l.place)))
