use Rattle.std.proofs.Common.{rules, ◌≡◌, ◌++◌, ◌∷◌, [], map}
use Rattle.std.specs.Prelude.{slice_get}
use Rattle.std.specs.List.{filter, filter_map}
use Rattle.pig_plan.specs.Nodes.{is_live}
use Rattle.pig_plan.specs.Plans.{plan_of}
use Rattle.pig_plan.specs.Renumbered.{renamed}
use Rattle.pig_share.specs.Table.{at_of}
use Rattle.pig_alive.proofs.Places.{made_on}
use Rattle.pig_alive.proofs.dropping.live_nodes.Goals as goal

pub loop-place-preserved : goal.loop-place-preserved
loop-place-preserved c =
    let grown : plan_of c.add_live.new.made ≡ plan_of c.loop-place.made
    ++ map (renamed (at_of c.args.table.now)) (filter_map (slice_get (plan_of c.as_slice-nodes.result.now)) (filter (is_live (plan_of c.as_slice-nodes.result.now)) (c.loop-place.place ∷ []))) = search rules in
    made_on (at_of c.args.table.now) (plan_of c.as_slice-nodes.result.now) (plan_of c.loop-place.made) (plan_of c.add_live.new.made) c.loop-place.place c.loop-place.invariant grown
