use Rattle.std.proofs.Common.{◌≡◌, ◌++◌, map, length}
use Rattle.std.specs.List.{flat_map}
use Rattle.pig_plan.specs.Plans.{plan_of}
use Rattle.pig_physical.specs.Seen.{entering_of}
use Rattle.pig_cutter.specs.Feeds.{tasks_fed, ways_on}
use Rattle.pig_cutter.specs.Tables.{parts_for}
use Rattle.pig_cutter.proofs.listing.add_feeds.Given as goal

abbrev pub invariant-loop-left : goal.invariant-loop-left
invariant-loop-left l =
    (map entering_of l.ways ++ flat_map (ways_on (plan_of l.listing.nodes.now)) l.left
    ≡ map entering_of l.initial.ways ++ flat_map (ways_on (plan_of l.listing.nodes.now)) l.feeds)
    × (l.tasks ++ tasks_fed (parts_for l.listing.split l.listing.sources.now) (plan_of l.listing.nodes.now) l.wave (length l.ways) l.left
    ≡ l.initial.tasks ++ tasks_fed (parts_for l.listing.split l.listing.sources.now) (plan_of l.listing.nodes.now) l.wave (length l.initial.ways) l.feeds)

abbrev pub decreases-loop-left : goal.decreases-loop-left
decreases-loop-left l = length l.left
