use Rattle.std.proofs.Common.{◌≡◌, length}
use Rattle.std.specs.List.{list_any}
use Rattle.pig_plan.specs.Plans.{plan_of}
use Rattle.pig_plan.specs.Results.{at_place}
use Rattle.pig_cutter.specs.Tables.{is_over}
use Rattle.pig_cutter.proofs.weighing.any_over.Given as goal

abbrev pub invariant-loop-left : goal.invariant-loop-left
invariant-loop-left l =
    list_any (is_over l.most (plan_of l.listing.nodes.now) l.listing.stores.now (at_place 0 l.weights)) l.left
    ≡ list_any (is_over l.most (plan_of l.listing.nodes.now) l.listing.stores.now (at_place 0 l.weights)) l.heads

abbrev pub decreases-loop-left : goal.decreases-loop-left
decreases-loop-left l = length l.left
