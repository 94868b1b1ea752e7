use Rattle.std.proofs.Common.{take}
use Rattle.pig_plan.specs.Plans.{plan_of}
use Rattle.pig_cutter.specs.Listed.{AreCut}
use Rattle.pig_cutter.specs.Tables.{parts_for}
use Rattle.pig_cutter.proofs.listing.waves.Given as goal

abbrev pub invariant-loop-number : goal.invariant-loop-number
invariant-loop-number l =
    AreCut (plan_of l.listing.nodes.now) l.listing.stores.now (parts_for l.listing.split l.listing.sources.now) l.listing.reducers (take l.number l.heads) l.found
