use Rattle.std.proofs.Common.{◌≡◌, ◌++◌, map, drop, length}
use Rattle.pig_physical.specs.Seen.{entering_of}
use Rattle.pig_cutter.specs.Feeds.{tasks_along}
use Rattle.pig_cutter.specs.Tables.{parts_for}
use Rattle.pig_cutter.proofs.listing.add_tasks.Given as goal

abbrev pub invariant-loop-left : goal.invariant-loop-left
invariant-loop-left l =
    l.tasks ++ tasks_along (parts_for l.listing.split l.listing.sources.now) l.node l.wave l.number (map entering_of l.left)
    ≡ l.initial.tasks ++ tasks_along (parts_for l.listing.split l.listing.sources.now) l.node l.wave l.begin (map entering_of (drop l.begin l.ways))

abbrev pub decreases-loop-left : goal.decreases-loop-left
decreases-loop-left l = length l.left
