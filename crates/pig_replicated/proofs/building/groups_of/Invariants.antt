-- The groups so far, and the rows that are left.
use Rattle.std.proofs.Common.{length, map}
use Rattle.pig_replicated.specs.Held.{keyed_of}
use Rattle.pig_replicated.proofs.Grouping.{IsCutUpTo}
use Rattle.pig_replicated.proofs.building.groups_of.Given as goal

abbrev pub invariant-groups : goal.invariant-groups
invariant-groups l = IsCutUpTo l.groups.items (map keyed_of l.left) (map keyed_of l.held)

abbrev pub decreases-groups : goal.decreases-groups
decreases-groups l = length l.left
