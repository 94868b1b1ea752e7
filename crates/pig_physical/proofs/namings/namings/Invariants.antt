use Rattle.std.proofs.Common.{◌≡◌, ℕ, get_or, length}
use Rattle.pig_plan.specs.Plans.{plan_of}
use Rattle.pig_physical.specs.Naming.{naming_by}
use Rattle.pig_physical.specs.declared.namings.Naming.TheVariants as namings
use Rattle.pig_physical.proofs.namings.namings.Given as goal

abbrev pub invariant-loop-left : goal.invariant-loop-left
invariant-loop-left l =
    (length l.found.items ≡ length l.nodes)
    × ((k : ℕ) → naming_by (plan_of l.nodes) k l.left (get_or l.found.items k namings.Never) ≡ naming_by (plan_of l.nodes) k l.users namings.Never)

abbrev pub decreases-loop-left : goal.decreases-loop-left
decreases-loop-left l = length l.left
