use Rattle.std.proofs.Common.{◌≡◌, map}
use Rattle.std.specs.Option.{is_some}
use Rattle.pig_plan.specs.Plans.{plan_of}
use Rattle.pig_physical.proofs.Foldings.{AreUpTo}
use Rattle.pig_physical.proofs.folding.list_folders.Given as goal

abbrev pub invariant-loop-number : goal.invariant-loop-number
invariant-loop-number l = AreUpTo (plan_of l.nodes) l.number l.users × (l.marks ≡ map is_some l.users)
