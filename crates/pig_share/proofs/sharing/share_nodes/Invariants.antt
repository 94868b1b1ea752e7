use Rattle.std.proofs.Common.{nat_eq}
use Rattle.indexmap.specs.IndexMap.{get}
use Rattle.pig_plan.specs.Plans.{plan_of}
use Rattle.pig_share.specs.Table.{AreListed, IsSoFar}
use Rattle.pig_share.proofs.sharing.share_nodes.Given as goal

abbrev pub invariant-loop-own : goal.invariant-loop-own
invariant-loop-own l = IsSoFar (plan_of l.nodes) l.table.items (plan_of l.made) l.own × AreListed (plan_of l.nodes) (plan_of l.made) (get nat_eq l.firsts)
