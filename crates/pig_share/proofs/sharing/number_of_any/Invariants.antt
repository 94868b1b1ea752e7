use Rattle.std.proofs.Common.{ℕ, ◌<◌}
use Rattle.pig_plan.specs.Plans.{plan_of}
use Rattle.pig_share.specs.Table.{DoesSame}
use Rattle.pig_share.proofs.sharing.number_of_any.Given as goal

abbrev pub invariant-loop-j : goal.invariant-loop-j
invariant-loop-j l = (k : ℕ) → k < l.j → DoesSame (plan_of l.nodes) l.table l.own k → ⊥
