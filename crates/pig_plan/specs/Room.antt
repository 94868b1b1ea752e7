-- A plan with room for one node at a place: a node that reads nothing stands there, and those from there on have the next numbers.
use Rattle.std.specs.Prelude.{ℕ, zero, suc, [], map}
use Rattle.std.specs.List.{insert}
use Rattle.pig_plan.specs.Plans.{Plan, PlanNode, p_load}
use Rattle.pig_plan.specs.Renumbered.{renamed}

-- a node that reads nothing
abbrev pub idle : PlanNode
idle = record { op = p_load [] 9 []; statement = 0 }

-- the number that a node has then
abbrev pub past : ℕ → ℕ → ℕ
past zero n = suc n
past (suc at) zero = zero
past (suc at) (suc n) = suc (past at n)

-- the plan with room before the node numbered at
abbrev pub roomy : ℕ → Plan → Plan
roomy at p = insert (map (renamed (past at)) p) at idle
