use Rattle.std.proofs.Common.{◌≡◌, map}
use Rattle.std.specs.List.{range_with_len}
use Rattle.pig_plan.specs.Plans.{plan_of}
use Rattle.pig_alive.specs.Alive.{rank}
use Rattle.pig_alive.proofs.dropping.ranks.Given as goal

abbrev pub invariant-loop-place : goal.invariant-loop-place
invariant-loop-place l = (l.table.items ≡ map (rank (plan_of l.plan)) (range_with_len 0 l.place)) × (l.count ≡ rank (plan_of l.plan) l.place)
