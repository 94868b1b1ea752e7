use Rattle.std.proofs.Common.{◌≡◌, ◌+◌, ◌%◌, ◌^◌, drop}
use Rattle.std.specs.List.{sum_by}
use Rattle.pig_plan.specs.Plans.{plan_of}
use Rattle.pig_reach.specs.Reach.{lines_read}
use Rattle.pig_reach.proofs.Flowing.{read_at}
use Rattle.pig_reach.proofs.reads.lines_read.Given as goal

abbrev pub invariant-loop-place : goal.invariant-loop-place
invariant-loop-place l = (l.count + sum_by (read_at (plan_of l.plan) l.inputs) (drop l.place l.live.items)) % 2 ^ 64 ≡ lines_read (plan_of l.plan) l.inputs % 2 ^ 64
