use Rattle.std.proofs.Common.{◌≡◌, ◌++◌, false, length}
use Rattle.std.specs.List.{filter}
use Rattle.std.specs.Option.{option_map_or}
use Rattle.pig_plan.specs.Nodes.{is_store, op_at}
use Rattle.pig_plan.specs.Plans.{plan_of}
use Rattle.pig_physical.specs.Stages.{stores}
use Rattle.pig_collect.proofs.parts.store_numbers.Given as goal

abbrev pub invariant-loop-ahead : goal.invariant-loop-ahead
invariant-loop-ahead l =
    l.numbers.items ++ filter (λ k. option_map_or is_store (op_at (plan_of l.plan) k) false) l.ahead ≡ stores (plan_of l.plan)

abbrev pub decreases-loop-ahead : goal.decreases-loop-ahead
decreases-loop-ahead l = length l.ahead
