use Rattle.std.proofs.Common.{rules, ◌≡◌, ◌∙◌, Some, ap, false, sym}
use Rattle.std.specs.Option.{unwrap_or}
use Rattle.pig_plan.specs.Nodes.{op_at}
use Rattle.pig_plan.specs.Plans.{op_of}
use Rattle.pig_plan.specs.Results.{at_place}
use Rattle.pig_physical.specs.Seen.{entering_of, map_task_of, no_way, staged}
use Rattle.pig_physical.specs.Stages.{is_replicated, ways_in}
use Rattle.pig_map_tests.proofs.Probing.{by_key, of_further}
use Rattle.pig_map_tests.proofs.standing.probes_nothing.Goals as goal

pub returns-then-not-is_replicated : goal.returns-then-not-is_replicated
returns-then-not-is_replicated c =
    let s = staged c.args.stages.now in
    let at : op_at s.plan c.args.task.now.node ≡ Some (op_of c.in-Some.op.now) = search rules in
    let none : is_replicated (op_of c.in-Some.op.now) ≡ false = search rules in
    λ _. by_key s (map_task_of s c.args.task.now) (op_of c.in-Some.op.now) at none

pub returns : goal.returns
returns c = λ held.
    let s = staged c.args.stages.now in
    let way : at_place no_way (ways_in s.plan c.args.task.now.wave) c.args.task.now.way ≡ entering_of c.way_of.result.now =
    ap (λ found. unwrap_or found no_way) c.way_of.ensures in
    let other : c.way_of.result.now.input ≡ 0 → ⊥ = search rules in
    of_further s (map_task_of s c.args.task.now) (λ first. other (sym (ap (λ w. w.input) way) ∙ first))
