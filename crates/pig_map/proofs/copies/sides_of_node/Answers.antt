use Rattle.std.proofs.Common.{rules, ◌≡◌, ◌∙◌, Some, ap, map, subst, sym}
use Rattle.std.specs.Option.{option_map}
use Rattle.std.specs.Prelude.{IfOk}
use Rattle.std.proofs.lemmas.Result.{IfOk-weaker}
use Rattle.pig_plan.specs.Nodes.{op_at}
use Rattle.pig_plan.specs.Meaning.{width_at}
use Rattle.pig_plan.specs.Plans.{PlanOp, keyed_of, op_of}
use Rattle.pig_plan.specs.Valid.{IsPlan}
use Rattle.pig_physical.specs.Handed.{outs_of}
use Rattle.pig_physical.specs.Seen.{staged}
use Rattle.pig_probe.specs.Probing.{SidesSeen}
use Rattle.pig_physical.specs.Outs.{outs_at}
use Rattle.pig_physical.specs.Stages.{tasks_in}
use Rattle.pig_map.specs.Copies.{AreSidesOf, rows_for, sides_by}
use Rattle.pig_map.proofs.Sided.{its_sides}
use Rattle.pig_map.proofs.copies.sides_of_node.Goals as goal

pub returns-in-Some-Join : goal.returns-in-Some-Join
returns-in-Some-Join c =
    let s = staged c.args.stages.now in
    let outs = outs_of c.args.prior.now in
    let here = sym c.operator.ensures.op ∙ ap (option_map (λ op. op_of op.now)) c.in-Some-Join.is ∙ ap (λ op. Some (op_of op)) c.in-Some-Join.field-0-is in
    let inputs = map keyed_of c.in-Some-Join.inputs in
    let given : SidesSeen = sides_by c.in-Some-Join.side (width_at s.plan) inputs (λ i. rows_for i (tasks_in s c.args.copies) (outs_at outs c.args.copies)) in
    let made : IfOk c.joined_sides.result (λ sides. sides ≡ given) = search rules in
    IfOk-weaker c.joined_sides.result (λ sides. sides ≡ given) (λ sides. (o : PlanOp) → op_at s.plan c.args.node ≡ Some o → AreSidesOf s outs c.args.node o sides)
    (λ sides is o at. subst (AreSidesOf s outs c.args.node o) (sym is)
    (its_sides s (subst IsPlan c.plan.ensures c.nodes.ensures.valid) c.args.node c.args.copies outs c.requires o at inputs c.in-Some-Join.side c.in-Some-Join.field-0-2 here)) made
