use Rattle.std.proofs.Common.{rules, ◌≡◌, ◌∙◌, Some, None, slice_get, ap, sym}
use Rattle.std.specs.Option.{option_map}
use Rattle.std.proofs.lemmas.Option.{slice_get-map}
use Rattle.pig_value.specs.Valid.{IsValue}
use Rattle.pig_value.proofs.list_laws.Listing.{each_at}
use Rattle.pig_plan.specs.Laws.{OpLiteralsAre}
use Rattle.pig_plan.specs.Nodes.{op_at}
use Rattle.pig_plan.specs.Plans.{node_of, plan_of}
use Rattle.pig_map.proofs.parts.operator.Goals as goal

pub returns-in-Some-clause-literals : goal.returns-in-Some-clause-literals
returns-in-Some-clause-literals c =
    let there : slice_get c.nodes.result.now c.args.number ≡ Some c.in-Some.node.now = search rules in
    let at : slice_get (plan_of c.plan.result.now) c.args.number ≡ Some (node_of c.in-Some.node.now) =
    ap (λ nodes. slice_get (plan_of nodes) c.args.number) (sym c.nodes.ensures.nodes) ∙ slice_get-map node_of c.nodes.result.now c.args.number
    ∙ ap (option_map node_of) there in
    each_at (λ node. OpLiteralsAre IsValue node.op) (plan_of c.plan.result.now) c.args.number (node_of c.in-Some.node.now) at c.nodes.ensures.literals

pub returns-in-None-clause-op : goal.returns-in-None-clause-op
returns-in-None-clause-op c =
    let none : slice_get c.plan.result.now c.args.number ≡ None = search rules in
    sym (ap (option_map (λ node. node.op)) (slice_get-map node_of c.plan.result.now c.args.number ∙ ap (option_map node_of) none))
    ∙ ap (λ plan. op_at plan c.args.number) c.plan.ensures
