use Rattle.std.proofs.Common.{◌≡◌, Some, ap, sym, ◌∙◌}
use Rattle.std.proofs.lemmas.Option.{IfSome_then}
use Rattle.std.proofs.lemmas.Result.{MatchResult-weaker}
use Rattle.std.specs.Option.{option_map}
use Rattle.pig_plan.specs.Nodes.{op_at}
use Rattle.pig_plan.specs.Plans.{op_of, plan_of}
use Rattle.pig_stream.specs.Stepping.{marked_folding}
use Rattle.pig_map.proofs.Choices.{chooses_at}
use Rattle.pig_map.proofs.choosing.then_node.Goals as goal

pub returns-in-Some : goal.returns-in-Some
returns-in-Some c =
    let plan = plan_of c.args.nodes.now in
    let is : op_at plan c.args.number ≡ Some (op_of c.in-Some.op.now) = sym c.op_in.ensures ∙ ap (option_map (λ op. op_of op.now)) c.in-Some.is in
    MatchResult-weaker c.then_op.result c.then_op.ensures
    (λ found some. IfSome_then found some (λ next by_op. chooses_at (marked_folding c.args.folded.now) plan c.args.number (op_of c.in-Some.op.now) c.args.chosen next is by_op))
    (λ e none. none)
