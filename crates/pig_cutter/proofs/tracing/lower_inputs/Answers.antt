use Rattle.std.proofs.Common.{◌<◌, sym, subst}
use Rattle.std.specs.List.{AllByRecursion}
use Rattle.std.proofs.lemmas.Result.{IfOk-weaker}
use Rattle.pig_plan.specs.Plans.{op_of, plan_of}
use Rattle.pig_cutter.proofs.Traced.{inputs_lower}
use Rattle.pig_cutter.proofs.tracing.lower_inputs.Goals as goal

pub returns-clause-lower : goal.returns-clause-lower
returns-clause-lower c =
    IfOk-weaker c.inputs.result _ (λ inputs. AllByRecursion (λ i. i < c.args.number) inputs)
    (λ inputs is. subst (AllByRecursion (λ i. i < c.args.number)) (sym is) (inputs_lower (plan_of c.args.nodes.now) c.requires.valid c.args.number (op_of c.args.op.now) c.requires.op))
    c.inputs.ensures
