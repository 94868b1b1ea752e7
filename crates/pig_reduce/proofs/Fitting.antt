-- What a reduce task hands on fits it.
use Rattle.std.proofs.Common.{◌≡◌, ◌+◌, List, subst}
use Rattle.std.specs.Prelude.{Some}
use Rattle.pig_plan.specs.Nodes.{op_at}
use Rattle.pig_plan.specs.Plans.{PlanOp}
use Rattle.pig_plan.specs.Valid.{IsPlan}
use Rattle.pig_physical.specs.Fitting.{Fits, HasWave}
use Rattle.pig_physical.specs.Outs.{Outs, TaskOut, outs_at}
use Rattle.pig_physical.specs.Seen.{IsTaskOf}
use Rattle.pig_physical.specs.Stages.{Stages, t_reduce}
use Rattle.pig_physical.specs.Values.{IsReduceForm}
use Rattle.pig_physical.specs.declared.parts.ReduceTask.{ReduceTask}
use Rattle.pig_physical.specs.declared.parts.Task.TheVariants as declared
use Rattle.pig_fitting.specs.Laws.{ReduceFormFits}
use Rattle.pig_reduce.specs.Made.{IsReduced}

pub reduced_fits : ReduceFormFits → (s : Stages) → IsPlan s.plan → (outs : Outs) (t : ReduceTask) → IsTaskOf s (t.wave + 1) (declared.Reduce t)
    → HasWave s outs t
    → (o : PlanOp) → op_at s.plan t.node ≡ Some o → (found : List TaskOut) → found ≡ outs_at outs t.wave → (out : TaskOut)
    → IsReduced s t.node o found t.part out → Fits s (t_reduce t) out
reduced_fits law s valid outs t task wave o op found is out h =
    law s valid (t.wave + 1) task.at t task.stands o op outs wave out.form
    (subst (λ list. IsReduceForm s t.node o list t.part out.form) is h.form)
