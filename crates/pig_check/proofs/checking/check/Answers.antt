use Rattle.std.proofs.Common.{subst, sym}
use Rattle.std.specs.declared.result.Result.TheVariants.{Ok, Err}
use Rattle.pig_plan.specs.Plans.{plan_of}
use Rattle.pig_check.specs.Scripts.{IsPlanOf, script_of}
use Rattle.pig_check.specs.States.{nothing_yet}
use Rattle.pig_check.specs.Views.{TellsState, state_tree}
use Rattle.pig_check.proofs.ScriptsTold.{plan_told, refusal_told}
use Rattle.pig_check.proofs.checking.check.Goals as goal

pub returns-in-Ok-clause-typed : goal.returns-in-Ok-clause-typed
returns-in-Ok-clause-typed c =
    let told = subst (λ ss. TellsState (script_of 1 nothing_yet ss) (Ok c.in-Ok.state)) c.as_slice.ensures c.in-Ok.ensures in
    subst (λ plan. IsPlanOf c.args.stmts.now (plan_of plan)) (sym c.plan_in.ensures) (plan_told c.args.stmts.now (state_tree c.in-Ok.state) told)

pub returns-in-Err-clause-refused : goal.returns-in-Err-clause-refused
returns-in-Err-clause-refused c =
    refusal_told c.args.stmts.now c.in-Err.fault (subst (λ ss. TellsState (script_of 1 nothing_yet ss) (Err c.in-Err.fault)) c.as_slice.ensures c.in-Err.ensures)
