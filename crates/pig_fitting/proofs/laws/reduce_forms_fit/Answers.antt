use Rattle.pig_fitting.proofs.Brought.{reduce_forms_fit}
use Rattle.pig_fitting.proofs.laws.reduce_forms_fit.Goals as goal

pub returns : goal.returns
returns c = λ s valid w at t stands o found outs has form is.
    reduce_forms_fit c.function_laws.ensures.kinds s valid w at t stands o found outs has form is
