use Rattle.pig_fitting.proofs.Formed.{map_forms_fit}
use Rattle.pig_fitting.proofs.laws.map_forms_fit.Goals as goal

pub returns : goal.returns
returns c = λ s valid w at t stands o found outs copies rows given form is.
    map_forms_fit c.function_laws.ensures.kinds c.parts_make_the_rows.ensures.row s valid w at t stands o found outs copies rows given form is
