use Rattle.pig_fitting.proofs.Parted.{parts_fit}
use Rattle.pig_fitting.proofs.laws.parts_fit.Goals as goal

pub returns : goal.returns
returns c = λ s valid w at t stands outs has wave part is.
    parts_fit c.function_laws.ensures.kinds s valid w at t stands outs has wave part is
