use Rattle.pig_fitting.proofs.Loads.{loads_fit}
use Rattle.pig_fitting.proofs.laws.loads_fit.Goals as goal

pub returns : goal.returns
returns c = λ plan valid k path delim columns at lines. loads_fit plan valid k path delim columns at lines
