use Rattle.pig_stream.proofs.Ranged.{lf_found, lf_nowhere}
use Rattle.pig_stream.proofs.window.place_of_lf.Goals as goal

pub returns-in-Some-clause-is : goal.returns-in-Some-clause-is
returns-in-Some-clause-is c = lf_found c.args.bytes.now c.in-Some.at c.in-Some.ensures.0 c.in-Some.ensures.1

pub returns-in-None-clause-is : goal.returns-in-None-clause-is
returns-in-None-clause-is c = lf_nowhere c.args.bytes.now c.in-None.ensures
