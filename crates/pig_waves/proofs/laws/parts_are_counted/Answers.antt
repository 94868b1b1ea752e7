use Rattle.pig_waves.proofs.Counted.{parts_counted, probes_counted}
use Rattle.pig_waves.proofs.laws.parts_are_counted.Goals as goal

pub returns-clause-parts : goal.returns-clause-parts
returns-clause-parts c = λ s valid k. parts_counted s valid k

pub returns-clause-probes : goal.returns-clause-probes
returns-clause-probes c = λ s valid k o at replicated. probes_counted s k valid o replicated
