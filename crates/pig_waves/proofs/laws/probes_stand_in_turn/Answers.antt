use Rattle.pig_waves.proofs.Heads.{probes_at}
use Rattle.pig_waves.proofs.laws.probes_stand_in_turn.Goals as goal

pub returns : goal.returns
returns c = λ s k o at alive replicated. probes_at s k o at alive replicated
