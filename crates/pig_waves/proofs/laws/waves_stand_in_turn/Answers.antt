use Rattle.pig_waves.proofs.Heads.{stands_at}
use Rattle.pig_waves.proofs.laws.waves_stand_in_turn.Goals as goal

pub returns : goal.returns
returns c = λ s k o at alive here other. stands_at s k o at alive here other
