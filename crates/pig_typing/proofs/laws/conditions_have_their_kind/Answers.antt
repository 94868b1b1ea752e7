use Rattle.pig_typing.proofs.ConditionsHold.{condition_kind}
use Rattle.pig_typing.proofs.laws.conditions_have_their_kind.Goals as goal

pub returns : goal.returns
returns c = λ s a t w h. condition_kind s w a t h
