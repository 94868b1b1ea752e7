use Rattle.pig_typing.proofs.KindsHold.{holds}
use Rattle.pig_typing.proofs.laws.typings_have_their_kinds.Goals as goal

pub returns : goal.returns
returns c = record {
  kind = λ s a p w h. (holds s w a p h).kind;
  inside = λ s a p w h. (holds s w a p h).field;
}
