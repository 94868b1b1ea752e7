use Rattle.pig_typing.proofs.ConditionsHold.{key_kinds, key_columns}
use Rattle.pig_typing.proofs.laws.keys_have_their_kinds.Goals as goal

pub returns : goal.returns
returns c = record {
  kind = λ s es ps w h. key_kinds s w es ps h;
  inside = λ s es ps w h. key_columns s w es ps h;
}
