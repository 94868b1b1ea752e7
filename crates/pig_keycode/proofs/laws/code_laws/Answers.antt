use Rattle.pig_keycode.proofs.Turned.{whole_order, turned_order, turned_followed, no_prefix, one_value}
use Rattle.pig_keycode.proofs.CodeOrder.{code_order}
use Rattle.pig_keycode.proofs.KeyOrder.{key_order, one_key}
use Rattle.pig_keycode.proofs.Wholes.{one_decoded}
use Rattle.pig_keycode.proofs.laws.code_laws.Goals as goal

pub returns : goal.returns
returns c = record {
  ascending = whole_order;
  descending = turned_order;
  ascending_before = λ a b s t h k. code_order a b h k s t;
  descending_before = turned_followed;
  keys_before = λ ds a b s t h k. key_order ds a b h k s t;
  no_prefix = no_prefix;
  one_value = one_value;
  one_key = one_key;
  round_trip = one_decoded;
}
