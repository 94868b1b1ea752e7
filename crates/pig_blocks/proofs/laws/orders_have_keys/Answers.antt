use Rattle.pig_blocks.proofs.BlockKinds.{order_keys, order_some}
use Rattle.pig_blocks.proofs.laws.orders_have_keys.Goals as goal

pub returns : goal.returns
returns c = record {
  keys = λ columns order ks h. order_keys columns order ks h;
  some = λ columns order ks h. order_some columns order ks h;
}
