use Rattle.std.proofs.Common.{◌≡◌, subst}
use Rattle.std.proofs.lemmas.Cmp.{tied_itself}
use Rattle.std.specs.declared.cmp.Ordering.TheVariants.{Equal}
use Rattle.pig_value.specs.Orders.{tree_cmp}
use Rattle.pig_value.proofs.OrderLaws.{tree_total, tree_same}
use Rattle.pig_value.proofs.laws.order_laws.Goals as goal

pub returns : goal.returns
returns c = record {
  either_way = tree_total.antisymm;
  transitive = tree_total.trans;
  equal_is_same = λ a b. (tree_same a b, λ e. subst (λ x. tree_cmp a x ≡ Equal) e (tied_itself tree_total a));
}
