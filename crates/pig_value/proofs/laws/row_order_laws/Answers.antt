use Rattle.std.proofs.Common.{◌≡◌, subst}
use Rattle.std.proofs.lemmas.Cmp.{tied_itself}
use Rattle.std.specs.declared.cmp.Ordering.TheVariants.{Equal}
use Rattle.pig_value.specs.Orders.{row_cmp}
use Rattle.pig_value.proofs.OrderLaws.{row_total, row_same}
use Rattle.pig_value.proofs.laws.row_order_laws.Goals as goal

pub returns : goal.returns
returns c = record {
  either_way = row_total.antisymm;
  transitive = row_total.trans;
  equal_is_same = λ a b. (row_same a b, λ e. subst (λ x. row_cmp a x ≡ Equal) e (tied_itself row_total a));
}
