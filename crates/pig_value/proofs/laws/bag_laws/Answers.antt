use Rattle.pig_value.specs.Orders.{row_cmp}
use Rattle.pig_value.proofs.OrderLaws.{row_total, row_same}
use Rattle.pig_value.proofs.list_laws.Bags.{permutation_from_bag, bag_from_permutation, times_from_permutation, one_order, sort_times, sort_ascends, bag_once}
use Rattle.pig_value.proofs.ValidLaws.{bag_is_value}
use Rattle.pig_value.proofs.laws.bag_laws.Goals as goal

pub returns : goal.returns
returns c = record {
  same_rows = λ xs ys. (permutation_from_bag row_cmp xs ys, bag_from_permutation row_cmp row_total row_same xs ys);
  as_often = λ xs ys. (λ h. times_from_permutation row_cmp xs ys (permutation_from_bag row_cmp xs ys h), one_order row_cmp row_total row_same xs ys);
  keeps = λ xs row. sort_times row_cmp row xs;
  ascends = sort_ascends row_cmp row_total;
  once = bag_once row_cmp row_total;
  value = bag_is_value;
}
