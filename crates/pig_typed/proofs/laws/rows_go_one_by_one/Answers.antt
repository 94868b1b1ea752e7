use Rattle.std.proofs.lemmas.List.Concat.{flat_map-append}
use Rattle.pig_value.specs.Orders.{row_cmp}
use Rattle.pig_value.proofs.OrderLaws.{row_total, row_same}
use Rattle.pig_value.proofs.list_laws.Bags.{bag_from_permutation, permutation_from_bag}
use Rattle.pig_value.proofs.list_laws.Permutations.{IsPermutation-flat_map}
use Rattle.pig_typed.specs.Blocks.{foreach_all, foreach_rows}
use Rattle.pig_typed.proofs.laws.rows_go_one_by_one.Goals as goal

pub returns : goal.returns
returns c = record {
  in_turn = λ block rows more. flat_map-append (foreach_rows block) rows more;
  permuted = λ block rows others h. IsPermutation-flat_map (foreach_rows block) rows others h;
  as_bags = λ block rows others h.
      bag_from_permutation row_cmp row_total row_same (foreach_all block rows) (foreach_all block others)
      (IsPermutation-flat_map (foreach_rows block) rows others (permutation_from_bag row_cmp rows others h));
}
