use Rattle.std.proofs.Common.{rules, map}
use Rattle.std.specs.Ordering.{is_lt}
use Rattle.std.proofs.lemmas.Fn.{always_returns_same}
use Rattle.std.proofs.lemmas.List.Sorted.{ranks_by, IsPermutation-trans}
use Rattle.pig_value.specs.Trees.{tree}
use Rattle.pig_value.specs.Orders.{row_cmp}
use Rattle.pig_value.proofs.OrderLaws.{row_total, row_same}
use Rattle.pig_value.proofs.list_laws.Bags.{bag_key}
use Rattle.pig_value.proofs.sorting.sorted.Goals as goal

pub returns : goal.returns
returns c =
    bag_key row_cmp row_total row_same (map tree) c.args.rows.items c.sort_unstable_by.new.self.items
    (IsPermutation-trans c.args.rows.items c.bring_near.new.rows.items c.sort_unstable_by.new.self.items c.bring_near.ensures c.sort_unstable_by.ensures.permutation)
    (c.sort_unstable_by.ensures.sorted (λ x y. is_lt (row_cmp (map tree x) (map tree y))) (ranks_by row_total (map tree))
    (always_returns_same _ _ _ (λ a r f k. search rules)))
