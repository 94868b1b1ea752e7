use Rattle.std.proofs.Common.{rules, map}
use Rattle.std.specs.Ordering.{is_lt}
use Rattle.std.proofs.lemmas.Fn.{always_returns_same}
use Rattle.std.proofs.lemmas.List.Sorted.{ranks_by}
use Rattle.pig_value.specs.Trees.{tree}
use Rattle.pig_value.proofs.list_laws.Bags.{bag_key}
use Rattle.pig_typed.specs.Blocks.{keys_cmp}
use Rattle.pig_nested.proofs.SortedLaws.{keys_same, keys_total}
use Rattle.pig_nested.proofs.sorting.sorted.Goals as goal

pub returns : goal.returns
returns c =
    bag_key (keys_cmp c.args.keys.now) (keys_total c.args.keys.now) (keys_same c.args.keys.now) (map tree) c.args.rows.items c.sort_unstable_by.new.self.items c.sort_unstable_by.ensures.permutation
    (c.sort_unstable_by.ensures.sorted (λ x y. is_lt (keys_cmp c.args.keys.now (map tree x) (map tree y))) (ranks_by (keys_total c.args.keys.now) (map tree))
    (always_returns_same _ _ _ (λ a r f k. search rules)))
