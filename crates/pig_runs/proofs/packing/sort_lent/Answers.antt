use Rattle.std.proofs.Common.{rules}
use Rattle.std.specs.Ordering.{is_lt}
use Rattle.std.proofs.lemmas.Fn.{always_returns_same}
use Rattle.std.proofs.lemmas.List.Sorted.{ranks_by}
use Rattle.pig_value.proofs.list_laws.Bags.{bag_key}
use Rattle.pig_runs.specs.Packed.{packed_lent, packed_cmp}
use Rattle.pig_runs.proofs.Order.{packed_total, packed_same}
use Rattle.pig_runs.proofs.packing.sort_lent.Goals as goal

pub returns : goal.returns
returns c =
    bag_key packed_cmp packed_total packed_same packed_lent c.args.all.now.items c.sort_unstable_by.new.self.items c.sort_unstable_by.ensures.permutation
    (c.sort_unstable_by.ensures.sorted (λ x y. is_lt (packed_cmp (packed_lent x) (packed_lent y))) (ranks_by packed_total packed_lent)
    (always_returns_same _ _ _ (λ a r f k. search rules)))
