use Rattle.std.proofs.Common.{rules}
use Rattle.std.specs.Ordering.{is_lt}
use Rattle.std.proofs.lemmas.Fn.{always_returns_same}
use Rattle.std.proofs.lemmas.List.Sorted.{ranks_by}
use Rattle.pig_value.proofs.list_laws.Bags.{bag_key}
use Rattle.pig_replicated.specs.Held.{keyed_of}
use Rattle.pig_replicated.specs.Holding.{keyed_cmp}
use Rattle.pig_replicated.proofs.Held.{keyed_same, keyed_total}
use Rattle.pig_replicated.proofs.building.sorted.Goals as goal

pub returns : goal.returns
returns c =
    bag_key keyed_cmp keyed_total keyed_same keyed_of c.args.held.items c.sort_unstable_by.new.self.items c.sort_unstable_by.ensures.permutation
    (c.sort_unstable_by.ensures.sorted (λ x y. is_lt (keyed_cmp (keyed_of x) (keyed_of y))) (ranks_by keyed_total keyed_of)
    (always_returns_same _ _ _ (λ a r f k. search rules)))
