use Rattle.std.proofs.Common.{rules, ℕ, ap, sym, ◌∙◌}
use Rattle.std.specs.FinMap.{nat_cmp-IsAntisymmetric}
use Rattle.std.specs.Ordering.{is_lt, nat_cmp}
use Rattle.std.proofs.lemmas.Cmp.{nat_cmp_total}
use Rattle.std.proofs.lemmas.Fn.{always_returns_same}
use Rattle.std.proofs.lemmas.List.{map-id}
use Rattle.std.proofs.lemmas.List.Sorted.{ranks_by}
use Rattle.pig_value.specs.Sorts.{sort}
use Rattle.pig_value.proofs.list_laws.Bags.{bag_key}
use Rattle.pig_map.proofs.unmet.sorted.Goals as goal

pub returns : goal.returns
returns c =
    sym (map-id c.sort_unstable_by.new.self.items)
    ∙ bag_key nat_cmp nat_cmp_total nat_cmp-IsAntisymmetric (λ (x : ℕ). x) c.args.numbers.items c.sort_unstable_by.new.self.items
    c.sort_unstable_by.ensures.permutation
    (c.sort_unstable_by.ensures.sorted (λ x y. is_lt (nat_cmp x y)) (ranks_by nat_cmp_total (λ (x : ℕ). x))
    (always_returns_same _ _ _ (λ a r f k. search rules)))
    ∙ ap (sort nat_cmp) (map-id c.args.numbers.items)
