use Rattle.std.proofs.Common.{◌<◌, ℕ, arith, rules}
use Rattle.std.specs.Prelude.{get_or}
use Rattle.std.specs.Ordering.{is_lt}
use Rattle.std.proofs.lemmas.Fn.{always_returns_same}
use Rattle.std.proofs.lemmas.List.Sorted.{ranks_by}
use Rattle.pig_value.proofs.LeafLaws.{bytes_at}
use Rattle.pig_runs.specs.Packed.{fronted_at, fronted_entry_cmp}
use Rattle.pig_runs.proofs.ByFronts.{fronted_entry_total}
use Rattle.pig_runs.proofs.FrontedSlots.{slots_sorted}
use Rattle.pig_runs.proofs.packing.sort_slots.Goals as goal

pub returns-clause-order : goal.returns-clause-order
returns-clause-order c =
    let bytes = c.args.bytes.now in
    let small : (i : ℕ) → get_or bytes i 0 < 256 = λ i. let byte = c.type_inv.bytes i in omega (arith, byte) in
    slots_sorted bytes (bytes_at bytes small) c.args.slots.now.items c.sort_unstable_by.new.self.items c.requires c.sort_unstable_by.ensures.permutation
    (c.sort_unstable_by.ensures.sorted (λ x y. is_lt (fronted_entry_cmp (fronted_at bytes x) (fronted_at bytes y))) (ranks_by fronted_entry_total (fronted_at bytes))
    (always_returns_same _ _ _ (λ a r f k. search rules)))
