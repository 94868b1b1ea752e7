use Rattle.std.proofs.Common.{◌≡◌, ◌<◌, ℕ, List, map, arith, rules}
use Rattle.std.specs.Prelude.{get_or, IfOk}
use Rattle.std.specs.List.{AllByRecursion}
use Rattle.std.proofs.lemmas.List.Sorted.{ranks_by}
use Rattle.pig_value.proofs.LeafLaws.{bytes_at}
use Rattle.pig_value.proofs.list_laws.Listing.{each_weaker}
use Rattle.pig_value.specs.Sorts.{sort}
use Rattle.pig_runs.specs.declared.slots.Slot.{Slot}
use Rattle.pig_runs.specs.Packed.{found_at, fronted_at, joined, packed_cmp, IsPart, IsPlaced}
use Rattle.pig_runs.proofs.ByFronts.{before, fronted_entry_total}
use Rattle.pig_runs.proofs.FrontedSlots.{one_order}
use Rattle.pig_runs.proofs.KWay.{IsList, came, lists_sorted, merged_is, sources}
use Rattle.pig_runs.proofs.joining.merge_slots.Goals as goal

merged : (c : goal.After-collect_vec)
    → IfOk c.collect_vec.result (λ v. map (found_at c.args.bytes.now) v.items ≡ sort packed_cmp (map (found_at c.args.bytes.now) (joined (map (λ l. l.items) c.args.lists.items))))
    × IfOk c.collect_vec.result (λ v. AllByRecursion (IsPlaced c.args.bytes.now) v.items)
merged c =
    let bytes = c.args.bytes.now in
    let small : (i : ℕ) → get_or bytes i 0 < 256 = λ i. let byte = c.type_inv.bytes i in omega (arith, byte) in
    let order = one_order bytes (bytes_at bytes small) in
    let lists : List (List Slot) = map (λ l. l.items) c.args.lists.items in
    let given = c.in_ok-merged.ensures.items in
    let ordered = c.in_ok-merged.ensures.in_order in
    let parts : AllByRecursion (IsList (fronted_at bytes) (found_at bytes) (IsPlaced bytes) order) lists =
    each_weaker (IsPart bytes) (IsList (fronted_at bytes) (found_at bytes) (IsPlaced bytes) order) (λ list h. record { good = h.placed; sorted = h.sorted }) lists c.requires
    in
    merged_is (fronted_at bytes) (found_at bytes) (IsPlaced bytes) order _ c.in_ok-merged.merged c.collect_vec.result lists parts
    (given.3 lists (sources given.0.items c.args.lists.items (came given.0 c.into_iter.result c.args.lists.items given.1 given.2 c.into_iter.ensures.rest) (λ u j g. g.0)))
    (ordered.3 (before (fronted_at bytes) (found_at bytes) (IsPlaced bytes) order) (λ x y r q k. search rules) (ranks_by fronted_entry_total (fronted_at bytes)) lists
    (sources ordered.0.items c.args.lists.items (came ordered.0 c.into_iter.result c.args.lists.items ordered.1 ordered.2 c.into_iter.ensures.rest) (λ u j g. g.0))
    (lists_sorted (fronted_at bytes) (found_at bytes) (IsPlaced bytes) order lists parts))
    c.collect_vec.ensures.runs

pub returns-clause-order : goal.returns-clause-order
returns-clause-order c = (merged c).0

pub returns-clause-placed : goal.returns-clause-placed
returns-clause-placed c = (merged c).1
