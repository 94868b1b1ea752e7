use Rattle.std.proofs.Common.{◌≡◌, ◌++◌, map, sym, ◌∙◌, subst}
use Rattle.std.specs.Prelude.{OnOk}
use Rattle.std.specs.List.{AllByRecursion}
use Rattle.pig_value.specs.Sorts.{Ascends}
use Rattle.pig_runs.specs.Entries.{run_cmp}
use Rattle.pig_runs.specs.Packed.{found_at, packed, IsPlaced, Joins}
use Rattle.pig_runs.proofs.Joined.{joins_after}
use Rattle.pig_runs.proofs.builder.RunBuilder.join_to.Goals as goal

pub join_slots-requires : goal.join_slots-requires
join_slots-requires c =
    subst (λ b. AllByRecursion (IsPlaced b) c.as_slice.result.now) (sym c.as_slice-more.ensures.value)
    (subst (AllByRecursion (IsPlaced c.self.inside.bytes.items)) (sym c.as_slice.ensures.value) c.self.invariant)

pub returns : goal.returns
returns c es h =
    let told : map (packed c.self.inside.dirs) c.self.inside.held.0 ≡ map (found_at c.as_slice-more.result.now) c.as_slice.result.now =
    c.self.inside.held.1.1 ∙ (λ i. map (found_at (sym c.as_slice-more.ensures.value i)) (sym c.as_slice.ensures.value i))
    in
    let placed : AllByRecursion (IsPlaced c.as_slice-more.result.now) c.as_slice.result.now =
    subst (λ b. AllByRecursion (IsPlaced b) c.as_slice.result.now) (sym c.as_slice-more.ensures.value)
    (subst (AllByRecursion (IsPlaced c.self.inside.bytes.items)) (sym c.as_slice.ensures.value) c.self.invariant)
    in
    let up : ∥ Ascends (run_cmp c.self.inside.dirs) c.self.inside.held.0 ∥₁ = subst (λ b. ∥ Ascends (run_cmp b.dirs) b.entries ∥₁) (sym c.self.view_is) c.requires.sorted in
    subst (λ b. OnOk c.join_slots.result (Joins b.dirs (es ++ b.entries) c.join_slots.new.bytes.items (map (λ l. l.items) c.join_slots.new.lists.items))) c.self.view_is
    (joins_after c.self.inside.dirs c.self.inside.held.0 c.as_slice-more.result.now c.as_slice.result.now c.self.inside.held.1.0 told up placed c.join_slots.result es c.args.bytes.now.items
    c.join_slots.new.bytes.items (map (λ l. l.items) c.args.lists.now.items) (map (λ l. l.items) c.join_slots.new.lists.items)
    (subst (λ b. Joins b.dirs es c.args.bytes.now.items (map (λ l. l.items) c.args.lists.now.items)) (sym c.self.view_is) h) c.join_slots.ensures.bytes c.join_slots.ensures.lists)
