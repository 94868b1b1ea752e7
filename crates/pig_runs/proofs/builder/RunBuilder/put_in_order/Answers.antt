use Rattle.std.proofs.Common.{◌≡◌, map, subst, sym}
use Rattle.pig_value.specs.Sorts.{sort}
use Rattle.pig_runs.specs.Packed.{found_at, packed_cmp}
use Rattle.pig_runs.proofs.SortedSlots.{held_sorted, placed_sorted, seen_sorted}
use Rattle.pig_runs.proofs.builder.RunBuilder.put_in_order.Goals as goal

pub invariant_of-self-inside : goal.invariant_of-self-inside
invariant_of-self-inside c = (
  held_sorted c.self.inside.dirs c.self.inside.bytes.items c.self.inside.bytes.items c.self.inside.slots.items c.sort_slots.new.slots.items c.self.inside.held
      (subst (λ bs. map (found_at bs) c.sort_slots.new.slots.items ≡ sort packed_cmp (map (found_at bs) c.self.inside.slots.items)) c.as_slice.ensures.value c.sort_slots.ensures.order),
  tt,
)

pub invariant_of-self : goal.invariant_of-self
invariant_of-self c = placed_sorted c.self.inside.bytes.items c.self.inside.slots.items c.sort_slots.new.slots.items c.sort_slots.ensures.same c.self.invariant

pub returns : goal.returns
returns c =
    seen_sorted c.self.inside.dirs c.self.inside.bytes.items c.self.inside.bytes.items c.self.inside.slots.items c.sort_slots.new.slots.items c.self.inside.held
    (subst (λ bs. map (found_at bs) c.sort_slots.new.slots.items ≡ sort packed_cmp (map (found_at bs) c.self.inside.slots.items)) c.as_slice.ensures.value c.sort_slots.ensures.order)
    c.self-1.given.0 c.args.self.now (sym c.self.view_is)
