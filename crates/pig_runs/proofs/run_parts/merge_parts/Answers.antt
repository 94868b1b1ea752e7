use Rattle.std.proofs.Common.{◌≤◌, length, map, refl, ◌∙◌}
use Rattle.std.specs.List.{flat_map}
use Rattle.std.proofs.lemmas.Option.{slice_get_read}
use Rattle.pig_value.specs.Sorts.{sort}
use Rattle.pig_value.proofs.list_laws.Listing.{each_at}
use Rattle.pig_runs.specs.Entries.{run_cmp}
use Rattle.pig_runs.specs.Packed.{found_at}
use Rattle.pig_runs.specs.RunParts.{part_entries}
use Rattle.pig_runs.proofs.PartJoined.{one_part_joined, parts_merged}
use Rattle.pig_runs.proofs.Sliced.{held_stand}
use Rattle.pig_runs.proofs.SortedSlots.{ascends_run}
use Rattle.pig_runs.proofs.run_parts.merge_parts.Goals as goal

pub join_part-requires : goal.join_part-requires
join_part-requires c =
    each_at (λ p. p.end ≤ length p.run.now.entries) c.args.parts.now c.loop-part.part-index c.part-item.result
    (slice_get_read c.args.parts.now (length c.args.parts.now) c.loop-part.part-index c.part-item.result refl c.loop-part-test.true c.part-item.is) c.requires.within

pub loop-part-preserved : goal.loop-part-preserved
loop-part-preserved c =
    one_part_joined c.args.dirs c.args.parts.now c.loop-part.part-index c.part-item.result c.loop-part.bytes.items c.join_part.new.bytes.items
    (map (λ l. l.items) c.loop-part.lists.items) (map (λ l. l.items) c.join_part.new.lists.items) c.requires.alike
    c.loop-part-test.true c.part-item.is c.loop-part.invariant c.in_ok-join_part.ensures

pub from_slots-requires-clause-held : goal.from_slots-requires-clause-held
from_slots-requires-clause-held c =
    held_stand c.args.dirs (sort (run_cmp c.args.dirs) (flat_map part_entries c.args.parts.now)) (map (found_at c.loop-part.bytes.items) c.in_ok-slots.slots.items)
    (parts_merged c.args.dirs c.args.parts.now c.loop-part.part-index c.loop-part.bytes.items c.as_slice.result.now (map (λ l. l.items) c.loop-part.lists.items)
    c.in_ok-slots.slots.items c.loop-part.invariant c.loop-part-test.false c.as_slice.ensures.value c.in_ok-slots.ensures.order)

pub from_sorted-requires : goal.from_sorted-requires
from_sorted-requires c =
    ascends_run c.from_slots.result c.args.dirs (flat_map part_entries c.args.parts.now)
    (c.from_slots.ensures (sort (run_cmp c.args.dirs) (flat_map part_entries c.args.parts.now))
    (parts_merged c.args.dirs c.args.parts.now c.loop-part.part-index c.loop-part.bytes.items c.as_slice.result.now (map (λ l. l.items) c.loop-part.lists.items)
    c.in_ok-slots.slots.items c.loop-part.invariant c.loop-part-test.false c.as_slice.ensures.value c.in_ok-slots.ensures.order))

pub returns : goal.returns
returns c =
    c.from_sorted.ensures
    ∙ c.from_slots.ensures (sort (run_cmp c.args.dirs) (flat_map part_entries c.args.parts.now))
    (parts_merged c.args.dirs c.args.parts.now c.loop-part.part-index c.loop-part.bytes.items c.as_slice.result.now (map (λ l. l.items) c.loop-part.lists.items)
    c.in_ok-slots.slots.items c.loop-part.invariant c.loop-part-test.false c.as_slice.ensures.value c.in_ok-slots.ensures.order)
