use Rattle.std.proofs.Common.{map, sym, ◌∙◌, subst}
use Rattle.pig_value.specs.Sorts.{sort}
use Rattle.pig_runs.specs.Entries.{entries_of_all, run_cmp}
use Rattle.pig_runs.specs.Packed.{found_at}
use Rattle.pig_runs.proofs.Sliced.{held_stand}
use Rattle.pig_runs.proofs.SortedSlots.{ascends_run}
use Rattle.pig_runs.specs.Cutting.{HaveDirections}
use Rattle.pig_runs.proofs.Joined.{all_merged, one_run_joined}
use Rattle.pig_runs.proofs.sorting.merge.Goals as goal

pub loop-run-preserved : goal.loop-run-preserved
loop-run-preserved c =
    one_run_joined c.args.dirs c.as_slice-run-items.result.now c.loop-run.run-index c.run-item.result c.as_builder.result.now c.loop-run.bytes.items c.join_to.new.bytes.items
    (map (λ l. l.items) c.loop-run.lists.items) (map (λ l. l.items) c.join_to.new.lists.items) (subst (HaveDirections c.args.dirs) (sym c.as_slice-run-items.ensures) c.requires)
    c.loop-run-test.true c.run-item.is c.as_builder.ensures.is c.loop-run.invariant c.in_ok-join_to.ensures

pub from_slots-requires-clause-held : goal.from_slots-requires-clause-held
from_slots-requires-clause-held c =
    held_stand c.args.dirs (sort (run_cmp c.args.dirs) (entries_of_all c.args.runs)) (map (found_at c.loop-run.bytes.items) c.in_ok-slots.slots.items)
    (all_merged c.args.dirs c.args.runs c.as_slice-run-items.result.now c.loop-run.run-index c.loop-run.bytes.items c.as_slice.result.now (map (λ l. l.items) c.loop-run.lists.items)
    c.in_ok-slots.slots.items c.loop-run.invariant c.loop-run-test.false c.as_slice-run-items.ensures c.as_slice.ensures.value c.in_ok-slots.ensures.order)

pub from_sorted-requires : goal.from_sorted-requires
from_sorted-requires c =
    ascends_run c.from_slots.result c.args.dirs (entries_of_all c.args.runs)
    (c.from_slots.ensures (sort (run_cmp c.args.dirs) (entries_of_all c.args.runs))
    (all_merged c.args.dirs c.args.runs c.as_slice-run-items.result.now c.loop-run.run-index c.loop-run.bytes.items c.as_slice.result.now (map (λ l. l.items) c.loop-run.lists.items)
    c.in_ok-slots.slots.items c.loop-run.invariant c.loop-run-test.false c.as_slice-run-items.ensures c.as_slice.ensures.value c.in_ok-slots.ensures.order))

pub returns : goal.returns
returns c =
    c.from_sorted.ensures
    ∙ c.from_slots.ensures (sort (run_cmp c.args.dirs) (entries_of_all c.args.runs))
    (all_merged c.args.dirs c.args.runs c.as_slice-run-items.result.now c.loop-run.run-index c.loop-run.bytes.items c.as_slice.result.now (map (λ l. l.items) c.loop-run.lists.items)
    c.in_ok-slots.slots.items c.loop-run.invariant c.loop-run-test.false c.as_slice-run-items.ensures c.as_slice.ensures.value c.in_ok-slots.ensures.order)
