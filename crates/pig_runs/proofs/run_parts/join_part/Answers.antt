use Rattle.std.proofs.Common.{◌≡◌, ◌++◌, map, sym, subst}
use Rattle.std.specs.Prelude.{OnOk}
use Rattle.pig_value.specs.Sorts.{Ascends}
use Rattle.pig_runs.specs.Entries.{run_cmp}
use Rattle.pig_runs.specs.Packed.{Joins}
use Rattle.pig_runs.specs.RunParts.{part_run}
use Rattle.pig_runs.proofs.PartJoined.{part_seen}
use Rattle.pig_runs.proofs.Sliced.{slice_ascends}
use Rattle.pig_runs.proofs.run_parts.join_part.Goals as goal

pub join_to-requires-2 : goal.join_to-requires-2
join_to-requires-2 c = record {
  sorted = ∣ slice_ascends c.as_builder-entries.result.now.dirs c.as_builder-entries.result.now.entries c.args.part.now.from c.args.part.now.end c.in_ok-copy.copy
      (subst (λ r. ∥ Ascends (run_cmp r.dirs) r.entries ∥₁) (sym c.as_builder-entries.ensures.is) c.as_builder-entries.ensures.sorted) c.in_ok-copy.ensures ∣₁;
}

pub returns : goal.returns
returns c es h =
    let same : c.in_ok-copy.copy ≡ part_run c.args.part.now = part_seen c.args.part.now c.as_builder-entries.result.now c.in_ok-copy.copy c.as_builder-entries.ensures.is c.in_ok-copy.ensures in
    subst (λ b. OnOk c.join_to-2.result (Joins b.dirs (es ++ b.entries) c.join_to-2.new.bytes.items (map (λ l. l.items) c.join_to-2.new.lists.items))) same
    (c.join_to-2.ensures es (subst (λ b. Joins b.dirs es c.args.bytes.now.items (map (λ l. l.items) c.args.lists.now.items)) (sym same) h))
