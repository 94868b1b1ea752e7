use Rattle.std.proofs.Common.{◌≡◌, map, subst}
use Rattle.std.specs.List.{flat_map}
use Rattle.pig_value.specs.Sorts.{sort}
use Rattle.pig_runs.specs.Entries.{run_cmp}
use Rattle.pig_runs.specs.Packed.{packed_cmp}
use Rattle.pig_runs.specs.Places.{found_in_all, found_place}
use Rattle.pig_runs.specs.RunParts.{part_entries}
use Rattle.pig_runs.proofs.Stretched.{merged_held, merged_stands}
use Rattle.pig_runs.proofs.merged.merge_lent.Goals as goal

pub from_places-requires : goal.from_places-requires
from_places-requires c =
    let stretches = c.in_ok-stretches.stretches.items in
    merged_held c.args.dirs (flat_map part_entries c.args.parts.now) (found_in_all stretches) (map (found_place stretches) c.in_ok-places.places.items) (c.in_ok-stretches.ensures.stand c.args.dirs c.requires.alike)
    (subst (λ l. map (found_place l) c.in_ok-places.places.items ≡ sort packed_cmp (found_in_all l)) c.as_slice-2.ensures.value c.in_ok-places.ensures)

pub returns : goal.returns
returns c =
    let stretches = c.in_ok-stretches.stretches.items in
    c.from_places.ensures (sort (run_cmp c.args.dirs) (flat_map part_entries c.args.parts.now))
    (merged_stands c.args.dirs (flat_map part_entries c.args.parts.now) (found_in_all stretches) (map (found_place stretches) c.in_ok-places.places.items) (c.in_ok-stretches.ensures.stand c.args.dirs c.requires.alike)
    (subst (λ l. map (found_place l) c.in_ok-places.places.items ≡ sort packed_cmp (found_in_all l)) c.as_slice-2.ensures.value c.in_ok-places.ensures))
