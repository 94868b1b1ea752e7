use Rattle.std.proofs.Common.{◌∙◌, sym, subst}
use Rattle.pig_value.specs.Sorts.{Ascends}
use Rattle.pig_runs.specs.Entries.{run_cmp}
use Rattle.pig_runs.proofs.Sliced.{slice_ascends, slice_seen}
use Rattle.pig_runs.proofs.cutting.slice.Goals as goal

pub from_sorted-requires : goal.from_sorted-requires
from_sorted-requires c =
    slice_ascends c.as_builder-entries.result.now.dirs c.as_builder-entries.result.now.entries c.count_before-from.result c.count_below-end.result c.in_ok-slice.slice
    (subst (λ r. ∥ Ascends (run_cmp r.dirs) r.entries ∥₁) (sym c.as_builder-entries.ensures.is) c.as_builder-entries.ensures.sorted) c.in_ok-slice.ensures

pub returns : goal.returns
returns c =
    c.from_sorted.ensures
    ∙ slice_seen c.args.run.now c.as_builder-entries.result.now c.in_ok-slice.slice c.args.points.now.points c.args.part c.count_before-from.result c.count_below-end.result c.in_ok-slice.ensures c.as_builder-entries.ensures.is
    c.count_below-end.ensures.parts c.count_before-from.ensures
