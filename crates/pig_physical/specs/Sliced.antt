-- The slices of a sorted run.
use Rattle.std.specs.Prelude.{ℕ, List, map, take, drop}
use Rattle.std.specs.List.{range_with_len}
use Rattle.pig_runs.specs.Cutting.{Point, slice_of}
use Rattle.pig_runs.specs.Entries.{InDirections}
use Rattle.pig_physical.specs.declared.slicing.Stretch.{Stretch}

-- the entries of a run from a place on, up to another, as a run
abbrev pub slice_seen : InDirections → Stretch → InDirections
slice_seen run stretch = record { dirs = run.dirs; entries = drop stretch.from (take stretch.end run.entries) }

-- the slices of a run between points
abbrev pub slices_of : InDirections → List Point → ℕ → List InDirections
slices_of run points count =
    map (λ p. record { dirs = run.dirs; entries = slice_of run.dirs points p run.entries }) (range_with_len 0 count)
