-- The stretches of the parts so far.
use Rattle.std.proofs.Common.{◌≡◌, List, take}
use Rattle.std.specs.List.{AllByRecursion, flat_map}
use Rattle.pig_value.specs.declared.operators.Dir.{Dir}
use Rattle.pig_runs.specs.Packed.{Stand}
use Rattle.pig_runs.specs.Places.{AreStretches, found_in_all}
use Rattle.pig_runs.specs.RunParts.{part_entries}
use Rattle.pig_runs.proofs.merged.stretches_of.Given as goal

abbrev pub invariant-loop-part : goal.invariant-loop-part
invariant-loop-part l =
    AreStretches l.found.items
    × ((ds : List Dir) → AllByRecursion (λ part. part.run.now.dirs ≡ ds) l.parts → Stand ds (flat_map part_entries (take l.part-index l.parts)) (found_in_all l.found.items))
