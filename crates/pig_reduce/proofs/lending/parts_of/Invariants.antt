-- The parts so far, and the entries of the outputs that are left.
use Rattle.std.proofs.Common.{◌≡◌, ◌≤◌, List, ◌++◌, drop, length, map}
use Rattle.std.specs.List.{AllByRecursion, flat_map}
use Rattle.pig_value.specs.declared.operators.Dir.{Dir}
use Rattle.pig_runs.specs.RunParts.{part_entries}
use Rattle.pig_physical.specs.Handed.{out_of}
use Rattle.pig_physical.specs.Outs.{entries_at}
use Rattle.pig_reduce.specs.Made.{HasDirs}
use Rattle.pig_reduce.proofs.lending.parts_of.Given as goal

abbrev pub invariant-loop-out : goal.invariant-loop-out
invariant-loop-out l =
    (flat_map part_entries l.parts.items ++ flat_map (entries_at l.part) (map out_of (drop l.out-index l.outs)) ≡ flat_map (entries_at l.part)
    (map out_of l.outs))
    × (AllByRecursion (λ p. p.end ≤ length p.run.now.entries) l.parts.items
    × ((ds : List Dir) → AllByRecursion (HasDirs ds l.part) (map out_of l.outs) → AllByRecursion (λ p. p.run.now.dirs ≡ ds) l.parts.items))
