-- The entries of the parts so far.
use Rattle.std.proofs.Common.{map, take}
use Rattle.std.specs.List.{flat_map}
use Rattle.pig_runs.specs.Packed.{Joins}
use Rattle.pig_runs.specs.RunParts.{part_entries}
use Rattle.pig_runs.proofs.run_parts.merge_parts.Given as goal

abbrev pub invariant-loop-part : goal.invariant-loop-part
invariant-loop-part l = Joins l.fn.dirs (flat_map part_entries (take l.part-index l.parts)) l.bytes.items (map (λ list. list.items) l.lists.items)
