use Rattle.std.proofs.Common.{◌≡◌, ◌++◌, map}
use Rattle.std.specs.List.{range_with_len}
use Rattle.pig_cuts.specs.Plans.{behind, whole_field}
use Rattle.pig_prune.proofs.cutting.add_all_behind.Given as goal

abbrev pub invariant-loop-position : goal.invariant-loop-position
invariant-loop-position l = l.kept ≡ l.initial.kept ++ map (behind l.first) (map whole_field (range_with_len 0 l.position))
