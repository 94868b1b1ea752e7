use Rattle.std.proofs.Common.{◌≡◌, map}
use Rattle.std.specs.List.{range_with_len}
use Rattle.pig_needs.specs.Needed.{is_named}
use Rattle.pig_needs.proofs.marks.column_marks.Given as goal

abbrev pub invariant-loop-position : goal.invariant-loop-position
invariant-loop-position l = l.marks ≡ map (is_named l.need) (range_with_len 0 l.position)
