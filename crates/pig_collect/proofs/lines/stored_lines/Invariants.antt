use Rattle.std.proofs.Common.{◌≡◌, ◌+◌, false, length}
use Rattle.std.specs.List.{count_by}
use Rattle.pig_value.specs.Lines.{is_lf}
use Rattle.pig_collect.specs.Collecting.{joined}
use Rattle.pig_collect.specs.Tallies.{open_after}
use Rattle.pig_collect.proofs.lines.stored_lines.Given as goal

abbrev pub invariant-loop-left : goal.invariant-loop-left
invariant-loop-left l = record {
  count : l.count + count_by is_lf (joined l.left) ≡ count_by is_lf (joined l.parts);
  tail : open_after l.is_open (joined l.left) ≡ open_after false (joined l.parts);
}

abbrev pub decreases-loop-left : goal.decreases-loop-left
decreases-loop-left l = length l.left
