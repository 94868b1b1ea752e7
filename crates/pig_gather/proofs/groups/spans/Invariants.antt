-- The entries of the inputs so far, and those that remain.
use Rattle.std.proofs.Common.{◌≡◌, map}
use Rattle.std.specs.List.{AllByRecursion, range_with_len}
use Rattle.pig_operators.specs.Groups.{bags_at}
use Rattle.pig_operators.proofs.Inputs.{Remains}
use Rattle.pig_gather.specs.Spans.{IsSpan, rows_in}
use Rattle.pig_gather.proofs.groups.spans.Given as goal

abbrev pub invariant-loop-input : goal.invariant-loop-input
invariant-loop-input l =
    Remains l.group.entries.now.entries l.group.from l.at l.group.end l.input
    × AllByRecursion (IsSpan l.group.entries.now) l.spans.items
    × (map (rows_in l.group.entries.now) l.spans.items ≡ map (bags_at l.group.entries.now l.group.from l.group.end) (range_with_len 0 l.input))
