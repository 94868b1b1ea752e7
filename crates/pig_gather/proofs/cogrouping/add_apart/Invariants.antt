-- The entries that remain, and the rows so far.
use Rattle.std.proofs.Common.{◌≡◌}
use Rattle.pig_packed.specs.Growth.{and_rows}
use Rattle.pig_operators.specs.Groups.{apart_rows, bags_at, first_key}
use Rattle.pig_operators.proofs.Inputs.{Remains}
use Rattle.pig_gather.proofs.cogrouping.add_apart.Given as goal

abbrev pub invariant-loop-input : goal.invariant-loop-input
invariant-loop-input l =
    Remains l.group.entries.now.entries l.group.from l.at l.group.end l.input
    × (l.built ≡ and_rows (apart_rows l.inner (first_key l.group.entries.now l.group.from) (bags_at l.group.entries.now l.group.from l.group.end) l.input) l.fn.built)
