-- The rows so far.
use Rattle.std.proofs.Common.{◌≡◌}
use Rattle.pig_packed.specs.Growth.{and_rows}
use Rattle.pig_operators.specs.Groups.{rows_at}
use Rattle.pig_gather.proofs.whole.add_between.Given as goal

abbrev pub invariant-loop-at : goal.invariant-loop-at
invariant-loop-at l = l.built ≡ and_rows (rows_at l.stretch.entries.now l.stretch.from l.at) l.fn.built
