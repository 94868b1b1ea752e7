-- The rows so far.
use Rattle.std.proofs.Common.{◌≡◌, ◌++◌, map}
use Rattle.pig_packed.specs.Growth.{and_rows}
use Rattle.pig_plan.specs.ByKey.{nulls}
use Rattle.pig_operators.specs.Groups.{rows_at}
use Rattle.pig_gather.proofs.outer.add_left.Given as goal

abbrev pub invariant-loop-at : goal.invariant-loop-at
invariant-loop-at l = l.built ≡ and_rows (map (λ row. row ++ nulls l.width) (rows_at l.own.entries.now l.own.from l.at)) l.fn.built
