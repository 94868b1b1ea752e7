-- The rows so far.
use Rattle.std.proofs.Common.{◌≡◌, take}
use Rattle.pig_packed.specs.Growth.{and_rows}
use Rattle.pig_gather.proofs.whole.add_codes.Given as goal

abbrev pub invariant-loop-at : goal.invariant-loop-at
invariant-loop-at l = l.built ≡ and_rows (take l.at l.list) l.fn.built
