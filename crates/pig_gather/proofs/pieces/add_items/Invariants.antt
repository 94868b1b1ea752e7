-- The rows so far.
use Rattle.std.proofs.Common.{◌≡◌}
use Rattle.pig_packed.specs.Growth.{and_bytes}
use Rattle.pig_operators.specs.Groups.{rows_at}
use Rattle.pig_gather.specs.Fields.{items_code}
use Rattle.pig_gather.proofs.pieces.add_items.Given as goal

abbrev pub invariant-loop-at : goal.invariant-loop-at
invariant-loop-at l = l.built ≡ and_bytes (items_code (rows_at l.stretch.entries.now l.stretch.from l.at)) l.fn.built
