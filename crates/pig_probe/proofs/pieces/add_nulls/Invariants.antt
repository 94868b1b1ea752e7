-- The nulls so far.
use Rattle.std.proofs.Common.{◌≡◌, ◌++◌}
use Rattle.pig_plan.specs.ByKey.{nulls}
use Rattle.pig_replicated.specs.Codes.{inner_code}
use Rattle.pig_probe.proofs.pieces.add_nulls.Given as goal

abbrev pub invariant-loop-i : goal.invariant-loop-i
invariant-loop-i l = l.front.items ≡ l.fn.front.items ++ inner_code (nulls l._i)
