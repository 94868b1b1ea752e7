-- The nulls so far.
use Rattle.std.proofs.Common.{◌≡◌}
use Rattle.pig_packed.specs.Growth.{and_bytes}
use Rattle.pig_plan.specs.ByKey.{nulls}
use Rattle.pig_gather.specs.Fields.{inner_code}
use Rattle.pig_gather.proofs.outer.add_nulls.Given as goal

abbrev pub invariant-loop-i : goal.invariant-loop-i
invariant-loop-i l = l.built ≡ and_bytes (inner_code (nulls l._i)) l.fn.built
