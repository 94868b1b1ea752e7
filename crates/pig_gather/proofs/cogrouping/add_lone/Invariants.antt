-- The bags so far.
use Rattle.std.proofs.Common.{◌≡◌}
use Rattle.pig_packed.specs.Growth.{and_bytes}
use Rattle.pig_plan.specs.ByKey.{bags_of}
use Rattle.pig_operators.specs.Groups.{first_key, rows_alone, rows_at}
use Rattle.pig_gather.specs.Fields.{begun_code}
use Rattle.pig_gather.proofs.cogrouping.add_lone.Given as goal

abbrev pub invariant-loop-i : goal.invariant-loop-i
invariant-loop-i l = l.built ≡ and_bytes (begun_code (bags_of l.i (first_key l.own.entries.now l.key) (rows_alone l.input (rows_at l.own.entries.now l.own.from l.own.end)))) l.fn.built
