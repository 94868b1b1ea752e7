-- The bags so far, the entries that remain, and whether none of an INNER input was empty.
use Rattle.std.proofs.Common.{◌≡◌, drop}
use Rattle.pig_packed.specs.Growth.{and_bytes}
use Rattle.pig_plan.specs.ByKey.{all_there, bags_of}
use Rattle.pig_operators.specs.Groups.{bags_at, first_key}
use Rattle.pig_operators.proofs.Inputs.{Remains}
use Rattle.pig_gather.specs.Fields.{begun_code}
use Rattle.pig_gather.proofs.cogrouping.add_together.Given as goal

abbrev pub invariant-loop-input : goal.invariant-loop-input
invariant-loop-input l =
    Remains l.group.entries.now.entries l.group.from l.at l.group.end l.input
    × (l.built ≡ and_bytes (begun_code (bags_of l.input (first_key l.group.entries.now l.group.from) (bags_at l.group.entries.now l.group.from l.group.end))) l.fn.built)
    × (all_there (drop l.input l.inner) l.input (bags_at l.group.entries.now l.group.from l.group.end) ≡ all_there l.inner 0 (bags_at l.group.entries.now l.group.from l.group.end))
