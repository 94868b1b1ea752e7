use Rattle.std.proofs.Common.{◌≡◌, ◌++◌, length, take, drop}
use Rattle.pig_plan.specs.Plans.{plan_of}
use Rattle.pig_plan.specs.Steps.{through}
use Rattle.pig_stream.specs.Stepping.{marked_folding}
use Rattle.pig_stream.specs.Unmet.{either_of, fails_on}
use Rattle.pig_stream.proofs.steps.take_through.Given as goal

abbrev pub invariant-path : goal.invariant-path
invariant-path l =
    (through (marked_folding l.folded) (plan_of l.nodes) (drop l.at l.path) l.batch ≡ through (marked_folding l.folded) (plan_of l.nodes) l.path l.fn.batch)
    × (length l.failed.items ≡ length l.fn.failed.items)
    × (length l.fn.failed.items ≡ length l.path
    → take l.at l.failed.items ++ either_of (drop l.at l.failed.items) (fails_on (marked_folding l.folded) (plan_of l.nodes) (drop l.at l.path) l.batch)
    ≡ either_of l.fn.failed.items (fails_on (marked_folding l.folded) (plan_of l.nodes) l.path l.fn.batch))
