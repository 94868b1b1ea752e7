use Rattle.std.proofs.Common.{◌≡◌}
use Rattle.pig_demo.specs.Scene.{visit_lines}
use Rattle.pig_demo.proofs.visits.visit_lines.Given as goal

abbrev pub invariant-loop-number : goal.invariant-loop-number
invariant-loop-number l = l.lines.items ≡ visit_lines l.number
