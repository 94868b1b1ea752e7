use Rattle.std.proofs.Common.{◌≡◌, drop}
use Rattle.pig_value.specs.Trees.{rows_tree}
use Rattle.pig_plain.specs.Coming.{steps_rows}
use Rattle.pig_plain.proofs.walking.stepped.Given as goal

abbrev pub invariant-loop-step : goal.invariant-loop-step
invariant-loop-step l = steps_rows (drop l.step-index l.steps) (rows_tree l.made) ≡ steps_rows l.steps (rows_tree l.fn.rows)
