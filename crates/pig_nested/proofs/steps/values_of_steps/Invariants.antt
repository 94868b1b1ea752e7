use Rattle.std.proofs.Common.{◌≡◌, [], map, drop}
use Rattle.pig_value.specs.Trees.{row_tree}
use Rattle.pig_typed.specs.Blocks.{steps_values}
use Rattle.pig_typed.specs.Typed.{step_typed}
use Rattle.pig_nested.proofs.steps.values_of_steps.Given as goal

abbrev pub invariant-loop-step : goal.invariant-loop-step
invariant-loop-step l =
    steps_values (map step_typed (drop l.step-index l.step-items)) (row_tree l.row) (row_tree l.locals) ≡ steps_values (map step_typed l.steps) (row_tree l.row) []
