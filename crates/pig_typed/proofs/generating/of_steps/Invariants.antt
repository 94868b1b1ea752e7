use Rattle.std.proofs.Common.{◌≡◌, [], map, drop}
use Rattle.pig_value.specs.Trees.{kind_tree}
use Rattle.pig_typed.specs.BlockKinds.{steps_kinds}
use Rattle.pig_typed.specs.Typed.{step_typed}
use Rattle.pig_typed.proofs.generating.of_steps.Given as goal

abbrev pub invariant-loop-step : goal.invariant-loop-step
invariant-loop-step l =
    steps_kinds (map step_typed (drop l.step-index l.step-items)) (map kind_tree l.row) (map kind_tree l.locals)
    ≡ steps_kinds (map step_typed l.fn.steps) (map kind_tree l.row) []
