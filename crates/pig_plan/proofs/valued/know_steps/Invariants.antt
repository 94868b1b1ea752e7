use Rattle.std.proofs.Common.{map, drop}
use Rattle.std.specs.List.{AllByRecursion}
use Rattle.pig_typed.specs.Literals.{StepLiteralsAre}
use Rattle.pig_typed.specs.Typed.{step_typed}
use Rattle.pig_value.specs.Valid.{IsValue}
use Rattle.pig_plan.proofs.valued.know_steps.Given as goal

abbrev pub invariant-loop-step : goal.invariant-loop-step
invariant-loop-step l = AllByRecursion (StepLiteralsAre IsValue) (map step_typed (drop l.step-index l.steps)) → AllByRecursion (StepLiteralsAre IsValue) (map step_typed l.steps)
