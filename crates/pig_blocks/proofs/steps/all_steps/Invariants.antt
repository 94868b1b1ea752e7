use Rattle.std.proofs.Common.{◌≡◌, drop}
use Rattle.pig_schema.specs.FieldTrees.{schema_tree}
use Rattle.pig_typing.specs.Results.{checked_map}
use Rattle.pig_blocks.specs.Steps.{place_behind, row_place, steps_behind, steps_of}
use Rattle.pig_blocks.specs.Views.{stepped_tree}
use Rattle.pig_blocks.proofs.steps.all_steps.Given as goal

abbrev pub invariant-loop-step : goal.invariant-loop-step
invariant-loop-step l =
    checked_map (steps_behind (stepped_tree l.so_far)) (steps_of (place_behind (stepped_tree l.so_far)) (drop l.step-index l.steps))
    ≡ steps_of (row_place (schema_tree l.columns)) l.steps
