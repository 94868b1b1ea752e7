use Rattle.pig_schema.specs.FieldTrees.{schema_tree}
use Rattle.pig_blocks.specs.Steps.{row_place, steps_of}
use Rattle.pig_blocks.specs.Views.{made_tree, stepped_tree}
use Rattle.pig_blocks.proofs.CodeSteps.{step_goes}
use Rattle.pig_blocks.proofs.steps.all_steps.Goals as goal

pub loop-step-preserved : goal.loop-step-preserved
loop-step-preserved c =
    step_goes (stepped_tree c.loop-step.so_far) (stepped_tree c.in_ok-so_far.so_far) c.args.steps.now c.loop-step.step-index c.step-item.result c.in_ok-alias.alias (made_tree c.in_ok-made.made)
    (steps_of (row_place (schema_tree c.args.columns.now)) c.args.steps.now)
    c.loop-step-test.true c.step-item.is c.in_ok-made.ensures c.in_ok-alias.ensures c.in_ok-so_far.ensures c.loop-step.invariant
