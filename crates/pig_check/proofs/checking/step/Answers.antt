use Rattle.pig_check.specs.Views.{added_tree, state_tree}
use Rattle.pig_check.proofs.Steps.{step_fits, step_sound}
use Rattle.pig_check.proofs.checking.step.Goals as goal

pub extend-requires : goal.extend-requires
extend-requires c =
    step_fits c.args.number (state_tree c.args.state.now) c.args.stmt.now (added_tree c.in-Ok.addition) c.requires.sound c.requires.formed c.in-Ok.ensures

pub returns-clause-sound : goal.returns-clause-sound
returns-clause-sound c =
    step_sound c.args.number (state_tree c.args.state.now) c.args.stmt.now (added_tree c.in-Ok.addition) c.requires.sound c.requires.formed c.in-Ok.ensures
    (state_tree c.extend.new.state) c.in_ok-extend.ensures
