use Rattle.std.proofs.Common.{rules}
use Rattle.pig_cube.proofs.Turns.{other_kept, other_passed}
use Rattle.pig_cube.proofs.sets.other_positions.Goals as goal

pub loop-position-preserved-then-is_in : goal.loop-position-preserved-then-is_in
loop-position-preserved-then-is_in c = other_passed c.args.dims.now c.loop-position.others c.loop-position.position (search rules) c.loop-position.invariant

pub loop-position-preserved : goal.loop-position-preserved
loop-position-preserved c = other_kept c.args.dims.now c.loop-position.others c.push.new.self c.loop-position.position (search rules) c.loop-position.invariant (search rules)
