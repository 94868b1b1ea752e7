use Rattle.std.proofs.Common.{rules}
use Rattle.pig_cube.proofs.Turns.{prefix_made}
use Rattle.pig_cube.proofs.sets.prefixes.Goals as goal

pub loop-n-preserved : goal.loop-n-preserved
loop-n-preserved c = prefix_made c.args.positions.now c.loop-n.sets c.push.new.self c.in_ok-prefix.field-0 c.loop-n.n c.loop-n.invariant (search rules) (search rules)
