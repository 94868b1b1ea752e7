use Rattle.std.proofs.Common.{◌≡◌, take}
use Rattle.pig_typed.proofs.copying.copy_positions.Given as goal

abbrev pub invariant-loop-position : goal.invariant-loop-position
invariant-loop-position l = l.made.items ≡ take l.position-index l.positions
