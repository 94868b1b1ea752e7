-- The codes so far.
use Rattle.std.proofs.Common.{◌≡◌, take}
use Rattle.std.specs.List.{flat_map}
use Rattle.pig_runs.specs.InTurn.{codes_within}
use Rattle.pig_runs.proofs.laying.codes_in_turn.Given as goal

abbrev pub invariant-loop-slot : goal.invariant-loop-slot
invariant-loop-slot l = l.laid.items ≡ flat_map (codes_within l.bytes l.block) (take l.slot-index l.slots)
