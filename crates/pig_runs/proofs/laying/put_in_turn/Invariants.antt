use Rattle.pig_runs.proofs.InTurn.{IsUpTo}
use Rattle.pig_runs.proofs.laying.put_in_turn.Given as goal

abbrev pub invariant-loop-slot : goal.invariant-loop-slot
invariant-loop-slot l = IsUpTo l.block l.fn.slots.items l.slot-items l.slot-index l.at
