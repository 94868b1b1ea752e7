-- The bytes so far are turned round, and those to come are yet to be.
use Rattle.std.proofs.Common.{◌≡◌, ◌++◌, take, drop}
use Rattle.pig_keycode.specs.Codes.{turned}
use Rattle.pig_keycode.proofs.encoding.turn_from.Given as goal

abbrev pub invariant-loop-i : goal.invariant-loop-i
invariant-loop-i l = take l.i l.out.items ++ turned (drop l.i l.out.items) ≡ take l.from l.fn.out.items ++ turned (drop l.from l.fn.out.items)
