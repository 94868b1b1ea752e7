use Rattle.std.proofs.Common.{◌≡◌, drop}
use Rattle.pig_operators.specs.Groups.{no_other}
use Rattle.pig_operators.proofs.cogrouping.stands_alone.Given as goal

abbrev pub invariant-loop-i : goal.invariant-loop-i
invariant-loop-i l = no_other (drop l.i l.inner) l.i l.input ≡ no_other l.inner 0 l.input
