use Rattle.std.proofs.Common.{◌≡◌, drop}
use Rattle.pig_check.specs.Scripts.{script_of}
use Rattle.pig_check.specs.States.{IsSound, nothing_yet}
use Rattle.pig_check.specs.Views.{state_tree}
use Rattle.pig_check.proofs.checking.script.Given as goal

abbrev pub invariant-loop-stmt : goal.invariant-loop-stmt
invariant-loop-stmt l =
    (script_of l.number (state_tree l.state) (drop l.stmt-index l.stmts) ≡ script_of 1 nothing_yet l.stmts)
    × IsSound l.number (state_tree l.state)
