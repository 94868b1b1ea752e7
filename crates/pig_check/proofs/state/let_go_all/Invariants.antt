use Rattle.std.proofs.Common.{◌≡◌}
use Rattle.pig_check.proofs.state.let_go_all.Given as goal

abbrev pub invariant-loop-alias : goal.invariant-loop-alias
invariant-loop-alias l = l.relations ≡ l.fn.relations
