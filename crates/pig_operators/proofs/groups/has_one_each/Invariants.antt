-- The entries so far are of the inputs in turn.
use Rattle.std.proofs.Common.{◌≡◌, ◌<◌, ◌+◌, ℕ}
use Rattle.std.specs.Prelude.{Some}
use Rattle.pig_operators.specs.Groups.{input_at}
use Rattle.pig_operators.proofs.groups.has_one_each.Given as goal

abbrev pub invariant-loop-input : goal.invariant-loop-input
invariant-loop-input l = (k : ℕ) → k < l.input → input_at l.group.run.now (l.group.from + k) ≡ Some k
