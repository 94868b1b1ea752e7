-- The entries so far are of the input.
use Rattle.std.proofs.Common.{◌≡◌, ◌<◌, ◌≤◌, ℕ}
use Rattle.std.specs.Prelude.{Some}
use Rattle.pig_operators.specs.Groups.{input_at}
use Rattle.pig_gather.proofs.groups.input_end.Given as goal

abbrev pub invariant-loop-next : goal.invariant-loop-next
invariant-loop-next l = (k : ℕ) → l.from ≤ k → k < l.next → input_at l.entries k ≡ Some l.input
