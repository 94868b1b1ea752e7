-- No `*/` stands before the place that is looked at.
use Rattle.std.proofs.Common.{◌≡◌, ◌≤◌, length}
use Rattle.pig_syntax.specs.Tokens.{after_close}
use Rattle.pig_syntax.proofs.scanning.after_close.Given as goal

abbrev pub invariant-loop-rest : goal.invariant-loop-rest
invariant-loop-rest l = record {
  value : after_close l.rest ≡ after_close l.bytes;
  within : length l.rest ≤ length l.bytes;
}

abbrev pub decreases-loop-rest : goal.decreases-loop-rest
decreases-loop-rest l = length l.rest
