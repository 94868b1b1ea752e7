use Rattle.std.proofs.Common.{◌≡◌, [], replicate}
use Rattle.pig_needs.proofs.walking.empty_lists.Given as goal

abbrev pub invariant-loop-place : goal.invariant-loop-place
invariant-loop-place l = l.found.items ≡ replicate l._place []
