-- The fields so far.
use Rattle.std.proofs.Common.{◌≡◌, ◌++◌, take}
use Rattle.pig_replicated.proofs.probing.behind.Given as goal

abbrev pub invariant-loop-value : goal.invariant-loop-value
invariant-loop-value l = l.made ≡ take l.value-index l.front

abbrev pub invariant-loop-more : goal.invariant-loop-more
invariant-loop-more l = l.made ≡ l.front ++ take l.more-index l.row
