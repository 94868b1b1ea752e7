use Rattle.std.proofs.Common.{◌≡◌, ◌++◌, drop}
use Rattle.pig_plan.specs.Entries.{dirs_of}
use Rattle.pig_reduce.proofs.bringing.dirs_of.Given as goal

abbrev pub invariant-loop-key : goal.invariant-loop-key
invariant-loop-key l = l.dirs ++ dirs_of (drop l.key-index l.keys) ≡ dirs_of l.keys
