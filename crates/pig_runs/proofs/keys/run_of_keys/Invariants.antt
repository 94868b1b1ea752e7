-- The keys so far, and those that are to come.
use Rattle.std.proofs.Common.{◌≡◌, []}
use Rattle.pig_runs.specs.Alone.{alone_once, keys_in, with_those_from}
use Rattle.pig_runs.proofs.keys.run_of_keys.Given as goal

abbrev pub invariant-entries : goal.invariant-entries
invariant-entries l = (l.found.dirs ≡ []) × (with_those_from l.at l.sorted.entries l.found ≡ alone_once (keys_in l.sorted.entries))
