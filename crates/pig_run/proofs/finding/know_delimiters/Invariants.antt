use Rattle.std.proofs.Common.{◌≢◌, drop}
use Rattle.std.specs.List.{AllByRecursion}
use Rattle.pig_run.proofs.finding.know_delimiters.Given as goal

abbrev pub invariant-loop-store : goal.invariant-loop-store
invariant-loop-store l = AllByRecursion (λ store. store.delim ≢ 10) (drop l.store-index l.stores) → AllByRecursion (λ store. store.delim ≢ 10) l.stores
