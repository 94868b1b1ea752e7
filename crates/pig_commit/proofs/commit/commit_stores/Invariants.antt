use Rattle.std.proofs.Common.{◌≤◌, drop}
use Rattle.std.specs.List.{AllByRecursion}
use Rattle.pig_commit.specs.Committed.{HasFewParts}
use Rattle.pig_commit.proofs.Going.{IsSoFar}
use Rattle.pig_commit.proofs.commit.commit_stores.Given as goal

abbrev pub invariant-loop-place : goal.invariant-loop-place
invariant-loop-place g l =
    (g.D.Depot.faults l.fn.depot ≤ g.D.Depot.faults l.depot)
    × (g.D.Depot.store_faults l.fn.depot ≤ g.D.Depot.store_faults l.depot)
    × AllByRecursion HasFewParts (drop l.place l.stores)
    × IsSoFar l.stores (drop l.place l.stores) (g.D.Depot.shelf l.fn.depot) (g.D.Depot.shelf l.depot) (g.D.Depot.calls l.fn.depot) (g.D.Depot.calls l.depot)
