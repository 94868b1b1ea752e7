use Rattle.std.proofs.Common.{◌≤◌}
use Rattle.pig_commit.proofs.Going.{ArePut}
use Rattle.pig_commit.proofs.commit.put_parts.Given as goal

abbrev pub invariant-loop-number : goal.invariant-loop-number
invariant-loop-number g l =
    (g.D.Depot.faults l.fn.depot ≤ g.D.Depot.faults l.depot)
    × (g.D.Depot.store_faults l.fn.depot ≤ g.D.Depot.store_faults l.depot)
    × ArePut l.dir l.parts l.number (g.D.Depot.shelf l.fn.depot) (g.D.Depot.shelf l.depot) (g.D.Depot.calls l.fn.depot) (g.D.Depot.calls l.depot)
