-- The rows so far, and those that are to come.
use Rattle.std.proofs.Common.{◌≡◌, ◌++◌, drop, map}
use Rattle.pig_replicated.proofs.building.copied.Given as goal

abbrev pub invariant-loop-one : goal.invariant-loop-one
invariant-loop-one l = l.rows ++ map (λ h. h.row.now) (drop l.one-index l.held) ≡ map (λ h. h.row.now) l.held
