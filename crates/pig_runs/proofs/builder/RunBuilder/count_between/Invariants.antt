-- What is before, and what is behind.
use Rattle.std.proofs.Common.{◌≤◌, ◌-◌}
use Rattle.pig_runs.specs.Cutting.{IsHalved}
use Rattle.pig_runs.proofs.builder.RunBuilder.count_between.Given as goal

abbrev pub invariant-halves : goal.invariant-halves
invariant-halves l =
    (l.low ≤ l.high)
    × (l.high ≤ l.most)
    × (IsHalved l.equal l.self.dirs l.self.entries l.other.entries l.there l.least l.most → IsHalved l.equal l.self.dirs l.self.entries l.other.entries l.there l.low l.high)

abbrev pub decreases-halves : goal.decreases-halves
decreases-halves l = l.high - l.low
