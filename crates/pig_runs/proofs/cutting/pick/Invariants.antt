-- The points so far.
use Rattle.std.proofs.Common.{◌≡◌, List, map}
use Rattle.pig_value.specs.Gathering.{Entry}
use Rattle.pig_runs.specs.Cutting.{picked}
use Rattle.pig_runs.specs.Entries.{and_entries}
use Rattle.pig_runs.specs.Packed.{Stand, packed_lent}
use Rattle.pig_runs.proofs.cutting.pick.Given as goal

abbrev pub invariant-loop-k : goal.invariant-loop-k
invariant-loop-k l = (l.points.dirs ≡ l.fn.points.dirs) × ((es : List Entry) → Stand l.fn.points.dirs es (map packed_lent l.order) → l.points ≡ and_entries (picked l.n es l.k) l.fn.points)
