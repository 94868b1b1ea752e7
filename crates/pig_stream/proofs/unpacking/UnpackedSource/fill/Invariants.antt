use Rattle.std.proofs.Common.{◌≡◌, ◌++◌, ◌-◌, length}
use Rattle.pig_value.specs.Valid.{AreRows}
use Rattle.pig_stream.specs.Taking.{rows_left}
use Rattle.pig_stream.proofs.unpacking.UnpackedSource.fill.Given as goal

abbrev pub invariant-rows : goal.invariant-rows
invariant-rows l = (rows_left l.fn.self ≡ l.batch ++ rows_left l.self) × AreRows l.batch × (l.self.rows ≡ l.fn.self.rows)

abbrev pub decreases-rows : goal.decreases-rows
decreases-rows l = 256 - length l.batch
