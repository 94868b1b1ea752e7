use Rattle.std.proofs.Common.{◌≡◌, length}
use Rattle.pig_plain.specs.Coming.{lines_left}
use Rattle.pig_plain.proofs.reading.Lines.next.Given as goal

abbrev pub invariant-pieces : goal.invariant-pieces
invariant-pieces l = (lines_left l.fn.self ≡ lines_left l.self) × (l.self.delim ≡ l.fn.self.delim) × (l.self.columns ≡ l.fn.self.columns)

abbrev pub decreases-pieces : goal.decreases-pieces
decreases-pieces l = length l.self.pieces.now
