use Rattle.std.proofs.Common.{◌≡◌, length}
use Rattle.pig_plain.specs.Coming.{coming, source_rows}
use Rattle.pig_plain.proofs.walking.Walk.next_batch.Given as goal

abbrev pub invariant-reads : goal.invariant-reads
invariant-reads l = coming l.fn.self ≡ coming l.self

abbrev pub decreases-reads : goal.decreases-reads
decreases-reads l = length (source_rows l.self.source)
