use Rattle.std.proofs.Common.{◌∙◌, ap, length}
use Rattle.pig_packed.proofs.Standing.{length-ends_from}
use Rattle.pig_packed.proofs.rows.Packed.len.Goals as goal

pub returns-clause-count : goal.returns-clause-count
returns-clause-count c = ap length (c.as_slice.ensures.value ∙ c.self.invariant) ∙ (length-ends_from 0 c.self.inside.held.0 ∙ ap length c.self.view_is)
