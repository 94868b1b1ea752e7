use Rattle.std.proofs.Common.{◌∙◌, ap, length}
use Rattle.pig_packed.proofs.Standing.{length-ends_from}
use Rattle.pig_packed.proofs.builder.PackedBuilder.len.Goals as goal

pub returns : goal.returns
returns c = ap length (c.as_slice.ensures.value ∙ c.self.invariant.1) ∙ (length-ends_from 0 c.self.inside.held.0 ∙ ap (λ b. length b.rows) c.self.view_is)
