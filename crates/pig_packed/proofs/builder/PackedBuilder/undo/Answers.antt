use Rattle.std.proofs.Common.{◌∙◌, ap, sym}
use Rattle.pig_packed.specs.Growth.{whole_rows}
use Rattle.pig_packed.specs.RowCodes.{ends_from}
use Rattle.pig_packed.proofs.Growing.{undone}
use Rattle.pig_packed.proofs.builder.PackedBuilder.undo.Goals as goal

pub invariant_of-self : goal.invariant_of-self
invariant_of-self c =
    let after = undone c.self.inside.bytes.items c.truncate.new.self.items c.self.inside.done c.self.invariant.0 c.truncate.ensures.items c.self.inside.held c.self-1.given.0 in
    (after.2, c.self.invariant.1 ∙ ap (ends_from 0) (sym after.0))

pub returns : goal.returns
returns c =
    let after = undone c.self.inside.bytes.items c.truncate.new.self.items c.self.inside.done c.self.invariant.0 c.truncate.ensures.items c.self.inside.held c.self-1.given.0 in
    (λ i. record { rows = after.0 i; begun = after.1 i }) ∙ ap (λ b. whole_rows b.rows) c.self.view_is
