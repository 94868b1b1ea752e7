use Rattle.std.proofs.Common.{◌≡◌, ◌∙◌, ap, sym, take}
use Rattle.pig_packed.specs.RowCodes.{ends_from}
use Rattle.pig_packed.proofs.Growing.{told, all_whole}
use Rattle.pig_packed.proofs.builder.PackedBuilder.into_packed.Goals as goal

pub invariant_of-result : goal.invariant_of-result
invariant_of-result c =
    let whole : take c.self.inside.done c.self.inside.bytes.items ≡ c.self.inside.bytes.items = all_whole c.self.inside.bytes.items c.self.inside.done (ap (λ b. b.begun) c.self.view_is ∙ c.requires) in
    ((c.self.inside.held.0, (c.self.inside.held.1.0, c.self.inside.held.1.1 ∙ whole)), tt)

pub invariant_of-result-2 : goal.invariant_of-result-2
invariant_of-result-2 c =
    let whole : take c.self.inside.done c.self.inside.bytes.items ≡ c.self.inside.bytes.items = all_whole c.self.inside.bytes.items c.self.inside.done (ap (λ b. b.begun) c.self.view_is ∙ c.requires) in
    c.self.invariant.1 ∙ ap (ends_from 0) (sym (told c.self.inside.bytes.items c.result-1.given.0 c.self.inside.held.0 c.self.inside.held.1.0 (c.self.inside.held.1.1 ∙ whole)))

pub returns : goal.returns
returns c =
    let whole : take c.self.inside.done c.self.inside.bytes.items ≡ c.self.inside.bytes.items = all_whole c.self.inside.bytes.items c.self.inside.done (ap (λ b. b.begun) c.self.view_is ∙ c.requires) in
    told c.self.inside.bytes.items c.result-1.given.0 c.self.inside.held.0 c.self.inside.held.1.0 (c.self.inside.held.1.1 ∙ whole) ∙ ap (λ b. b.rows) c.self.view_is
