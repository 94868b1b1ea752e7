use Rattle.std.proofs.Common.{◌≡◌, ◌∙◌, ap, subst}
use Rattle.std.specs.Prelude.{Some, option_map, slice_get}
use Rattle.pig_runs.specs.Entries.{AreKeyed}
use Rattle.pig_runs.specs.Packed.{found_at, packed, packed_lent}
use Rattle.pig_runs.proofs.Reading.{lent_read}
use Rattle.pig_runs.proofs.builder.RunBuilder.lend.Goals as goal

pub returns-clause-is : goal.returns-clause-is
returns-clause-is c =
    subst (λ b. option_map (packed b.dirs) (slice_get b.entries c.args.at) ≡ Some (packed_lent c.lend.result)) c.self.view_is
    (lent_read c.self.inside.dirs c.self.inside.bytes.items c.self.inside.slots.items c.self.inside.held c.args.at c.slot_at-slot.result c.lend.result
    (subst (λ l. slice_get l c.args.at ≡ Some c.slot_at-slot.result) c.as_slice.ensures.value c.slot_at-slot.ensures) (c.lend.ensures ∙ ap (λ b. found_at b c.slot_at-slot.result) c.as_slice-2.ensures.value))

pub returns-clause-good : goal.returns-clause-good
returns-clause-good c = subst (λ b. ∥ AreKeyed b.dirs b.entries ∥₁) c.self.view_is c.self.inside.held.1.0
