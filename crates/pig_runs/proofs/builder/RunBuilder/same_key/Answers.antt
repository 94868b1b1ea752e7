use Rattle.std.proofs.Common.{◌≡◌, subst}
use Rattle.std.specs.Bool.{Decides}
use Rattle.std.specs.Prelude.{Some, slice_get}
use Rattle.pig_runs.specs.Entries.{key_at}
use Rattle.pig_runs.specs.Packed.{part}
use Rattle.pig_runs.proofs.Reading.{same_keys}
use Rattle.pig_runs.proofs.builder.RunBuilder.same_key.Goals as goal

pub returns : goal.returns
returns c =
    subst (λ b. Decides c.same_key_bytes.result (key_at b c.args.at ≡ key_at b c.args.other)) c.self.view_is
    (same_keys c.self.inside.dirs c.self.inside.bytes.items c.self.inside.slots.items c.self.inside.held c.args.at c.args.other c.slot_at.result c.slot_at-2.result c.same_key_bytes.result
    (subst (λ l. slice_get l c.args.at ≡ Some c.slot_at.result) c.as_slice-slots.ensures.value c.slot_at.ensures)
    (subst (λ l. slice_get l c.args.other ≡ Some c.slot_at-2.result) c.as_slice-slots.ensures.value c.slot_at-2.ensures)
    (subst (λ b. Decides c.same_key_bytes.result (part b c.slot_at.result.at c.slot_at.result.key_len ≡ part b c.slot_at-2.result.at c.slot_at-2.result.key_len)) c.as_slice.ensures.value c.same_key_bytes.ensures))
