use Rattle.std.proofs.Common.{◌≡◌, ap, subst}
use Rattle.std.specs.Prelude.{Some, option_map, slice_get}
use Rattle.pig_runs.proofs.Reading.{input_read}
use Rattle.pig_runs.proofs.builder.RunBuilder.input.Goals as goal

pub returns : goal.returns
returns c =
    subst (λ es. option_map (λ e. e.input) (slice_get es c.args.at) ≡ Some c.slot_at-slot.result.input) (ap (λ b. b.entries) c.self.view_is)
    (input_read c.self.inside.dirs c.self.inside.bytes.items c.self.inside.slots.items c.self.inside.held c.args.at c.slot_at-slot.result (subst (λ l. slice_get l c.args.at ≡ Some c.slot_at-slot.result) c.as_slice.ensures.value c.slot_at-slot.ensures))
