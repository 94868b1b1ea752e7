use Rattle.std.proofs.Common.{◌≡◌, ◌∙◌, ap, sym, subst}
use Rattle.pig_keycode.specs.Codable.{IsCodeOf}
use Rattle.pig_runs.specs.Packed.{part}
use Rattle.std.specs.Prelude.{IfOk, Some, option_map, slice_get}
use Rattle.pig_value.specs.Trees.{tree}
use Rattle.pig_runs.proofs.Reading.{key_read}
use Rattle.pig_runs.proofs.builder.RunBuilder.key.Goals as goal

pub returns : goal.returns
returns c =
    subst (λ es. IfOk c.read_key.result (λ found. option_map (λ e. e.key) (slice_get es c.args.at) ≡ Some (tree found))) (ap (λ b. b.entries) c.self.view_is)
    (key_read c.self.inside.dirs c.self.inside.bytes.items c.self.inside.slots.items c.self.inside.held c.args.at c.slot_at-slot.result c.read_key.result (ap (λ b. b.dirs) c.self.view_is ∙ c.requires.ascending) (subst (λ l. slice_get l c.args.at ≡ Some c.slot_at-slot.result) c.as_slice.ensures.value c.slot_at-slot.ensures)
    (λ key is. c.read_key.ensures key (subst (λ b. IsCodeOf (part b c.slot_at-slot.result.at c.slot_at-slot.result.key_len) key) (sym c.as_slice-2.ensures.value) is)))
