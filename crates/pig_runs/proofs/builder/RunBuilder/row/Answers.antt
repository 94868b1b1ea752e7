use Rattle.std.proofs.Common.{◌≡◌, ap, sym, subst}
use Rattle.pig_keycode.specs.Codable.{IsCodeOfRow}
use Rattle.pig_runs.specs.Packed.{part, row_at}
use Rattle.std.specs.Prelude.{IfOk, Some, option_map, slice_get}
use Rattle.pig_value.specs.Trees.{row_tree}
use Rattle.pig_runs.proofs.Reading.{row_read}
use Rattle.pig_runs.proofs.builder.RunBuilder.row.Goals as goal

pub returns : goal.returns
returns c =
    subst (λ es. IfOk c.read_row.result (λ found. option_map (λ e. e.row) (slice_get es c.args.at) ≡ Some (row_tree found))) (ap (λ b. b.entries) c.self.view_is)
    (row_read c.self.inside.dirs c.self.inside.bytes.items c.self.inside.slots.items c.self.inside.held c.args.at c.slot_at-slot.result c.read_row.result (subst (λ l. slice_get l c.args.at ≡ Some c.slot_at-slot.result) c.as_slice.ensures.value c.slot_at-slot.ensures)
    (λ row is. c.read_row.ensures row (subst (λ b. IsCodeOfRow (part b (row_at c.slot_at-slot.result) c.slot_at-slot.result.row_len) row) (sym c.as_slice-2.ensures.value) is)))
