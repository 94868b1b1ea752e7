use Rattle.std.proofs.Common.{◌∙◌, ◌-◌, ap, drop, length, map, take}
use Rattle.pig_plan.specs.Plans.{keyed_of}
use Rattle.pig_plain.proofs.Keying.{entries_go_on, literals_behind}
use Rattle.pig_plain.proofs.Tables.{named_stand, one_used, used_both}
use Rattle.pig_plain.specs.Tables.{rows_of}
use Rattle.pig_plain.proofs.keyed.entries.Goals as goal

pub inputs-preserved : goal.inputs-preserved
inputs-preserved c =
    let old = c.inputs.table in
    let new = c.add_input.new.table in
    let left = c.inputs.left.now in
    let rest = map (λ i. i.input) (map keyed_of (take (length left - 1) (drop 1 left))) in
    let told = c.in_ok-add_input.ensures in
    let last = c.is_last_of-last in
    let input = c.input-item.result in (
      ap (λ b. b.dirs) told.entries ∙ c.inputs.invariant.0,
      literals_behind left c.in-len1-up.len_at_least c.inputs.invariant.1,
      used_both c.args.table.now old new c.inputs.invariant.2 (one_used last.result input.input old new last.ensures.last told.left),
      entries_go_on left input c.in-len1-up.len_at_least c.input-item.is (rows_of old) (rows_of new) c.inputs.place c.in_ok-place.place c.in_ok-place.ensures
          c.inputs.builder.entries c.add_input.new.builder.entries _ (ap (λ b. b.entries) told.entries) c.inputs.invariant.3
          (named_stand last.result input.input rest old new last.ensures.named told.left),
    )
