use Rattle.std.proofs.Common.{◌-◌, drop, length, take}
use Rattle.pig_value.specs.Trees.{rows_tree}
use Rattle.pig_plain.proofs.Tables.{named_stand, one_used, union_goes_on, used_both}
use Rattle.pig_plain.specs.Tables.{rows_of}
use Rattle.pig_plain.proofs.rowwise.united.Goals as goal

pub inputs-preserved : goal.inputs-preserved
inputs-preserved c =
    let old = c.inputs.table in
    let new = c.add_input.new.table in
    let left = c.inputs.left.now in
    let rest = take (length left - 1) (drop 1 left) in
    let told = c.in_ok-add_input.ensures in
    let last = c.is_last_of-last in (
      used_both c.args.table.now old new c.inputs.invariant.0 (one_used last.result _ old new last.ensures.last told.left),
      union_goes_on left c.in-len1-up.len_at_least (rows_of old) (rows_of new) (rows_tree c.inputs.made) (rows_tree c.add_input.new.made) _
          told.rows c.inputs.invariant.1 (named_stand last.result _ rest old new last.ensures.named told.left),
    )
