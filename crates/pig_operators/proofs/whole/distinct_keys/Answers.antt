use Rattle.std.proofs.Common.{◌++◌, ◌∷◌, [], sym, ◌∙◌, ap, append_assoc, drop, map}
use Rattle.std.proofs.lemmas.List.{map-append}
use Rattle.pig_value.specs.Orders.{row_cmp}
use Rattle.pig_value.specs.Sorts.{distinct}
use Rattle.pig_value.specs.Trees.{row_tree, rows_tree}
use Rattle.pig_operators.proofs.Stretches.{distinct_group, row_first, sorted_out}
use Rattle.pig_operators.proofs.whole.distinct_keys.Goals as goal

pub groups-preserved : goal.groups-preserved
groups-preserved c =
    let end = c.group_end-from.result in
    let up = sorted_out c.args.run.dirs c.args.run.entries c.len.ensures.sorted in
    let rest = distinct row_cmp (map (λ e. e.row) (drop end c.args.run.entries)) in
    let row = c.in_ok-row.field-0 in (
      c.group_end-from.ensures.within,
      ap (λ l. rows_tree l ++ rest) c.in_ok-push.ensures.ok
          ∙ (ap (λ l. l ++ rest) (map-append row_tree c.groups.rows (row ∷ []))
          ∙ (append_assoc (rows_tree c.groups.rows) (row_tree row ∷ []) rest
          ∙ (ap (λ l. rows_tree c.groups.rows ++ l)
          (sym (distinct_group c.args.run c.groups.from end c.group_end-from.ensures up c.requires.ascending c.requires.keys
          ∙ ap (λ r. r ∷ rest) (row_first c.args.run c.groups.from end c.group_end-from.ensures up (row_tree row) c.in_ok-row.ensures)))
          ∙ c.groups.invariant.1))),
    )
