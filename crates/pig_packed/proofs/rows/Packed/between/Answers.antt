use Rattle.std.proofs.Common.{[], ◌∷◌, ◌∙◌, ap, rules}
use Rattle.std.proofs.lemmas.List.{map-append}
use Rattle.pig_value.specs.Trees.{row_tree, rows_tree}
use Rattle.pig_packed.proofs.Lending.{one_more_between}
use Rattle.pig_packed.proofs.rows.Packed.between.Goals as goal

pub loop-at-preserved : goal.loop-at-preserved
loop-at-preserved c =
    one_more_between c.args.from c.loop-at.at c.args.self.now (rows_tree c.loop-at.rows) (rows_tree c.push.new.self) (row_tree c.in_ok-row.field-0) (search rules) c.in_ok-row.ensures (search rules) c.loop-at.invariant
    (ap rows_tree c.in_ok-push.ensures.ok ∙ map-append row_tree c.loop-at.rows (c.in_ok-row.field-0 ∷ []))
