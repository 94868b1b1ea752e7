use Rattle.std.proofs.Common.{◌∙◌, ap, sym}
use Rattle.pig_value.specs.Trees.{row_tree, rows_tree, tree}
use Rattle.pig_replicated.specs.Holding.{matches_in}
use Rattle.pig_replicated.proofs.Adding.{none_added}
use Rattle.pig_replicated.proofs.probing.partners_of.Goals as goal

pub returns-then-one_lacks : goal.returns-then-one_lacks
returns-then-one_lacks c =
    ap rows_tree c.new-rows.ensures ∙ none_added (λ s. matches_in s (tree c.args.key.now)) c.args.sides.now (row_tree c.args.row.now) (sym c.one_lacks.ensures ∙ c.if-one_lacks.true)
