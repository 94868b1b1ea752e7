use Rattle.std.proofs.Common.{rules, ◌≡◌, ◌∙◌, Some, slice_get}
use Rattle.std.proofs.lemmas.Result.{IfOk-weaker}
use Rattle.std.specs.Option.{ForSome}
use Rattle.std.specs.declared.cmp.Ordering.TheVariants.{Equal}
use Rattle.pig_value.specs.Trees.{row_tree, rows_tree}
use Rattle.pig_plan.specs.Operators.{sort_keys_cmp}
use Rattle.pig_plain.proofs.Ranks.{rank_found}
use Rattle.pig_plain.proofs.ranking.rank.Goals as goal

pub returns-in-Some-row_at : goal.returns-in-Some-row_at
returns-in-Some-row_at c dense rows are =
    let there : slice_get (rows_tree c.args.known.now.ranked) c.in-Some.place ≡ Some (row_tree c.in-Some-row_at.found.now) = search rules in
    let tie : ForSome (slice_get (rows_tree c.args.known.now.sorted) c.in-Some.place) (λ other. sort_keys_cmp c.args.keys.now other (row_tree c.args.row.now) ≡ Equal) = search rules in
    IfOk-weaker c.field.result _ _
    (λ v is. is ∙ rank_found c.args.keys.now dense rows c.args.known.now are (row_tree c.args.row.now) (row_tree c.in-Some-row_at.found.now) c.in-Some.place there tie) c.field.ensures
