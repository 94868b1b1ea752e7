use Rattle.std.proofs.Common.{ap, sym, subst, ◌∙◌, [], ◌∷◌}
use Rattle.std.proofs.lemmas.List.{map-append}
use Rattle.std.proofs.lemmas.Result.{on_ok_weaker}
use Rattle.pig_value.specs.Trees.{row_tree, tree}
use Rattle.pig_value.specs.Valid.{IsRow}
use Rattle.pig_combine.proofs.Found.{row_more}
use Rattle.pig_combine.proofs.tallies.push_value.Goals as goal

pub returns-clause-values : goal.returns-clause-values
returns-clause-values c p q =
    on_ok_weaker c.push.result
    (λ e. subst IsRow (sym (ap row_tree e ∙ map-append tree c.args.row.now (c.args.value ∷ []))) (row_more (row_tree c.args.row.now) (tree c.args.value) q p))
    c.push.ensures.ok
