use Rattle.std.proofs.Common.{ap, sym, ◌∙◌, [], ◌∷◌}
use Rattle.pig_value.specs.Functions.{column_found}
use Rattle.pig_value.specs.Trees.{field_tree}
use Rattle.pig_builtins.specs.Folds.{fold_function, merge_found}
use Rattle.pig_builtins.proofs.Merging.{merged}
use Rattle.pig_builtins.proofs.folding.Fold.add.Goals as goal

pub returns-clause-found : goal.returns-clause-found
returns-clause-found c =
    let function = fold_function c.args.self in
    let last = column_found function (field_tree c.args.field ∷ []) in
    λ vs so_far. c.step.ensures.found ∙ ap (λ found. merge_found function found last) so_far ∙ sym (merged function vs (field_tree c.args.field ∷ []))
