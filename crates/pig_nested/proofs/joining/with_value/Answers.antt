use Rattle.std.proofs.Common.{◌≡◌, ◌∙◌, ◌++◌, ap, [], ◌∷◌}
use Rattle.std.proofs.lemmas.List.{map-append}
use Rattle.pig_value.specs.Trees.{row_tree, tree}
use Rattle.pig_nested.proofs.JoinedLaws.{fields_behind}
use Rattle.pig_nested.proofs.joining.with_value.Goals as goal

pub returns : goal.returns
returns c =
    let is : row_tree c.push.new.self ≡ row_tree c.args.joining.tail ++ tree c.args.v ∷ [] =
    ap row_tree c.in_ok-push.ensures.ok ∙ map-append tree c.args.joining.tail (c.args.v ∷ []) in
    fields_behind c.args.joining.rows (row_tree c.args.joining.tail) (row_tree c.push.new.self) (tree c.args.v ∷ []) is
