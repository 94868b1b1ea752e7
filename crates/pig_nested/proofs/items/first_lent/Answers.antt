use Rattle.std.proofs.Common.{◌≡◌, ◌∙◌, ap}
use Rattle.std.proofs.lemmas.Result.{IfOk-weaker}
use Rattle.pig_value.specs.Trees.{tree}
use Rattle.pig_typed.specs.Blocks.{flattened}
use Rattle.pig_typed.specs.Products.{joined}
use Rattle.pig_nested.specs.Joinings.{joining_rows}
use Rattle.pig_nested.proofs.JoinedLaws.{none_joined}
use Rattle.pig_nested.proofs.items.first_lent.Goals as goal

pub returns : goal.returns
returns c =
    let lists = flattened c.args.width (tree c.args.v.now) in
    IfOk-weaker c.with_flattened.result _ (λ made. joining_rows made ≡ flattened c.args.width (tree c.args.v.now))
    (λ made same. same ∙ ap (λ rows. joined rows lists) c.in_ok-start.ensures ∙ none_joined lists) c.with_flattened.ensures
