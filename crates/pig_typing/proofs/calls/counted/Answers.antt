use Rattle.std.proofs.Common.{◌∙◌, ap, sym, map, length, subst}
use Rattle.std.specs.declared.result.Result.TheVariants.{Ok}
use Rattle.std.proofs.lemmas.List.{length-map}
use Rattle.pig_value.specs.Trees.{kind_tree}
use Rattle.pig_value.proofs.TreeLaws.{kinds_back}
use Rattle.pig_typing.specs.Results.{Tells}
use Rattle.pig_typing.proofs.calls.counted.Goals as goal

pub returns : goal.returns
returns c =
    let kinds = c.args.kinds.now in
    subst (λ n. Tells (λ m. m) (Ok n) c.narrow.result) (sym (ap length (kinds_back (map kind_tree kinds)) ∙ length-map kinds kind_tree)) c.narrow.ensures
