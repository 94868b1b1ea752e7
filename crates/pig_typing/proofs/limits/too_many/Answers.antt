use Rattle.std.proofs.Common.{◌∙◌, ap, sym, map, length, nat_lt}
use Rattle.std.proofs.lemmas.List.{length-map}
use Rattle.pig_value.specs.Trees.{kind_tree}
use Rattle.pig_value.proofs.TreeLaws.{kinds_back}
use Rattle.pig_typing.specs.declared.limits.TheConstants.{MOST_FIELDS}
use Rattle.pig_typing.proofs.limits.too_many.Goals as goal

pub returns : goal.returns
returns c =
    let kinds = c.args.kinds.now in
    ap (nat_lt MOST_FIELDS) (sym (ap length (kinds_back (map kind_tree kinds)) ∙ length-map kinds kind_tree))
