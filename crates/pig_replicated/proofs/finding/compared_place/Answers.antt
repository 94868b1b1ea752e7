use Rattle.std.proofs.Common.{◌∙◌, sym}
use Rattle.pig_value.specs.Orders.{tree_cmp}
use Rattle.pig_value.specs.Trees.{tree}
use Rattle.pig_value.proofs.list_laws.Bags.{eq_is}
use Rattle.pig_replicated.proofs.Coded.{group_at}
use Rattle.pig_replicated.proofs.finding.compared_place.Goals as goal

pub returns-then-has_key : goal.returns-then-has_key
returns-then-has_key c =
    group_at (tree c.args.key.now) c.args.groups.now c.args.at c.index-groups-at.result c.requires.groups c.requires.within c.index-groups-at.is
    (eq_is (tree_cmp (tree c.index-groups-at.result.key) (tree c.args.key.now)) (sym c.has_key.ensures ∙ c.if-has_key.true))
