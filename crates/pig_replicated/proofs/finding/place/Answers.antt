use Rattle.std.proofs.Common.{rules}
use Rattle.std.proofs.lemmas.Fn.{always_returns_same}
use Rattle.pig_value.specs.Orders.{tree_cmp}
use Rattle.pig_value.specs.Trees.{tree}
use Rattle.pig_replicated.proofs.Coded.{group_found}
use Rattle.pig_replicated.proofs.Searched.{absent_is}
use Rattle.pig_replicated.proofs.finding.place.Goals as goal

pub returns-in-Ok : goal.returns-in-Ok
returns-in-Ok c =
    group_found (tree c.args.key.now) c.args.groups.now c.in-Ok.at c.requires c.in-Ok.ensures.bound
    (c.in-Ok.ensures.position (λ group. tree_cmp (tree group.key) (tree c.args.key.now)) (always_returns_same _ _ _ (λ a r f called. search rules)))

pub returns-in-Err : goal.returns-in-Err
returns-in-Err c =
    absent_is c.args.groups.now (tree c.args.key.now) c.requires c.in-Err.field-0
    (c.in-Err.ensures.position (λ group. tree_cmp (tree group.key) (tree c.args.key.now)) (always_returns_same _ _ _ (λ a r f called. search rules)))
