use Rattle.std.proofs.Common.{rules}
use Rattle.std.proofs.lemmas.Fn.{always_returns_same}
use Rattle.pig_value.specs.Trees.{row_tree}
use Rattle.pig_plan.specs.Operators.{sort_keys_cmp}
use Rattle.pig_plain.proofs.Ranks.{found_ties}
use Rattle.pig_plain.proofs.ranking.place_of.Goals as goal

pub returns-in-Ok : goal.returns-in-Ok
returns-in-Ok c =
    found_ties c.args.keys.now c.args.sorted.now (row_tree c.args.row.now) c.in-Ok.place
    (c.in-Ok.ensures.position (λ other. sort_keys_cmp c.args.keys.now (row_tree other) (row_tree c.args.row.now)) (always_returns_same _ _ _ (λ a r f called. search rules)))
