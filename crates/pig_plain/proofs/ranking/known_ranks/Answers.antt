use Rattle.std.proofs.Common.{rules, ◌≡◌, [], subst}
use Rattle.pig_value.specs.Trees.{rows_tree}
use Rattle.pig_plan.specs.Operators.{order_rows}
use Rattle.pig_rank.specs.Ranks.{AreRanked, start_behind}
use Rattle.pig_plain.proofs.Ranks.{ranked_whole}
use Rattle.pig_plain.proofs.ranking.known_ranks.Goals as goal

pub returns : goal.returns
returns c =
    let sorted : rows_tree c.sort_by_keys-sorted.result ≡ order_rows c.args.keys.now (rows_tree c.args.rows.now) = search rules in
    record {
      sorted = sorted;
      ranked = ranked_whole c.args.keys.now c.args.dense (rows_tree c.args.rows.now) (rows_tree c.in_ok-ranked.ranked)
          (subst (λ rows. AreRanked c.args.keys.now c.args.dense (start_behind c.args.keys.now []) rows (rows_tree c.in_ok-ranked.ranked)) sorted c.in_ok-ranked.ensures.ranked);
    }
