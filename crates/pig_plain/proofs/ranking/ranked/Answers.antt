use Rattle.std.proofs.Common.{◌∙◌, ap}
use Rattle.pig_plan.specs.Operators.{rank_rows}
use Rattle.pig_plain.proofs.ranking.ranked.Goals as goal

pub returns : goal.returns
returns c =
    let seen_is = c.seen_at-seen.ensures ∙ c.in_ok-taken.ensures.rows in
    record {
      rows = c.in_ok-rows.ensures ∙ ap (rank_rows c.args.keys.now c.args.dense) seen_is;
      left = c.in_ok-taken.ensures.left;
    }
