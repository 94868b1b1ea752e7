use Rattle.std.proofs.Common.{rules, ◌≡◌, sym, subst}
use Rattle.std.specs.Result.{IfOk}
use Rattle.std.proofs.lemmas.Result.{IfOk-weaker}
use Rattle.pig_value.specs.Trees.{rows_tree}
use Rattle.pig_rank.specs.Ranks.{AreBehindLongs, AreRanked, start_tree}
use Rattle.pig_rank.specs.Walks.{ranked_on}
use Rattle.pig_rank.proofs.Ranked.{are_ranked, behind_longs}
use Rattle.pig_rank.proofs.ranking.rank_rows.Goals as goal

pub returns-clause-ranked : goal.returns-clause-ranked
returns-clause-ranked c =
    let told : IfOk c.ranked_behind.result (λ ranked. rows_tree ranked ≡ ranked_on c.args.keys.now c.args.dense (start_tree c.args.start.now) (rows_tree c.args.rows.now)) = search rules in
    IfOk-weaker c.ranked_behind.result (λ ranked. rows_tree ranked ≡ ranked_on c.args.keys.now c.args.dense (start_tree c.args.start.now) (rows_tree c.args.rows.now))
    (λ ranked. AreRanked c.args.keys.now c.args.dense (start_tree c.args.start.now) (rows_tree c.args.rows.now) (rows_tree ranked))
    (λ ranked is. are_ranked c.args.keys.now c.args.dense (start_tree c.args.start.now) (rows_tree c.args.rows.now) (rows_tree ranked) is) told

pub returns-clause-longs : goal.returns-clause-longs
returns-clause-longs c =
    let told : IfOk c.ranked_behind.result (λ ranked. rows_tree ranked ≡ ranked_on c.args.keys.now c.args.dense (start_tree c.args.start.now) (rows_tree c.args.rows.now)) = search rules in
    IfOk-weaker c.ranked_behind.result (λ ranked. rows_tree ranked ≡ ranked_on c.args.keys.now c.args.dense (start_tree c.args.start.now) (rows_tree c.args.rows.now))
    (λ ranked. AreBehindLongs (rows_tree c.args.rows.now) (rows_tree ranked))
    (λ ranked is. subst (AreBehindLongs (rows_tree c.args.rows.now)) (sym is) (behind_longs c.args.keys.now c.args.dense (start_tree c.args.start.now) (rows_tree c.args.rows.now))) told
