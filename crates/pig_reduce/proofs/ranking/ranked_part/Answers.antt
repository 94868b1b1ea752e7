use Rattle.std.proofs.Common.{◌≡◌, subst, sym}
use Rattle.std.proofs.lemmas.Result.{IfOk-weaker}
use Rattle.pig_value.specs.Trees.{rows_tree}
use Rattle.pig_physical.specs.Handed.{out_of}
use Rattle.pig_physical.specs.Values.{all_rows, rows_of_part}
use Rattle.pig_rank.specs.Ranks.{AreBehindLongs, ranked_among, start_tree}
use Rattle.std.specs.Prelude.{map}
use Rattle.pig_reduce.proofs.PartRanks.{longs_are_rows, ranked_there}
use Rattle.pig_reduce.proofs.ranking.ranked_part.Goals as goal

pub packed-requires : goal.packed-requires
packed-requires c =
    longs_are_rows (rows_tree c.in_ok-rows.rows) (rows_tree c.in_ok-ranked.ranked) c.in_ok-ranked.ensures.longs c.in_ok-rows.ensures.values

pub returns-clause-ranked : goal.returns-clause-ranked
returns-clause-ranked c sorted begins =
    let outs = map out_of c.args.outs.now in
    IfOk-weaker c.packed.result (λ rows. rows ≡ rows_tree c.in_ok-ranked.ranked)
    (λ rows. rows ≡ ranked_among c.args.keys.now c.args.dense (all_rows outs) (rows_of_part outs c.args.part))
    (λ rows is. subst (λ r. r ≡ ranked_among c.args.keys.now c.args.dense (all_rows outs) (rows_of_part outs c.args.part)) (sym is)
    (ranked_there c.args.keys.now c.args.dense outs c.args.part (start_tree c.args.start.now) (rows_tree c.in_ok-rows.rows) (rows_tree c.in_ok-ranked.ranked)
    c.in_ok-rows.ensures.is c.in_ok-ranked.ensures.ranked sorted begins)) c.packed.ensures

pub returns-clause-longs : goal.returns-clause-longs
returns-clause-longs c =
    let outs = map out_of c.args.outs.now in
    IfOk-weaker c.packed.result (λ rows. rows ≡ rows_tree c.in_ok-ranked.ranked) (λ rows. AreBehindLongs (rows_of_part outs c.args.part) rows)
    (λ rows is. subst (AreBehindLongs (rows_of_part outs c.args.part)) (sym is)
    (subst (λ rs. AreBehindLongs rs (rows_tree c.in_ok-ranked.ranked)) c.in_ok-rows.ensures.is c.in_ok-ranked.ensures.longs)) c.packed.ensures
