use Rattle.std.proofs.Common.{◌<◌, ◌++◌, length, map, ap, arith}
use Rattle.pig_value.proofs.list_laws.Indexing.{some_at}
use Rattle.pig_plan.specs.ByKey.{nulls}
use Rattle.pig_gather.proofs.Joins.{mapped_more}
use Rattle.pig_gather.proofs.LentRows.{none_added, none_between_rows}
use Rattle.pig_gather.proofs.outer.add_right.Goals as goal

pub loop-at-init : goal.loop-at-init
loop-at-init c = none_added c.args.built.now _ c.requires.none_begun (ap (map (λ row. nulls c.args.width ++ row)) (none_between_rows c.args.own.now.entries.now c.args.own.now.from))

pub loop-at-preserved : goal.loop-at-preserved
loop-at-preserved c =
    let run = c.args.own.now.entries.now in
    let high : c.loop-at.at < length run.entries = let test = c.loop-at-test.true in let within = c.args.own.now.within in omega (arith, test, within) in
    let found = some_at run.entries c.loop-at.at high in
    mapped_more (λ row. nulls c.args.width ++ row) run c.args.own.now.from c.loop-at.at found.0 c.args.built.now c.loop-at.built c.add_behind_nulls.new.built c.loop-at.auto.at high found.1 c.loop-at.invariant (c.in_ok-add_behind_nulls.ensures found.0 found.1)
