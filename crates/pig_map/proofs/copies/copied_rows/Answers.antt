use Rattle.std.proofs.Common.{rules, ◌≤◌, ◌<◌, ◌∙◌, ap, length, refl, slice_get, subst, sym}
use Rattle.std.specs.Option.{option_map}
use Rattle.std.proofs.lemmas.List.{length-map}
use Rattle.std.proofs.lemmas.Option.{slice_get_read, slice_get-map}
use Rattle.pig_value.specs.Trees.{rows_tree}
use Rattle.pig_value.proofs.list_laws.Indexing.{some_at}
use Rattle.pig_physical.specs.Handed.{out_of, outs_of}
use Rattle.pig_physical.specs.Outs.{outs_at}
use Rattle.pig_physical.specs.Seen.{staged}
use Rattle.pig_physical.specs.Stages.{tasks_in}
use Rattle.pig_map.specs.Copies.{rows_for}
use Rattle.pig_map.proofs.Copied.{rows_more, rows_over}
use Rattle.pig_map.proofs.copies.copied_rows.Goals as goal

pub returns-in_default-clause-are : goal.returns-in_default-clause-are
returns-in_default-clause-are c =
    let tasks = tasks_in (staged c.args.wave.now.stages.now) c.args.wave.now.number in
    let seen = outs_at (outs_of c.args.wave.now.prior.now) c.args.wave.now.number in
    let outs = c.outs_at-outs.result.now in
    rows_over c.args.place tasks seen c.loop-at.at (rows_tree c.loop-at.rows) (rows_for c.args.place tasks seen)
    (subst (λ os. length os ≤ c.loop-at.at) c.outs_at-outs.ensures (subst (λ n. n ≤ c.loop-at.at) (sym (length-map outs out_of)) c.in_default.ensures.lookup.3))
    c.loop-at.invariant.0

pub loop-at-preserved : goal.loop-at-preserved
loop-at-preserved c =
    let tasks = tasks_in (staged c.args.wave.now.stages.now) c.args.wave.now.number in
    let seen = outs_at (outs_of c.args.wave.now.prior.now) c.args.wave.now.number in
    let outs = c.outs_at-outs.result.now in
    let less : c.loop-at.at < length tasks = search rules in
    let task = some_at tasks c.loop-at.at less in
    let there = slice_get_read outs (length outs) c.loop-at.at c.in-Some.out.now refl c.in-Some.ensures.lookup.3.0 c.in-Some.ensures.lookup.1 in (
      rows_more c.args.place tasks seen c.loop-at.at task.0 (out_of c.in-Some.out.now) (rows_tree c.loop-at.rows) (rows_tree c.add_copied.new.rows)
          (rows_for c.args.place tasks seen) task.1
          (ap (λ os. slice_get os c.loop-at.at) (sym c.outs_at-outs.ensures) ∙ slice_get-map out_of outs c.loop-at.at ∙ ap (option_map out_of) there)
          c.loop-at.invariant.0 (c.in_ok-add_copied.ensures.more task.0 task.1),
      c.in_ok-add_copied.ensures.values c.loop-at.invariant.1,
    )
