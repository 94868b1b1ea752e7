use Rattle.std.proofs.Common.{length, refl, ◌∙◌, ap}
use Rattle.std.specs.Prelude.{min}
use Rattle.std.proofs.lemmas.Option.{slice_get_read}
use Rattle.pig_gather.proofs.LentRows.{first_more}
use Rattle.pig_gather.proofs.whole.add_first.Goals as goal

pub loop-list-preserved : goal.loop-list-preserved
loop-list-preserved c =
    let here = slice_get_read c.args.lists.now (length c.args.lists.now) c.loop-list.list-index c.list-item.result refl c.loop-list-test.true c.list-item.is in (
      ap (λ b. b.begun) c.in_ok-add_codes.ensures,
      first_more (λ list. list.now) c.args.lists.now c.loop-list.list-index c.list-item.result c.loop-list.left c.min-some.result c.loop-list.built c.add_codes.new.built _ here
          (c.min-some.ensures ∙ ap (λ n. min n c.loop-list.left) c.len.ensures.count) c.in_ok-add_codes.ensures c.loop-list.invariant.1,
    )
