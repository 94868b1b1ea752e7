use Rattle.std.proofs.Common.{rules, ◌≡◌, length}
use Rattle.std.specs.Prelude.{Some, refl, slice_get}
use Rattle.std.proofs.lemmas.Option.{slice_get_read}
use Rattle.pig_plan.proofs.Exchanged.{put_back}
use Rattle.pig_plan.proofs.exchanging.put_where.Goals as goal

pub returns-in-Ok-false-clause-no : goal.returns-in-Ok-false-clause-no
returns-in-Ok-false-clause-no c =
    let there : slice_get c.args.given.now.items c.args.place ≡ Some c.index_mut.result.now =
    slice_get_read c.args.given.now.items (length c.args.given.now.items) c.args.place c.index_mut.result.now refl c.requires.place c.index_mut.ensures.value in
    let same : c.replace-before.result ≡ c.index_mut.result.now = search rules in
    λ e. put_back c.args.given.now.items c.args.place c.replace-before.new.dest c.index_mut.result.now c.replace-before.result there same

pub returns-in-Err-clause-err : goal.returns-in-Err-clause-err
returns-in-Err-clause-err c =
    let there : slice_get c.args.given.now.items c.args.place ≡ Some c.index_mut.result.now =
    slice_get_read c.args.given.now.items (length c.args.given.now.items) c.args.place c.index_mut.result.now refl c.requires.place c.index_mut.ensures.value in
    let same : c.replace-before.result ≡ c.index_mut.result.now = search rules in
    put_back c.args.given.now.items c.args.place c.replace-before.new.dest c.index_mut.result.now c.replace-before.result there same
