use Rattle.std.proofs.Common.{rules, ◌≡◌, ◌∙◌, Some}
use Rattle.std.specs.Prelude.{slice_get, slice_set}
use Rattle.pig_relations.proofs.Index.{put_back}
use Rattle.pig_relations.proofs.aliases.let_go_at.Goals as goal

pub returns : goal.returns
returns c =
    let at : Some c.in-Some.named.now ≡ slice_get c.args.given.now c.args.place = search rules in
    let put : c.replace.new.self ≡ slice_set c.args.given.now c.args.place c.in_ok-gone-in-Some.gone = search rules in
    let is : c.in_ok-gone-in-Some.gone ≡ c.in-Some.named.now = search rules in
    put ∙ put_back c.args.given.now c.args.place c.in-Some.named.now c.in_ok-gone-in-Some.gone at is
