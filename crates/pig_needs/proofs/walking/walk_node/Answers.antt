use Rattle.std.proofs.Common.{rules, ◌≡◌, ◌∙◌, [], true, false, length, get_or, ap}
use Rattle.std.specs.Prelude.{Some, slice_get, slice_set, refl}
use Rattle.std.proofs.lemmas.Option.{slice_get_read}
use Rattle.std.proofs.lemmas.Result.{on_ok_weaker}
use Rattle.pig_needs.specs.Needed.{or_first}
use Rattle.pig_needs.proofs.Adding.{passed_dead, passed_live}
use Rattle.pig_needs.proofs.walking.walk_node.Goals as goal

pub returns-then-not-lives : goal.returns-then-not-lives
returns-then-not-lives c =
    let at : slice_get c.args.plan.now c.args.number ≡ Some c.in-Some-Some.node.now = search rules in
    let mark : slice_get c.args.live.now c.args.number ≡ Some false =
    slice_get_read c.args.live.now (length c.args.live.now) c.args.number c.in-Some-Some.lives.now refl c.in-Some-Some.ensures'.lookup.3.0 c.in-Some-Some.ensures'.lookup.1
    ∙ ap Some (search rules) in
    let own : c.complete.new.found.items ≡ slice_set c.args.found.now.items c.args.number (or_first (get_or c.args.found.now.items c.args.number [])) = search rules in
    let size : length c.complete.new.found.items ≡ length c.args.found.now.items = search rules in
    passed_dead c.args.plan.now c.args.live.now c.requires.live c.args.number c.in-Some-Some.node.now at c.args.found.now.items c.complete.new.found.items c.requires.so_far own size mark

pub returns : goal.returns
returns c =
    let at : slice_get c.args.plan.now c.args.number ≡ Some c.in-Some-Some.node.now = search rules in
    let mark : slice_get c.args.live.now c.args.number ≡ Some true =
    slice_get_read c.args.live.now (length c.args.live.now) c.args.number c.in-Some-Some.lives.now refl c.in-Some-Some.ensures'.lookup.3.0 c.in-Some-Some.ensures'.lookup.1
    ∙ ap Some (search rules) in
    let own : c.complete.new.found.items ≡ slice_set c.args.found.now.items c.args.number (or_first (get_or c.args.found.now.items c.args.number [])) = search rules in
    let size : length c.complete.new.found.items ≡ length c.args.found.now.items = search rules in
    on_ok_weaker c.use_inputs.result
    (passed_live c.args.plan.now c.args.live.now c.requires.live c.args.number c.in-Some-Some.node.now at c.args.found.now.items c.complete.new.found.items c.requires.so_far own size
    c.use_inputs.new.found.items mark)
    c.use_inputs.ensures
