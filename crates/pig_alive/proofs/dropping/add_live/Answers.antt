use Rattle.std.proofs.Common.{rules, ◌≡◌, ◌<◌, ◌++◌, ◌∷◌, [], ◌∙◌, ap, true, false, get_or, length, sym}
use Rattle.std.specs.Prelude.{Some, slice_get, refl}
use Rattle.std.proofs.lemmas.Option.{slice_get_read, slice_get_within}
use Rattle.std.proofs.lemmas.Result.{on_ok_weaker}
use Rattle.pig_plan.specs.Plans.{node_of, plan_of}
use Rattle.pig_plan.specs.Renumbered.{renamed}
use Rattle.pig_share.specs.Table.{at_of}
use Rattle.pig_alive.proofs.Places.{mark_is, node_there, picked_dead, picked_live}
use Rattle.pig_alive.proofs.dropping.add_live.Goals as goal

pub returns-then-not-mark_at : goal.returns-then-not-mark_at
returns-then-not-mark_at c =
    let at : slice_get c.args.nodes.now c.args.place ≡ Some c.in-Some.node.now =
    slice_get_read c.args.nodes.now (length c.args.nodes.now) c.args.place c.in-Some.node.now refl c.in-Some.ensures.lookup.3.0 c.in-Some.ensures.lookup.1 in
    let within : c.args.place < length (plan_of c.args.nodes.now) = slice_get_within (plan_of c.args.nodes.now) c.args.place _ (node_there c.args.nodes.now c.args.place c.in-Some.node.now at) in
    let dead : get_or c.args.live.now c.args.place false ≡ false = search rules in
    picked_dead (at_of c.args.table.now) (plan_of c.args.nodes.now) (plan_of c.args.made.now) c.args.place
    (sym (mark_is (plan_of c.args.nodes.now) c.args.live.now c.args.place c.requires within) ∙ dead)

pub returns : goal.returns
returns c =
    let at : slice_get c.args.nodes.now c.args.place ≡ Some c.in-Some.node.now =
    slice_get_read c.args.nodes.now (length c.args.nodes.now) c.args.place c.in-Some.node.now refl c.in-Some.ensures.lookup.3.0 c.in-Some.ensures.lookup.1 in
    let there = node_there c.args.nodes.now c.args.place c.in-Some.node.now at in
    let within : c.args.place < length (plan_of c.args.nodes.now) = slice_get_within (plan_of c.args.nodes.now) c.args.place _ there in
    let lives : get_or c.args.live.now c.args.place false ≡ true = search rules in
    let is : node_of c.in_ok-node.node ≡ renamed (at_of c.args.table.now) (node_of c.in-Some.node.now) = search rules in
    on_ok_weaker c.push_node.result
    (λ grown. grown ∙ ap (λ w. plan_of c.args.made.now ++ w ∷ []) is
    ∙ ap (λ more. plan_of c.args.made.now ++ more)
    (picked_live (at_of c.args.table.now) (plan_of c.args.nodes.now) c.args.place (node_of c.in-Some.node.now) there
    (sym (mark_is (plan_of c.args.nodes.now) c.args.live.now c.args.place c.requires within) ∙ lives)))
    c.push_node.ensures
