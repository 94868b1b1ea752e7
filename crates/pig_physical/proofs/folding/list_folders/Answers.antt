use Rattle.std.proofs.Common.{rules, ◌≡◌, ◌++◌, ◌∷◌, [], ◌∙◌, map, length, sym, refl, ap, subst}
use Rattle.std.specs.Option.{is_some}
use Rattle.std.proofs.lemmas.List.{length-map, map-append}
use Rattle.pig_plan.specs.Plans.{node_of, plan_of}
use Rattle.pig_physical.specs.Foldings.{IsFolder}
use Rattle.pig_physical.proofs.Foldings.{AreUpTo, are_folders, one_more}
use Rattle.pig_physical.proofs.folding.list_folders.Goals as goal

pub loop-number-preserved : goal.loop-number-preserved
loop-number-preserved c =
    let users : c.push-in-loop-number.new.self ≡ c.loop-number.users ++ c.in_ok-user.user ∷ [] = search rules in
    let marks : c.push.new.self ≡ c.loop-number.marks ++ is_some c.in_ok-user.user ∷ [] = search rules in
    let is : IsFolder (plan_of c.args.nodes.now) c.loop-number.number c.in_ok-user.user = search rules in (
      subst (AreUpTo (plan_of c.args.nodes.now) _) (sym users) (one_more (plan_of c.args.nodes.now) c.loop-number.number c.loop-number.users c.in_ok-user.user c.loop-number.invariant.0 is),
      marks ∙ ap (λ ms. ms ++ is_some c.in_ok-user.user ∷ []) c.loop-number.invariant.1 ∙ sym (map-append is_some c.loop-number.users (c.in_ok-user.user ∷ [])) ∙ ap (map is_some) (sym users),
    )

pub returns : goal.returns
returns c =
    let end : c.loop-number.number ≡ length c.args.nodes.now = search rules in
    are_folders (plan_of c.args.nodes.now) c.loop-number.number c.loop-number.users c.loop-number.invariant.0 (end ∙ sym (length-map c.args.nodes.now node_of)) _ refl c.loop-number.invariant.1
