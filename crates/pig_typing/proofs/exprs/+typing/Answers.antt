use Rattle.std.proofs.Common.{◌≡◌, ◌+◌, map, drop, ◌∙◌, ap, refl, subst, sym, rules}
use Rattle.std.specs.declared.result.Result.TheVariants.{Ok, Err}
use Rattle.pig_syntax.specs.ExprTrees.{e_cast, expr_form, link_form, link_forms}
use Rattle.pig_syntax.proofs.ExprTreeLaws.{form-Cast}
use Rattle.pig_typing.specs.Columns.{place_of}
use Rattle.pig_typing.specs.Reader.{links_on, type_of, typed_link}
use Rattle.pig_typing.specs.Results.{Tells, checked_then}
use Rattle.pig_typing.specs.Typing.{begun, chain_typing}
use Rattle.pig_typing.specs.Views.{chain_tree, typing_tree}
use Rattle.pig_typing.proofs.LinkSteps.{link_step, passes_fault}
use Rattle.pig_typing.proofs.exprs.+typing.Goals as goal

pub chain-loop-link-preserved : goal.chain-loop-link-preserved
chain-loop-link-preserved t c =
    let s = place_of c.args.scope.now in
    let items = c.as_slice-link-items.result.now in
    let rest = link_forms (map link_form (drop (c.loop-link.link-index + 1) items)) in
    let all = links_on s (begun (typing_tree c.args.first)) (link_forms (map link_form c.args.links.now)) in
    let step = link_step s (chain_tree c.loop-link.so_far) items c.loop-link.link-index c.link-item.result (typing_tree c.in_ok-a.a) all
    c.loop-link-test.true c.link-item.is c.in_ok-a.ensures c.loop-link.invariant in
    subst (λ r. checked_then (λ next. links_on s next rest) r ≡ all) c.in_ok-so_far-2.ensures step

pub chain-returns-in_err-so_far-2 : goal.chain-returns-in_err-so_far-2
chain-returns-in_err-so_far-2 t c =
    let s = place_of c.args.scope.now in
    let items = c.as_slice-link-items.result.now in
    let rest = link_forms (map link_form (drop (c.loop-link.link-index + 1) items)) in
    let all = links_on s (begun (typing_tree c.args.first)) (link_forms (map link_form c.args.links.now)) in
    let so_far = chain_tree c.loop-link.so_far in
    let p = typing_tree c.in_ok-a.a in
    let link = c.link-item.result in
    let step = link_step s so_far items c.loop-link.link-index link p all c.loop-link-test.true c.link-item.is c.in_ok-a.ensures c.loop-link.invariant in
    let fault = c.in_err-so_far-2.field-0.0 in
    let first : Tells chain_tree all (Err fault) = passes_fault chain_tree chain_tree (typed_link so_far link.op p) (λ next. links_on s next rest) all fault step c.in_err-so_far-2.ensures in
    let is : c.from_residual-in_err-so_far-2.result ≡ Err fault = search rules in
    rw is (passes_fault chain_tree typing_tree all (λ whole. Ok (chain_typing whole)) _ fault refl first)

pub type_in-returns-in-Cast : goal.type_in-returns-in-Cast
type_in-returns-in-Cast t c =
    let form : expr_form c.args.e.now ≡ e_cast c.in-Cast.to (expr_form c.in-Cast.a) = ap expr_form c.in-Cast.is ∙ form-Cast c.in-Cast.to c.in-Cast.a in
    let told : Tells typing_tree (type_of (place_of c.args.scope.now) (e_cast c.in-Cast.to (expr_form c.in-Cast.a))) c.cast.result = search rules in
    subst (λ f. Tells typing_tree (type_of (place_of c.args.scope.now) f) c.cast.result) (sym form) told
