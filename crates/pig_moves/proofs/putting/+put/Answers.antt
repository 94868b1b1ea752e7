use Rattle.std.proofs.Common.{rules, ◌≡◌, ◌≤◌, ◌∙◌, ap, length, map, subst, sym}
use Rattle.std.specs.Prelude.{IfOk}
use Rattle.std.proofs.lemmas.List.{take_all}
use Rattle.pig_typed.specs.Typed.{args_of, link_of, links_of, typed, x_choose, x_compare}
use Rattle.pig_plan.specs.Moves.{put}
use Rattle.pig_moves.specs.Putting.{instead_of, put_link}
use Rattle.pig_moves.proofs.Steps.{args_put, links_put, typed_choose, typed_compare}
use Rattle.pig_moves.proofs.putting.+put.Goals as goal

pub put_args-returns : goal.put_args-returns
put_args-returns t c =
    let whole : length c.as_slice-args.result.now ≤ c.loop-e.e-index = search rules in
    let is : map typed c.from_vec.result ≡ map (put (instead_of c.args.instead)) (map typed c.args.args.now) =
    ap (map typed) c.from_vec.ensures ∙ c.loop-e.invariant
    ∙ ap (λ xs. map (put (instead_of c.args.instead)) (map typed xs)) (take_all c.loop-e.e-index c.as_slice-args.result.now whole ∙ c.as_slice-args.ensures) in
    ap args_of is ∙ args_put (instead_of c.args.instead) (map typed c.args.args.now)

pub put_links-returns : goal.put_links-returns
put_links-returns t c =
    let whole : length c.as_slice-links.result.now ≤ c.loop-link.link-index = search rules in
    let is : map link_of c.from_vec.result ≡ map (put_link (instead_of c.args.instead)) (map link_of c.args.links.now) =
    ap (map link_of) c.from_vec.ensures ∙ c.loop-link.invariant
    ∙ ap (λ xs. map (put_link (instead_of c.args.instead)) (map link_of xs)) (take_all c.loop-link.link-index c.as_slice-links.result.now whole ∙ c.as_slice-links.ensures) in
    ap links_of is ∙ links_put (instead_of c.args.instead) (map link_of c.args.links.now)

pub put-returns-in-Compare : goal.put-returns-in-Compare
put-returns-in-Compare t c =
    let is : typed c.args.e.now ≡ x_compare c.in-Compare.op (typed c.in-Compare.a) (typed c.in-Compare.b) =
    ap typed c.in-Compare.is ∙ typed_compare c.in-Compare.op c.in-Compare.a c.in-Compare.b in
    subst (λ e. IfOk c.put_compare.result (λ made. typed made ≡ e)) (ap (put (instead_of c.args.instead)) (sym is)) c.put_compare.ensures

pub put-returns-in-Choose : goal.put-returns-in-Choose
put-returns-in-Choose t c =
    let is : typed c.args.e.now ≡ x_choose (typed c.in-Choose.cond) (typed c.in-Choose.yes) (typed c.in-Choose.no) =
    ap typed c.in-Choose.is ∙ typed_choose c.in-Choose.cond c.in-Choose.yes c.in-Choose.no in
    subst (λ e. IfOk c.put_choose.result (λ made. typed made ≡ e)) (ap (put (instead_of c.args.instead)) (sym is)) c.put_choose.ensures
