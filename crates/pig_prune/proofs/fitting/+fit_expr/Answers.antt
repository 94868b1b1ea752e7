use Rattle.std.proofs.Common.{rules, ◌≡◌, ◌≤◌, ◌∙◌, ap, length, map}
use Rattle.std.proofs.lemmas.List.{take_all}
use Rattle.pig_typed.specs.Typed.{args_of, link_of, links_of, typed}
use Rattle.pig_cuts.specs.Cuts.{cut_at}
use Rattle.pig_cuts.specs.Fits.{fit}
use Rattle.pig_prune.specs.Pruned.{fit_link}
use Rattle.pig_prune.proofs.Ends.{args_fit, links_fit}
use Rattle.pig_prune.proofs.fitting.+fit_expr.Goals as goal

pub fit_args-returns : goal.fit_args-returns
fit_args-returns t c =
    let whole : length c.as_slice-args.result.now ≤ c.loop-e.e-index = search rules in
    let is : map typed c.from_vec.result ≡ map (fit (cut_at c.args.cuts.now) (cut_at c.args.cuts.now c.args.node)) (map typed c.args.args.now) =
    ap (map typed) c.from_vec.ensures ∙ c.loop-e.invariant
    ∙ ap (λ xs. map (fit (cut_at c.args.cuts.now) (cut_at c.args.cuts.now c.args.node)) (map typed xs)) (take_all c.loop-e.e-index c.as_slice-args.result.now whole ∙ c.as_slice-args.ensures) in
    ap args_of is ∙ args_fit (cut_at c.args.cuts.now) (cut_at c.args.cuts.now c.args.node) (map typed c.args.args.now)

pub fit_links-returns : goal.fit_links-returns
fit_links-returns t c =
    let whole : length c.as_slice-links.result.now ≤ c.loop-link.link-index = search rules in
    let is : map link_of c.from_vec.result ≡ map (fit_link (cut_at c.args.cuts.now) (cut_at c.args.cuts.now c.args.node)) (map link_of c.args.links.now) =
    ap (map link_of) c.from_vec.ensures ∙ c.loop-link.invariant
    ∙ ap (λ xs. map (fit_link (cut_at c.args.cuts.now) (cut_at c.args.cuts.now c.args.node)) (map link_of xs)) (take_all c.loop-link.link-index c.as_slice-links.result.now whole ∙ c.as_slice-links.ensures) in
    ap links_of is ∙ links_fit (cut_at c.args.cuts.now) (cut_at c.args.cuts.now c.args.node) (map link_of c.args.links.now)
