use Rattle.std.proofs.Common.{◌≡◌, ◌+◌, ◌*◌, map, max, take}
use Rattle.pig_typed.specs.Typed.{link_of, typed}
use Rattle.pig_typed.specs.declared.exprs.TExpr.TheViews.{size-TExpr}
use Rattle.pig_cuts.specs.Cuts.{cut_at}
use Rattle.pig_cuts.specs.Fits.{fit}
use Rattle.pig_prune.specs.Pruned.{fit_link}
use Rattle.pig_prune.proofs.fitting.+fit_expr.Given as goal

abbrev pub decreases-fit_expr : goal.decreases-fit_expr
decreases-fit_expr l = 4 * goal.size-fit_expr l

abbrev pub decreases-fit_boxed : goal.decreases-fit_boxed
decreases-fit_boxed l = 4 * goal.size-fit_boxed l + 1

abbrev pub decreases-fit_compare : goal.decreases-fit_compare
decreases-fit_compare l = 4 * max (size-TExpr l.a.now) (size-TExpr l.b.now) + 2

abbrev pub decreases-fit_choose : goal.decreases-fit_choose
decreases-fit_choose l = 4 * max (size-TExpr l.cond.now) (max (size-TExpr l.yes.now) (size-TExpr l.no.now)) + 2

abbrev pub decreases-fit_project : goal.decreases-fit_project
decreases-fit_project l = 4 * size-TExpr l.a.now + 2

abbrev pub decreases-fit_link : goal.decreases-fit_link
decreases-fit_link l = 4 * goal.size-fit_link l + 1

abbrev pub decreases-fit_links : goal.decreases-fit_links
decreases-fit_links l = 4 * goal.size-fit_links l + 2

abbrev pub decreases-fit_args : goal.decreases-fit_args
decreases-fit_args l = 4 * goal.size-fit_args l + 1

abbrev pub invariant-fit_links-loop-link : goal.invariant-fit_links-loop-link
invariant-fit_links-loop-link l = map link_of l.made.items ≡ map (fit_link (cut_at l.cuts) (cut_at l.cuts l.node)) (map link_of (take l.link-index l.links))

abbrev pub invariant-fit_args-loop-e : goal.invariant-fit_args-loop-e
invariant-fit_args-loop-e l = map typed l.made.items ≡ map (fit (cut_at l.cuts) (cut_at l.cuts l.node)) (map typed (take l.e-index l.args))
