use Rattle.std.proofs.Common.{◌≡◌, ◌+◌, ◌*◌, map, max, take}
use Rattle.pig_typed.specs.Typed.{link_of, typed}
use Rattle.pig_plan.specs.Moves.{put}
use Rattle.pig_typed.specs.declared.exprs.TExpr.TheViews.{size-TExpr}
use Rattle.pig_moves.specs.Putting.{instead_of, put_link}
use Rattle.pig_moves.proofs.putting.+put.Given as goal

abbrev pub decreases-put : goal.decreases-put
decreases-put l = 4 * goal.size-put l

abbrev pub decreases-put_boxed : goal.decreases-put_boxed
decreases-put_boxed l = 4 * goal.size-put_boxed l + 1

abbrev pub decreases-put_compare : goal.decreases-put_compare
decreases-put_compare l = 4 * max (size-TExpr l.a.now) (size-TExpr l.b.now) + 2

abbrev pub decreases-put_choose : goal.decreases-put_choose
decreases-put_choose l = 4 * max (size-TExpr l.cond.now) (max (size-TExpr l.yes.now) (size-TExpr l.no.now)) + 2

abbrev pub decreases-put_link : goal.decreases-put_link
decreases-put_link l = 4 * goal.size-put_link l + 1

abbrev pub decreases-put_links : goal.decreases-put_links
decreases-put_links l = 4 * goal.size-put_links l + 2

abbrev pub decreases-put_args : goal.decreases-put_args
decreases-put_args l = 4 * goal.size-put_args l + 1

abbrev pub invariant-put_links-loop-link : goal.invariant-put_links-loop-link
invariant-put_links-loop-link l = map link_of l.made.items ≡ map (put_link (instead_of l.instead)) (map link_of (take l.link-index l.links))

abbrev pub invariant-put_args-loop-e : goal.invariant-put_args-loop-e
invariant-put_args-loop-e l = map typed l.made.items ≡ map (put (instead_of l.instead)) (map typed (take l.e-index l.args))
