use Rattle.std.proofs.Common.{◌≡◌, ◌+◌, ◌*◌, map, max, take}
use Rattle.pig_typed.specs.Typed.{args_of, link_of, links_of, typed}
use Rattle.pig_typed.specs.declared.exprs.TExpr.TheViews.{size-TExpr}
use Rattle.pig_moves.specs.Depths.{arg_depth, arg_size, link_depth, link_size}
use Rattle.pig_moves.proofs.extents.+extent_of.Given as goal

abbrev pub decreases-extent_of : goal.decreases-extent_of
decreases-extent_of l = 3 * goal.size-extent_of l

abbrev pub decreases-of_both : goal.decreases-of_both
decreases-of_both l = 3 * max (size-TExpr l.a.now) (size-TExpr l.b.now) + 1

abbrev pub decreases-of_link : goal.decreases-of_link
decreases-of_link l = 3 * goal.size-of_link l + 1

abbrev pub decreases-of_links : goal.decreases-of_links
decreases-of_links l = 3 * goal.size-of_links l + 2

abbrev pub decreases-of_args : goal.decreases-of_args
decreases-of_args l = 3 * goal.size-of_args l + 1

abbrev pub invariant-of_links-loop-link : goal.invariant-of_links-loop-link
invariant-of_links-loop-link l = (l.all.levels ≡ link_depth (links_of (map link_of (take l.link-index l.links))))
    × (l.all.nodes ≡ link_size (links_of (map link_of (take l.link-index l.links))))

abbrev pub invariant-of_args-loop-e : goal.invariant-of_args-loop-e
invariant-of_args-loop-e l = (l.all.levels ≡ arg_depth (args_of (map typed (take l.e-index l.args))))
    × (l.all.nodes ≡ arg_size (args_of (map typed (take l.e-index l.args))))
