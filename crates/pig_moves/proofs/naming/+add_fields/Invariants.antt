use Rattle.std.proofs.Common.{◌≡◌, ◌+◌, ◌*◌, ◌++◌, map, max, take}
use Rattle.pig_typed.specs.Typed.{args_of, link_of, links_of, typed}
use Rattle.pig_typed.specs.declared.exprs.TExpr.TheViews.{size-TExpr}
use Rattle.pig_plan.specs.Moves.{arg_fields, link_fields}
use Rattle.pig_moves.proofs.naming.+add_fields.Given as goal

abbrev pub decreases-add_fields : goal.decreases-add_fields
decreases-add_fields l = 4 * goal.size-add_fields l

abbrev pub decreases-add_both : goal.decreases-add_both
decreases-add_both l = 4 * max (size-TExpr l.a.now) (size-TExpr l.b.now) + 2

abbrev pub decreases-add_of_link : goal.decreases-add_of_link
decreases-add_of_link l = 4 * goal.size-add_of_link l + 1

abbrev pub decreases-add_of_links : goal.decreases-add_of_links
decreases-add_of_links l = 4 * goal.size-add_of_links l + 2

abbrev pub decreases-add_of_args : goal.decreases-add_of_args
decreases-add_of_args l = 4 * goal.size-add_of_args l + 1

abbrev pub invariant-add_of_links-loop-link : goal.invariant-add_of_links-loop-link
invariant-add_of_links-loop-link l = l.into ≡ l.fn.into ++ link_fields (links_of (map link_of (take l.link-index l.links)))

abbrev pub invariant-add_of_args-loop-e : goal.invariant-add_of_args-loop-e
invariant-add_of_args-loop-e l = l.into ≡ l.fn.into ++ arg_fields (args_of (map typed (take l.e-index l.args)))
