use Rattle.std.proofs.Common.{◌≡◌, ◌+◌, ◌*◌, map, max, drop}
use Rattle.pig_typed.specs.Typed.{args_of, link_of, links_of, typed}
use Rattle.pig_typed.specs.declared.exprs.TExpr.TheViews.{size-TExpr}
use Rattle.pig_share.specs.Same.{same_args, same_links}
use Rattle.pig_share.proofs.exprs.+same_expr.Given as goal

abbrev pub decreases-is_same_expr : goal.decreases-is_same_expr
decreases-is_same_expr l = 4 * goal.size-is_same_expr l

abbrev pub decreases-is_same_chained : goal.decreases-is_same_chained
decreases-is_same_chained l = 4 * max (goal.size-is_same_chained l) (size-TExpr l.first.now) + 3

abbrev pub decreases-is_same_compare : goal.decreases-is_same_compare
decreases-is_same_compare l = 4 * max (size-TExpr l.a.now) (size-TExpr l.b.now) + 1

abbrev pub decreases-is_same_null_test : goal.decreases-is_same_null_test
decreases-is_same_null_test l = 4 * size-TExpr l.a.now + 1

abbrev pub decreases-is_same_choice : goal.decreases-is_same_choice
decreases-is_same_choice l = 4 * max (size-TExpr l.cond.now) (max (size-TExpr l.yes.now) (size-TExpr l.no.now)) + 1

abbrev pub decreases-is_same_cast : goal.decreases-is_same_cast
decreases-is_same_cast l = 4 * size-TExpr l.a.now + 1

abbrev pub decreases-is_same_projection : goal.decreases-is_same_projection
decreases-is_same_projection l = 4 * size-TExpr l.a.now + 1

abbrev pub decreases-is_same_look_up : goal.decreases-is_same_look_up
decreases-is_same_look_up l = 4 * size-TExpr l.a.now + 1

abbrev pub decreases-is_same_call : goal.decreases-is_same_call
decreases-is_same_call l = 4 * goal.size-is_same_call l + 2

abbrev pub decreases-are_same_links : goal.decreases-are_same_links
decreases-are_same_links l = 4 * goal.size-are_same_links l + 2

abbrev pub decreases-is_same_link : goal.decreases-is_same_link
decreases-is_same_link l = 4 * goal.size-is_same_link l + 1

abbrev pub decreases-are_same_args : goal.decreases-are_same_args
decreases-are_same_args l = 4 * goal.size-are_same_args l + 1

abbrev pub invariant-are_same_args-loop-i : goal.invariant-are_same_args-loop-i
invariant-are_same_args-loop-i l = same_args (args_of (map typed (drop l.i l.a))) (args_of (map typed (drop l.i l.b))) ≡ same_args (args_of (map typed l.a)) (args_of (map typed l.b))

abbrev pub invariant-are_same_links-loop-i : goal.invariant-are_same_links-loop-i
invariant-are_same_links-loop-i l = same_links (links_of (map link_of (drop l.i l.a))) (links_of (map link_of (drop l.i l.b))) ≡ same_links (links_of (map link_of l.a)) (links_of (map link_of l.b))
