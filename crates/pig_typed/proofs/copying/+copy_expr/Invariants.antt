use Rattle.std.proofs.Common.{◌≡◌, take, ◌+◌, ◌*◌}
use Rattle.pig_typed.proofs.copying.+copy_expr.Given as goal

abbrev pub decreases-copy_expr : goal.decreases-copy_expr
decreases-copy_expr l = 3 * goal.size-copy_expr l

abbrev pub decreases-copy_links : goal.decreases-copy_links
decreases-copy_links l = 3 * goal.size-copy_links l + 1

abbrev pub decreases-copy_exprs : goal.decreases-copy_exprs
decreases-copy_exprs l = 3 * goal.size-copy_exprs l + 1

abbrev pub invariant-copy_links-loop-link : goal.invariant-copy_links-loop-link
invariant-copy_links-loop-link l = l.made.items ≡ take l.link-index l.links

abbrev pub invariant-copy_exprs-loop-e : goal.invariant-copy_exprs-loop-e
invariant-copy_exprs-loop-e l = l.made.items ≡ take l.e-index l.exprs
