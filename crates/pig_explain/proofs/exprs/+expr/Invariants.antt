-- What is written and what is to come are the whole text.
use Rattle.std.proofs.Common.{◌≡◌, ◌+◌, ◌*◌, ◌++◌, [], map, drop}
use Rattle.pig_typed.specs.Typed.{args_of, link_of, links_of, typed}
use Rattle.pig_explain.specs.ExprTexts.{args_text, links_text}
use Rattle.pig_explain.proofs.exprs.+expr.Given as goal

abbrev pub decreases-put_expr : goal.decreases-put_expr
decreases-put_expr l = 3 * goal.size-put_expr l

abbrev pub decreases-put_within : goal.decreases-put_within
decreases-put_within l = 3 * goal.size-put_within l + 1

abbrev pub decreases-put_links : goal.decreases-put_links
decreases-put_links l = 3 * goal.size-put_links l + 1

abbrev pub decreases-put_call : goal.decreases-put_call
decreases-put_call l = 3 * goal.size-put_call l + 2

abbrev pub decreases-put_args : goal.decreases-put_args
decreases-put_args l = 3 * goal.size-put_args l + 1

abbrev pub invariant-put_links-loop-link : goal.invariant-put_links-loop-link
invariant-put_links-loop-link l = l.out.items ++ links_text (links_of (map link_of (drop l.link-index l.links))) ≡ l.fn.out.items ++ links_text (links_of (map link_of l.links))

abbrev pub invariant-put_args-loop-e : goal.invariant-put_args-loop-e
invariant-put_args-loop-e l = l.out.items ++ args_text l.before (args_of (map typed (drop l.e-index l.args))) ≡ l.fn.out.items ++ args_text [] (args_of (map typed l.args))
