use Rattle.std.proofs.Common.{◌≡◌, ◌+◌, ◌*◌, map, drop}
use Rattle.pig_typed.specs.Typed.{args_of, link_of, links_of, typed}
use Rattle.pig_share.specs.Hashed.{args_hash, links_hash}
use Rattle.pig_share.proofs.hashing.+mix_expr.Given as goal

abbrev pub decreases-mix_expr : goal.decreases-mix_expr
decreases-mix_expr l = 3 * goal.size-mix_expr l

abbrev pub decreases-mix_links : goal.decreases-mix_links
decreases-mix_links l = 3 * goal.size-mix_links l + 1

abbrev pub decreases-mix_args : goal.decreases-mix_args
decreases-mix_args l = 3 * goal.size-mix_args l + 1

abbrev pub invariant-mix_links-loop-link : goal.invariant-mix_links-loop-link
invariant-mix_links-loop-link l = links_hash l.made (links_of (map link_of (drop l.link-index l.links))) ≡ links_hash l.h (links_of (map link_of l.links))

abbrev pub invariant-mix_args-loop-e : goal.invariant-mix_args-loop-e
invariant-mix_args-loop-e l = args_hash l.made (args_of (map typed (drop l.e-index l.args))) ≡ args_hash l.h (args_of (map typed l.args))
