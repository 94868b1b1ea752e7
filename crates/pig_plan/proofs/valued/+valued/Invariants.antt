use Rattle.std.proofs.Common.{map, drop, ◌+◌, ◌*◌}
use Rattle.pig_typed.specs.Literals.{ArgLiteralsAre, LinkLiteralsAre}
use Rattle.pig_typed.specs.Typed.{args_of, link_of, links_of, typed}
use Rattle.pig_value.specs.Valid.{IsValue}
use Rattle.pig_plan.proofs.valued.+valued.Given as goal

abbrev pub decreases-know_literals_of : goal.decreases-know_literals_of
decreases-know_literals_of l = 3 * goal.size-know_literals_of l

abbrev pub decreases-know_within : goal.decreases-know_within
decreases-know_within l = 3 * goal.size-know_within l + 1

abbrev pub decreases-know_links : goal.decreases-know_links
decreases-know_links l = 3 * goal.size-know_links l + 1

abbrev pub decreases-know_all : goal.decreases-know_all
decreases-know_all l = 3 * goal.size-know_all l + 1

abbrev pub invariant-know_links-loop-link : goal.invariant-know_links-loop-link
invariant-know_links-loop-link l = LinkLiteralsAre IsValue (links_of (map link_of (drop l.link-index l.links))) → LinkLiteralsAre IsValue (links_of (map link_of l.links))

abbrev pub invariant-know_all-loop-e : goal.invariant-know_all-loop-e
invariant-know_all-loop-e l = ArgLiteralsAre IsValue (args_of (map typed (drop l.e-index l.args))) → ArgLiteralsAre IsValue (args_of (map typed l.args))
