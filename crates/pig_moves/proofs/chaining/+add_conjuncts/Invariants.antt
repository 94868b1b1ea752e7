use Rattle.std.proofs.Common.{◌≡◌, ◌++◌, take, map, ◌+◌, ◌*◌}
use Rattle.pig_plan.specs.Conjuncts.{link_conjuncts}
use Rattle.pig_typed.specs.Typed.{link_of, links_of, typed}
use Rattle.pig_moves.proofs.chaining.+add_conjuncts.Given as goal

abbrev pub decreases-add_conjuncts : goal.decreases-add_conjuncts
decreases-add_conjuncts l = 3 * goal.size-add_conjuncts l

abbrev pub decreases-add_links : goal.decreases-add_links
decreases-add_links l = 3 * goal.size-add_links l + 2

abbrev pub decreases-add_link : goal.decreases-add_link
decreases-add_link l = 3 * goal.size-add_link l + 1

abbrev pub invariant-add_links-loop-link : goal.invariant-add_links-loop-link
invariant-add_links-loop-link l = map typed l.into ≡ map typed l.fn.into ++ link_conjuncts (links_of (map link_of (take l.link-index l.links)))
