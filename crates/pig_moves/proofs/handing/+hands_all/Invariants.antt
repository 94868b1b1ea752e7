use Rattle.std.proofs.Common.{◌≡◌, ◌+◌, ◌*◌, map, drop}
use Rattle.pig_typed.specs.Typed.{args_of, item_typed, link_of, links_of, typed}
use Rattle.pig_moves.specs.Pushed.{each_arg, each_link, is_handed}
use Rattle.pig_moves.proofs.handing.+hands_all.Given as goal

abbrev pub decreases-hands_all : goal.decreases-hands_all
decreases-hands_all l = 2 * goal.size-hands_all l

abbrev pub decreases-hands_links : goal.decreases-hands_links
decreases-hands_links l = 2 * goal.size-hands_links l + 1

abbrev pub decreases-hands_args : goal.decreases-hands_args
decreases-hands_args l = 2 * goal.size-hands_args l + 1

abbrev pub invariant-hands_links-loop-link : goal.invariant-hands_links-loop-link
invariant-hands_links-loop-link l = each_link (is_handed (map item_typed l.items)) (links_of (map link_of (drop l.link-index l.links)))
    ≡ each_link (is_handed (map item_typed l.items)) (links_of (map link_of l.links))

abbrev pub invariant-hands_args-loop-e : goal.invariant-hands_args-loop-e
invariant-hands_args-loop-e l = each_arg (is_handed (map item_typed l.items)) (args_of (map typed (drop l.e-index l.args)))
    ≡ each_arg (is_handed (map item_typed l.items)) (args_of (map typed l.args))
