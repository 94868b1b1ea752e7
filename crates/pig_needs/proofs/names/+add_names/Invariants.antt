use Rattle.std.proofs.Common.{◌≡◌, ◌++◌, ◌+◌, ◌*◌, map, drop}
use Rattle.pig_typed.specs.Typed.{args_of, link_of, links_of, typed}
use Rattle.pig_needs.specs.Needed.{arg_names, link_names}
use Rattle.pig_needs.proofs.names.+add_names.Given as goal

abbrev pub decreases-add_names : goal.decreases-add_names
decreases-add_names l = 3 * goal.size-add_names l

abbrev pub decreases-add_link_names : goal.decreases-add_link_names
decreases-add_link_names l = 3 * goal.size-add_link_names l + 1

abbrev pub decreases-add_arg_names : goal.decreases-add_arg_names
decreases-add_arg_names l = 3 * goal.size-add_arg_names l + 1

abbrev pub invariant-add_link_names-loop-link : goal.invariant-add_link_names-loop-link
invariant-add_link_names-loop-link l = l.found ++ link_names (links_of (map link_of (drop l.link-index l.links))) ≡ l.initial.found ++ link_names (links_of (map link_of l.links))

abbrev pub invariant-add_arg_names-loop-e : goal.invariant-add_arg_names-loop-e
invariant-add_arg_names-loop-e l = l.found ++ arg_names (args_of (map typed (drop l.e-index l.args))) ≡ l.initial.found ++ arg_names (args_of (map typed l.args))
