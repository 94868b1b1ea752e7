use Rattle.std.proofs.Common.{◌≡◌, ◌++◌, ◌+◌, ◌*◌, map, drop}
use Rattle.pig_plan.specs.Moves.{arg_fields, link_fields}
use Rattle.pig_typed.specs.Typed.{args_of, link_of, links_of, typed}
use Rattle.pig_needs.specs.Needed.{field}
use Rattle.pig_needs.proofs.blocks.+add_whole_fields.Given as goal

abbrev pub decreases-add_whole_fields : goal.decreases-add_whole_fields
decreases-add_whole_fields l = 3 * goal.size-add_whole_fields l

abbrev pub decreases-add_link_fields : goal.decreases-add_link_fields
decreases-add_link_fields l = 3 * goal.size-add_link_fields l + 1

abbrev pub decreases-add_arg_fields : goal.decreases-add_arg_fields
decreases-add_arg_fields l = 3 * goal.size-add_arg_fields l + 1

abbrev pub invariant-add_link_fields-loop-link : goal.invariant-add_link_fields-loop-link
invariant-add_link_fields-loop-link l = l.found ++ map field (link_fields (links_of (map link_of (drop l.link-index l.links)))) ≡ l.initial.found ++ map field (link_fields (links_of (map link_of l.links)))

abbrev pub invariant-add_arg_fields-loop-e : goal.invariant-add_arg_fields-loop-e
invariant-add_arg_fields-loop-e l = l.found ++ map field (arg_fields (args_of (map typed (drop l.e-index l.args)))) ≡ l.initial.found ++ map field (arg_fields (args_of (map typed l.args)))
