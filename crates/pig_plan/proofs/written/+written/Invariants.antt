use Rattle.std.proofs.Common.{◌≡◌, map, drop, ◌+◌, ◌*◌}
use Rattle.pig_plan.specs.Written.{args_write_lf, links_write_lf}
use Rattle.pig_typed.specs.Typed.{args_of, link_of, links_of, typed}
use Rattle.pig_plan.proofs.written.+written.Given as goal

abbrev pub decreases-writes_line_end : goal.decreases-writes_line_end
decreases-writes_line_end l = 3 * goal.size-writes_line_end l

abbrev pub decreases-writes_within : goal.decreases-writes_within
decreases-writes_within l = 3 * goal.size-writes_within l + 1

abbrev pub decreases-any_link_writes : goal.decreases-any_link_writes
decreases-any_link_writes l = 3 * goal.size-any_link_writes l + 1

abbrev pub decreases-any_writes : goal.decreases-any_writes
decreases-any_writes l = 3 * goal.size-any_writes l + 1

abbrev pub invariant-any_link_writes-loop-link : goal.invariant-any_link_writes-loop-link
invariant-any_link_writes-loop-link l = links_write_lf (links_of (map link_of (drop l.link-index l.links))) ≡ links_write_lf (links_of (map link_of l.links))

abbrev pub invariant-any_writes-loop-e : goal.invariant-any_writes-loop-e
invariant-any_writes-loop-e l = args_write_lf (args_of (map typed (drop l.e-index l.args))) ≡ args_write_lf (args_of (map typed l.args))
