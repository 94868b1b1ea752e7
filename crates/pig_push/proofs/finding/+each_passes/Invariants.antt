use Rattle.std.proofs.Common.{◌≡◌, ◌+◌, ◌*◌, map, drop}
use Rattle.std.specs.List.{list_all}
use Rattle.pig_plan.specs.Conjuncts.{link_conjuncts}
use Rattle.pig_plan.specs.Meaning.{width_at}
use Rattle.pig_plan.specs.Plans.{op_of, plan_of}
use Rattle.pig_typed.specs.Typed.{link_of, links_of}
use Rattle.pig_moves.specs.Pushed.{may_pass}
use Rattle.pig_push.proofs.finding.+each_passes.Given as goal

abbrev pub decreases-each_passes : goal.decreases-each_passes
decreases-each_passes l = 2 * goal.size-each_passes l

abbrev pub decreases-each_link_passes : goal.decreases-each_link_passes
decreases-each_link_passes l = 2 * goal.size-each_link_passes l + 1

abbrev pub invariant-each_link_passes-loop-link : goal.invariant-each_link_passes-loop-link
invariant-each_link_passes-loop-link l = list_all (may_pass (width_at (plan_of l.plan)) (op_of l.op)) (link_conjuncts (links_of (map link_of (drop l.link-index l.links))))
    ≡ list_all (may_pass (width_at (plan_of l.plan)) (op_of l.op)) (link_conjuncts (links_of (map link_of l.links)))
