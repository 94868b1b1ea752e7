use Rattle.std.proofs.Common.{map, subst, sym}
use Rattle.pig_replicated.specs.Held.{keyed_of}
use Rattle.pig_replicated.proofs.Grouping.{IsCutUpTo, fewer_left, next_cut}
use Rattle.pig_replicated.proofs.building.groups_of.Goals as goal

pub groups-smaller : goal.groups-smaller
groups-smaller c = fewer_left c.groups.left.now c.rest-left.result.now c.first-item.result c.run_len-count.result c.in-len1-up.len_at_least c.first-item.is c.run_len-count.ensures.count c.rest-left.ensures

pub groups-preserved : goal.groups-preserved
groups-preserved c =
    subst (λ groups. IsCutUpTo groups (map keyed_of c.rest-left.result.now) (map keyed_of c.args.held.now)) (sym c.in_ok-push.ensures.items)
    (next_cut c.groups.groups.items c.in_ok-group_of.field-0 c.first-item.result c.groups.left.now c.front.result.now c.rest-left.result.now (map keyed_of c.args.held.now) c.run_len-count.result
    c.in-len1-up.len_at_least c.first-item.is c.run_len-count.ensures.count c.in_ok-group_of.ensures.key c.in_ok-group_of.ensures.rows c.front.ensures c.rest-left.ensures c.groups.invariant)
