use Rattle.std.proofs.Common.{rules, ◌≡◌, false, map}
use Rattle.pig_plan.specs.Nodes.{sorted_marks}
use Rattle.pig_plan.specs.Plans.{plan_of}
use Rattle.pig_plan.specs.Results.{at_place}
use Rattle.pig_plan.specs.Valid.{in_order}
use Rattle.pig_share.specs.Shared.{is_apart}
use Rattle.pig_share.proofs.Finding.{apart_made}
use Rattle.pig_share.proofs.apart.apart_nodes.Goals as goal

pub returns : goal.returns
returns c =
    let made : c.in_ok-apart.apart.items ≡ map (λ node. is_apart c.stand_in_order-ordered.result (at_place false c.in_ok-sorted.sorted.items) node.op) (plan_of c.args.nodes.now) = search rules in
    let ordered : c.stand_in_order-ordered.result ≡ in_order (plan_of c.args.nodes.now) = search rules in
    let sorted : c.in_ok-sorted.sorted.items ≡ sorted_marks (plan_of c.args.nodes.now) = search rules in
    apart_made (plan_of c.args.nodes.now) c.in_ok-apart.apart.items c.in_ok-sorted.sorted.items c.stand_in_order-ordered.result made ordered sorted
