-- A node that is not listed is listed behind its inputs.
use Rattle.std.proofs.Common.{rules, ◌≡◌, ◌-◌, false}
use Rattle.std.specs.List.{fold}
use Rattle.pig_plan.specs.Plans.{plan_of}
use Rattle.pig_explain.specs.Numbered.{inputs_at, is_listed, visit}
use Rattle.pig_explain.proofs.Visiting.{visited_now}
use Rattle.pig_explain.proofs.numbering.+visit.Goals as goal

pub visit-returns : goal.visit-returns
visit-returns t c =
    let plan = plan_of c.args.nodes.now in
    let some : ¬ (c.args.depth ≡ 0) = search rules in
    let fresh : is_listed c.args.listed.now.items c.args.number ≡ false = search rules in
    let below : c.visit_all.new.listed.items ≡ fold (visit (c.args.depth - 1) plan) c.args.listed.now.items (inputs_at plan c.args.number) = search rules in
    visited_now plan c.args.listed.now.items c.visit_all.new.listed.items c.push.new.self.items c.args.number c.args.depth some fresh below c.in_ok-push.ensures.items
