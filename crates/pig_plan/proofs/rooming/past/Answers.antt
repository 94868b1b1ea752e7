use Rattle.std.proofs.Common.{rules, sym, ◌≡◌, ◌∙◌, ◌<◌, ◌≤◌, ◌+◌}
use Rattle.pig_plan.proofs.Room.{past_behind, past_below}
use Rattle.pig_plan.proofs.rooming.past.Goals as goal

pub returns-then-number-at : goal.returns-then-number-at
returns-then-number-at c =
    let less : c.args.number < c.args.at = search rules in
    sym (past_below c.args.at c.args.number less)

pub returns : goal.returns
returns c =
    let behind : c.args.at ≤ c.args.number = search rules in
    let is : c.in_ok-next.next ≡ c.args.number + 1 = search rules in
    is ∙ sym (past_behind c.args.at c.args.number behind)
