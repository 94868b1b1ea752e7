use Rattle.std.proofs.Common.{rules, ◌≡◌, ◌||◌, true, false, get_or}
use Rattle.pig_plan.proofs.Marking.{then_marked}
use Rattle.pig_plan.proofs.live.mark.Goals as goal

pub returns : goal.returns
returns c =
    let live : (c.args.is_store || get_or c.args.marks.now.items c.args.number false) ≡ true = search rules in
    then_marked c.args.number c.args.is_store c.args.inputs.now c.args.marks.now.items c.mark_one.new.marks.items c.mark_inputs.new.marks.items
    c.requires.lower live c.mark_one.ensures.size c.mark_one.ensures.each c.mark_inputs.ensures.size c.mark_inputs.ensures.each
