use Rattle.std.proofs.Common.{rules, ◌≡◌, ◌++◌, ◌∷◌, [], false, get_or, length}
use Rattle.std.specs.List.{filter}
use Rattle.pig_plan.specs.Plans.{plan_of}
use Rattle.pig_plan.specs.Marks.{AreMarks}
use Rattle.pig_plan.proofs.Marking.{are_live, one_kept}
use Rattle.pig_plan.proofs.live.live_numbers.Goals as goal

pub loop-number-preserved : goal.loop-number-preserved
loop-number-preserved c =
    let is : c.keep_marked.new.numbers.items ≡ c.loop-number.numbers.items ++ filter (λ k. get_or c.in_ok-marks.marks.items k false) (c.loop-number.number ∷ []) = search rules in
    one_kept (λ k. get_or c.in_ok-marks.marks.items k false) c.loop-number.numbers.items c.keep_marked.new.numbers.items c.loop-number.number c.loop-number.invariant is

pub returns : goal.returns
returns c =
    let told : AreMarks (plan_of c.args.plan.now) 0 c.in_ok-marks.marks.items = search rules in
    let end : c.loop-number.number ≡ length c.in_ok-marks.marks.items = search rules in
    are_live (plan_of c.args.plan.now) c.in_ok-marks.marks.items c.loop-number.numbers.items c.loop-number.number told end c.loop-number.invariant
