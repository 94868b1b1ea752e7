use Rattle.std.proofs.Common.{rules, ◌≡◌, ◌+◌, ◌&&◌, true, false}
use Rattle.std.specs.Prelude.{nat_le, nat_lt}
use Rattle.std.specs.List.{list_all}
use Rattle.pig_plan.specs.Meaning.{width_at}
use Rattle.pig_plan.specs.Plans.{plan_of}
use Rattle.pig_moves.proofs.Spots.{spot_here, spot_on}
use Rattle.pig_moves.proofs.joining.find_spot.Goals as goal

pub returns-then-are_within : goal.returns-then-are_within
returns-then-are_within c =
    let sum : c.in_ok-end.end ≡ c.loop-left.first + width_at (plan_of c.args.plan.now) c.input-item.result.input = search rules in
    let holds : list_all (λ n. nat_le c.loop-left.first n && nat_lt n c.in_ok-end.end) c.args.fields.now ≡ true = search rules in
    spot_here (width_at (plan_of c.args.plan.now)) c.args.fields.now c.loop-left.left.now c.input-item.result c.loop-left.first c.loop-left.place c.in_ok-end.end _
    c.in-len1-up.len_at_least c.input-item.is sum holds c.loop-left.invariant

pub loop-left-preserved : goal.loop-left-preserved
loop-left-preserved c =
    let sum : c.in_ok-end.end ≡ c.loop-left.first + width_at (plan_of c.args.plan.now) c.input-item.result.input = search rules in
    let more : c.in_ok-place.place ≡ c.loop-left.place + 1 = search rules in
    let holds : list_all (λ n. nat_le c.loop-left.first n && nat_lt n c.in_ok-end.end) c.args.fields.now ≡ false = search rules in
    spot_on (width_at (plan_of c.args.plan.now)) c.args.fields.now c.loop-left.left.now c.input-item.result c.loop-left.first c.loop-left.place c.in_ok-end.end c.in_ok-place.place _
    c.in-len1-up.len_at_least c.input-item.is sum more holds c.loop-left.invariant
