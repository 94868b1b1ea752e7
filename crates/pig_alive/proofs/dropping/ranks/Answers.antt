use Rattle.std.proofs.Common.{rules, arith, ◌≡◌, ◌<◌, ◌+◌, ◌++◌, ◌∷◌, [], false, get_or, length}
use Rattle.std.specs.Prelude.{if◌then◌else◌}
use Rattle.std.proofs.lemmas.List.{length-map}
use Rattle.pig_plan.specs.Plans.{node_of, plan_of}
use Rattle.pig_alive.proofs.Places.{counted_on, table_on}
use Rattle.pig_alive.proofs.dropping.ranks.Goals as goal

pub loop-place-preserved : goal.loop-place-preserved
loop-place-preserved c =
    let grown : c.push.new.self.items ≡ c.loop-place.table.items ++ c.loop-place.count ∷ [] = search rules in
    let more : c.in_ok-count.count ≡ (if get_or c.args.live.now c.loop-place.place false then c.loop-place.count + 1 else c.loop-place.count) = search rules in
    let within : c.loop-place.place < length c.args.plan.now = search rules in
    let size : length (plan_of c.args.plan.now) ≡ length c.args.plan.now = length-map c.args.plan.now node_of in (
      table_on (plan_of c.args.plan.now) c.loop-place.place c.loop-place.table.items c.push.new.self.items c.loop-place.count c.loop-place.invariant.0 c.loop-place.invariant.1 grown,
      counted_on (plan_of c.args.plan.now) c.args.live.now c.loop-place.place c.loop-place.count c.in_ok-count.count c.requires (omega (arith, within, size)) c.loop-place.invariant.1 more,
    )
