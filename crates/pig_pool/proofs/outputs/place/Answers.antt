use Rattle.std.proofs.Common.{◌≡◌, ◌∷◌, rules, refl, arith}
use Rattle.pig_pool.proofs.Placing.{placing-starts, placing-below, placing-goes}
use Rattle.pig_pool.proofs.outputs.place.Goals as goal

pub loop-t-init : goal.loop-t-init
loop-t-init g c =
    let right = g.W.Work.right c.args.work.now in
    let count = c.requires.places in
    let len = c.args.places.now.ok in
    placing-starts right (g.W.Work.count c.args.work.now) c.args.places.now.items c.args.outputs (omega arith) c.requires.each c.requires.right

pub index_mut-requires : goal.index_mut-requires
index_mut-requires g c =
    let right = g.W.Work.right c.args.work.now in
    let first : c.loop-t.outputs ≡ (c.in-Some.t, c.in-Some.output) ∷ c.pop_front.new.self = search rules in
    let below = placing-below right (g.W.Work.count c.args.work.now) c.loop-t.places.items c.loop-t.outputs c.pop_front.new.self (c.in-Some.t, c.in-Some.output) first c.loop-t.invariant in
    let long = c.loop-t.invariant.long in
    let len = c.loop-t.places.ok in
    omega arith

pub loop-t-preserved-in-Some : goal.loop-t-preserved-in-Some
loop-t-preserved-in-Some g c =
    let right = g.W.Work.right c.args.work.now in
    let first : c.loop-t.outputs ≡ (c.in-Some.t, c.in-Some.output) ∷ c.pop_front.new.self = search rules in
    placing-goes right (g.W.Work.count c.args.work.now) c.loop-t.places.items _ c.loop-t.outputs c.pop_front.new.self (c.in-Some.t, c.in-Some.output) first refl c.loop-t.invariant

pub loop-t-preserved : goal.loop-t-preserved
loop-t-preserved g c =
    let right = g.W.Work.right c.args.work.now in
    let first : c.loop-t.outputs ≡ (c.in-Some.t, c.in-Some.output) ∷ c.pop_front.new.self = search rules in
    placing-goes right (g.W.Work.count c.args.work.now) c.loop-t.places.items _ c.loop-t.outputs c.pop_front.new.self (c.in-Some.t, c.in-Some.output) first refl c.loop-t.invariant
