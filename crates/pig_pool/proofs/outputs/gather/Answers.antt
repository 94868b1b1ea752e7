use Rattle.std.proofs.Common.{◌≡◌, ◌<◌, Option, Some, None, set, sym, ◌∙◌, ap, arith}
use Rattle.pig_pool.proofs.Placing.{taken-there, taken-at, taken-goes}
use Rattle.pig_pool.proofs.outputs.gather.Goals as goal

none_some : {O : Type 0} (o : O) → ◌≡◌ {A = Option O} None (Some o) → ⊥
none_some o e = cc

pub unreachable-requires : goal.unreachable-requires
unreachable-requires g c =
    let right = g.W.Work.right c.args.work.now in
    let count = c.tasks-t-end.ensures in
    let test = c.loop-t-test.true in
    let below : c.loop-t.t < g.W.Work.count c.args.work.now = omega arith in
    let there = taken-there right (g.W.Work.count c.args.work.now) c.loop-t.t c.loop-t.places.items c.loop-t.list.items c.index_mut.result.now below c.loop-t.invariant.taken in
    none_some there.0 (sym c.in_default.is ∙ (c.take.ensures.value ∙ (c.index_mut.ensures.value ∙ there.1)))

pub loop-t-preserved : goal.loop-t-preserved
loop-t-preserved g c =
    let right = g.W.Work.right c.args.work.now in
    let n = g.W.Work.count c.args.work.now in
    let count = c.tasks-t-end.ensures in
    let test = c.loop-t-test.true in
    let below : c.loop-t.t < n = omega arith in
    let at = taken-at right n c.loop-t.t c.loop-t.places.items c.loop-t.list.items c.index_mut.result.now below c.index_mut.ensures.value c.loop-t.invariant.taken ∙ ap Some (sym c.take.ensures.value ∙ c.in-Some.is) in
    let was = c.loop-t.invariant in
    let pushed = c.push_reserved.ensures.len in
    let room = c.push_reserved.ensures.capacity in
    record {
      taken = taken-goes right n c.loop-t.t c.loop-t.places.items _ c.loop-t.list.items c.push_reserved.new.self.items c.in-Some.output below at (ap (set c.loop-t.places.items c.loop-t.t) c.take.ensures.after) c.push_reserved.ensures.items was.taken;
      len = let l = was.len in omega arith;
      room = let l = was.room in omega arith;
    }
