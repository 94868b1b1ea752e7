use Rattle.std.proofs.Common.{◌≡◌, ◌<◌, ◌+◌, arith, length, take, subst}
use Rattle.std.proofs.lemmas.List.{length-take-le}
use Rattle.pig_value.proofs.list_laws.Indexing.{more_taken}
use Rattle.pig_plan.specs.Plans.{plan_of}
use Rattle.pig_cutter.specs.Feeds.{IsCut}
use Rattle.pig_cutter.specs.Tables.{parts_for}
use Rattle.pig_cutter.proofs.Assembled.{one_more_cut}
use Rattle.pig_cutter.proofs.listing.waves.Goals as goal

pub loop-number-preserved : goal.loop-number-preserved
loop-number-preserved c =
    let listing = c.args.listing.now in
    let plan = plan_of c.args.listing.now.nodes.now in
    let parts = parts_for c.args.listing.now.split c.args.listing.now.sources.now in
    let n = c.loop-number.number in
    let heads = c.args.heads.now in
    let within : c.loop-number.number < length c.args.heads.now = c.loop-number-test.true in
    let size : length (take c.loop-number.number c.args.heads.now) ≡ c.loop-number.number = length-take-le c.loop-number.number c.args.heads.now (omega (arith, within)) in
    one_more_cut plan listing.stores.now parts listing.reducers (take n heads) (take (n + 1) heads) c.loop-number.found c.push.new.self n c.head_at.result c.in_ok-wave.wave
    c.loop-number.invariant size (more_taken heads n c.head_at.result c.head_at.ensures)
    (subst (λ m. IsCut plan listing.stores.now parts listing.reducers m c.head_at.result c.in_ok-wave.wave) c.in_ok-wave_number.ensures c.in_ok-wave.ensures) c.in_ok-push.ensures.ok
