use Rattle.std.proofs.Common.{rules, ◌≡◌, ◌<◌, ◌+◌, [], length, map, refl, sym, subst, ap, arith}
use Rattle.std.specs.Prelude.{sum_by}
use Rattle.std.proofs.lemmas.List.{length-map}
use Rattle.pig_plan.specs.Valid.{IsPlan}
use Rattle.pig_physical.specs.Handed.{outs_of}
use Rattle.pig_physical.specs.Seen.{staged}
use Rattle.pig_physical.specs.Stages.{heads}
use Rattle.pig_pool.specs.Begins.{crew_tells}
use Rattle.pig_pool.specs.Wave.{failures_in}
use Rattle.pig_driver.specs.Begun.{WavesBegun}
use Rattle.pig_driver.specs.Going.{AreWon, HasRunTo}
use Rattle.pig_driver.specs.Left.{AreLastLooks, AreLeft, HaveGone, IsGoing}
use Rattle.pig_driver.proofs.Begun.{fault_begun, next_begun}
use Rattle.pig_driver.proofs.Left.{left_none, left_on}
use Rattle.pig_driver.proofs.Stepping.{none_ran, none_won, runs_all}
use Rattle.pig_driver.proofs.running.run_stages.Goals as goal

pub loop-wave-init : goal.loop-wave-init
loop-wave-init g c =
    let s = staged c.args.stages.now in
    let tellings = map g.H.Host.inputs c.args.hosts.now in
    let x = crew_tells (map g.H.Host.faults c.args.hosts.now) (map g.H.Host.begun c.args.hosts.now) in
    let sum = ap (sum_by failures_in) c.requires.none in (
      refl,
      refl,
      omega (arith, sum),
      subst (λ outs. IsGoing s tellings (outs_of outs) 0 0 0) (sym c.new.ensures) (record { whole = []; run = none_ran s tellings; are = left_none s; count = refl }),
      subst (λ ends. AreWon s ends 0) (sym c.requires.none) (none_won s),
      subst (λ ends. WavesBegun 0 ends x x) (sym c.requires.none) refl,
    )

pub returns-clause-run : goal.returns-clause-run
returns-clause-run g c =
    let s = staged c.args.stages.now in
    let tellings = map g.H.Host.inputs c.args.hosts.now in
    let valid : IsPlan (staged c.args.stages.now).plan = search rules in
    let some = c.requires.hosts.0 in
    let many = length-map c.args.hosts.now g.H.Host.inputs in
    let end : c.loop-wave.wave ≡ length (heads (staged c.args.stages.now).plan) = search rules in
    let going = c.loop-wave.invariant.3 in
    record {
      whole = going.whole;
      run = runs_all s valid tellings going.whole (omega (arith, some, many)) c.requires.sizes (subst (HasRunTo s tellings going.whole) end going.run);
      are = subst (AreLeft s going.whole (outs_of c.loop-wave.ran.outs)) end going.are;
      count = going.count;
    }

pub returns-in_err-run_one-clause-begun : goal.returns-in_err-run_one-clause-begun
returns-in_err-run_one-clause-begun g c =
    let s = staged c.args.stages.now in
    let x = crew_tells (map g.H.Host.faults c.args.hosts.now) (map g.H.Host.begun c.args.hosts.now) in
    let failed = fault_begun s c.loop-wave.wave c.loop-wave.ends c.run_one.new.ends x _ _ c.in_err-run_one.field-0.0 c.loop-wave.invariant.4 c.loop-wave.invariant.5 c.in_err-run_one.ensures.begun in
    search rules

pub returns-clause-begun : goal.returns-clause-begun
returns-clause-begun g c = c.loop-wave.invariant.5

pub loop-wave-preserved : goal.loop-wave-preserved
loop-wave-preserved g c =
    let s = staged c.args.stages.now in
    let x = crew_tells (map g.H.Host.faults c.args.hosts.now) (map g.H.Host.begun c.args.hosts.now) in
    let y = crew_tells (map g.H.Host.faults c.loop-wave.hosts) (map g.H.Host.begun c.loop-wave.hosts) in
    let z = crew_tells (map g.H.Host.faults c.run_one.new.hosts) (map g.H.Host.begun c.run_one.new.hosts) in
    let begun = next_begun s c.loop-wave.wave c.loop-wave.ends c.run_one.new.ends x y z c.loop-wave.invariant.4 c.loop-wave.invariant.5 c.in_ok-run_one.ensures.begun in
    let going : IsGoing (staged c.args.stages.now) (map g.H.Host.inputs c.args.hosts.now) (outs_of c.run_one.new.ran.outs) c.run_one.new.ran.shuffled (c.loop-wave.wave + 1) c.loop-wave.wave = search rules in
    let gone : HaveGone c.in_ok-lasts.lasts.items c.loop-wave.wave (outs_of c.run_one.new.ran.outs) (outs_of c.let_go.new.outs) = search rules in
    let within : c.loop-wave.wave < length (heads (staged c.args.stages.now).plan) = search rules in
    let looks : AreLastLooks (staged c.args.stages.now) c.in_ok-lasts.lasts.items = search rules in
    let next : IsGoing (staged c.args.stages.now) (map g.H.Host.inputs c.args.hosts.now) (outs_of c.let_go.new.outs) c.run_one.new.ran.shuffled (c.loop-wave.wave + 1) (c.loop-wave.wave + 1) =
    record { whole = going.whole; run = going.run; are = left_on s going.whole _ _ c.in_ok-lasts.lasts.items c.loop-wave.wave within looks going.are gone; count = going.count } in
    (search rules, search rules, search rules, next, search rules, begun)
