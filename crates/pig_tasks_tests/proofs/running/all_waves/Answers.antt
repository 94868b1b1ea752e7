use Rattle.std.proofs.Common.{rules, ◌≡◌, ◌++◌, ◌∷◌, [], map, sym, subst}
use Rattle.pig_physical.specs.Handed.{out_of, outs_of}
use Rattle.pig_physical.specs.Seen.{staged}
use Rattle.pig_tasks_tests.specs.Fits.{AllFit, WaveFits}
use Rattle.pig_tasks_tests.proofs.Fitting.{longer, none_yet, one_more}
use Rattle.pig_tasks_tests.proofs.running.all_waves.Goals as goal

pub loop-wave-init : goal.loop-wave-init
loop-wave-init g c =
    let s = staged c.args.stages.now in (
      search rules,
      subst (λ outs. AllFit s (outs_of outs)) (sym c.new-outs.ensures) (none_yet (WaveFits s)),
    )

pub loop-wave-preserved : goal.loop-wave-preserved
loop-wave-preserved g c =
    let pushed : c.push.new.self ≡ c.loop-wave.outs ++ c.cut-found.result ∷ [] = search rules in (
      longer c.loop-wave.outs c.push.new.self c.cut-found.result c.loop-wave.wave c.loop-wave.invariant.0 pushed,
      one_more (map out_of) (WaveFits (staged c.args.stages.now)) c.loop-wave.outs c.push.new.self c.cut-found.result c.loop-wave.wave
          c.loop-wave.invariant.0 pushed c.loop-wave.invariant.1 c.cut-found.ensures,
    )
