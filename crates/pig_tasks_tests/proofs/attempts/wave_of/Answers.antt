use Rattle.std.proofs.Common.{rules, ◌≡◌, ◌++◌, ◌∷◌, [], map, sym, subst}
use Rattle.pig_physical.specs.Handed.{out_of}
use Rattle.pig_physical.specs.Seen.{staged}
use Rattle.pig_tasks_tests.specs.Fits.{FitsAt, WaveFits}
use Rattle.pig_tasks_tests.proofs.Fitting.{longer, none_yet, one_more}
use Rattle.pig_tasks_tests.proofs.attempts.wave_of.Goals as goal

pub loop-at-init : goal.loop-at-init
loop-at-init g c =
    let s = staged c.args.stages.now in (
      search rules,
      subst (λ outs. WaveFits s c.args.wave (map out_of outs)) (sym c.new-outs.ensures) (none_yet (FitsAt s c.args.wave)),
    )

pub loop-at-preserved : goal.loop-at-preserved
loop-at-preserved g c =
    let pushed : c.push.new.self ≡ c.loop-at.outs ++ c.attempt-out.result ∷ [] = search rules in (
      longer c.loop-at.outs c.push.new.self c.attempt-out.result c.loop-at.at c.loop-at.invariant.0 pushed,
      one_more out_of (FitsAt (staged c.args.stages.now) c.args.wave) c.loop-at.outs c.push.new.self c.attempt-out.result c.loop-at.at
          c.loop-at.invariant.0 pushed c.loop-at.invariant.1 c.attempt-out.ensures,
    )
