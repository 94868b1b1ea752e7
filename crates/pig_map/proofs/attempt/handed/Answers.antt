use Rattle.std.proofs.Common.{ap, subst, sym}
use Rattle.std.specs.Option.{IfSome}
use Rattle.pig_physical.specs.Handed.{form_of, outs_of}
use Rattle.pig_physical.specs.Seen.{map_task_of, staged}
use Rattle.pig_map.specs.Making.{HasRun}
use Rattle.pig_map.proofs.Leaving.{leaves_made}
use Rattle.pig_map.proofs.Runs.{run_to}
use Rattle.pig_map.proofs.attempt.handed.Goals as goal

pub returns : goal.returns
returns g c =
    let s = staged c.args.work.now.stages.now in
    let t = map_task_of s c.args.work.now.task.now in
    leaves_made g.H.Host.inputs g.H.Host.begun g.H.Host.faults g.S.Stop.kept g.S.Stop.won c.args.host.now c.args.stop.now
    c.run.new.host c.run.new.stop _ _ _ _ c.in_ok-ran.ensures
    (run_to s (g.H.Host.inputs c.args.host.now) (outs_of c.args.work.now.prior.now) t
    (λ rows. g.F.Sink.after c.args.former rows c.run.new.sink) _ c.in-Some.ran.lines _ c.in-Some.ran.unmet _
    c.out_with.ensures.lines c.out_with.ensures.unmet
    (λ rows took. subst (g.F.Former.becomes c.args.former rows) (sym (ap form_of c.out_with.ensures.form)) (c.in_ok-form.ensures c.args.former rows took))
    (subst
    (λ o. IfSome o (λ ran. HasRun s (g.H.Host.inputs c.args.host.now) (outs_of c.args.work.now.prior.now) t
    (λ rows. g.F.Sink.after c.args.former rows c.run.new.sink) ran.lines ran.unmet))
    c.in-Some.is c.in_ok-ran.ensures.made))
