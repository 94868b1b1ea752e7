use Rattle.std.proofs.Common.{sym, subst}
use Rattle.std.specs.Prelude.{IfOk, length, slice_index_or}
use denote.Param.Send.{sendable}
use Rattle.pig_work.proofs.Crossing.{work_shared}
use Rattle.pig_physical.specs.Handed.{out_of}
use Rattle.pig_physical.specs.Seen.{staged}
use Rattle.pig_physical.specs.Stages.{tasks_in}
use Rattle.pig_pool.specs.Wave.{AreOutputs}
use Rattle.pig_work.specs.Working.{IsRightAt, Suits}
use Rattle.pig_work.proofs.Attempted.{host_suits}
use Rattle.pig_work.proofs.running.run_set.Goals as goal

pub run_wave-requires-sync-W : goal.run_wave-requires-sync-W
run_wave-requires-sync-W g c κs within = search (sendable, work_shared)

pub run_wave-requires-clause-suit : goal.run_wave-requires-clause-suit
run_wave-requires-clause-suit g c κs within = λ k d less.
    subst (λ v. Suits (staged v.0) g.N.Setting.told v.1 (g.H.Host.inputs (slice_index_or c.args.hosts.now k d))) (sym c.new-work.ensures)
    (host_suits g.H.Host.inputs (staged c.args.stages.now) c.args.wave c.args.hosts.now g.N.Setting.told c.requires.told c.requires.sources k d less)

pub returns-clause-outs : goal.returns-clause-outs
returns-clause-outs g c =
    subst (λ v. IfOk c.run_wave.result (λ r. AreOutputs (λ place out. IsRightAt (staged v.0) g.N.Setting.told g.N.Setting.outs v.1 place (out_of out))
    (length (tasks_in (staged v.0) v.1)) r.outs))
    c.new-work.ensures c.run_wave.ensures.outs
