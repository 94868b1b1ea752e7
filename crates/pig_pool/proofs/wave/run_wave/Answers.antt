use Rattle.std.specs.List.{sum_by}
use Rattle.pig_board.specs.Pass.{view_of}
use Rattle.pig_pool.proofs.Waves.{alone-again, faults-again, begun-again, failures_rise, few_faults}
use Rattle.pig_pool.proofs.wave.run_wave.Goals as goal

pub finish-requires-clause-alone : goal.finish-requires-clause-alone
finish-requires-clause-alone g c κs within = alone-again c.args.wave (view_of c.in_ok-board.pass) (view_of c.in_ok-rounds.rounds.pass) _ _ c.in_ok-board.ensures.view c.in_ok-rounds.ensures.works

pub returns-clause-failures : goal.returns-clause-failures
returns-clause-failures g c =
    failures_rise c.finish.result _ (view_of c.in_ok-rounds.rounds.pass) (sum_by g.H.Host.faults c.args.hosts.now) (sum_by g.H.Host.faults c.run_rounds.new.hosts) c.finish.ensures.failures
    (faults-again g.H.Host.faults _ _ c.args.hosts.now c.run_rounds.new.hosts c.args.wave (view_of c.in_ok-board.pass) (view_of c.in_ok-rounds.rounds.pass) c.in_ok-board.ensures.view c.in_ok-rounds.ensures.works)

pub returns-clause-begun : goal.returns-clause-begun
returns-clause-begun g c = begun-again c.finish.result _ c.args.wave (view_of c.in_ok-board.pass) (view_of c.in_ok-rounds.rounds.pass) _ _ c.in_ok-board.ensures.view c.in_ok-rounds.ensures.works c.finish.ensures.ends

pub returns-clause-complete : goal.returns-clause-complete
returns-clause-complete g c = λ few.
    few_faults c.finish.result c.args.limit (g.W.Work.count c.args.work.now) _ (sum_by g.H.Host.faults c.args.hosts.now) (sum_by g.H.Host.faults c.run_rounds.new.hosts) c.finish.ensures.failed
    (failures_rise c.finish.result _ (view_of c.in_ok-rounds.rounds.pass) (sum_by g.H.Host.faults c.args.hosts.now) (sum_by g.H.Host.faults c.run_rounds.new.hosts) c.finish.ensures.failures
    (faults-again g.H.Host.faults _ _ c.args.hosts.now c.run_rounds.new.hosts c.args.wave (view_of c.in_ok-board.pass) (view_of c.in_ok-rounds.rounds.pass) c.in_ok-board.ensures.view c.in_ok-rounds.ensures.works))
    few
