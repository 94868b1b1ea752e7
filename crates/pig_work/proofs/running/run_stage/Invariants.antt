use Rattle.std.specs.Prelude.{map}
use Rattle.pig_physical.specs.Handed.{outs_of}
use Rattle.pig_work.proofs.running.run_stage.Given as goal

abbrev pub ghosts-run_set : goal.ghosts-run_set
ghosts-run_set g a = record { outs = outs_of a.prior.now; told = map g.H.Host.inputs a.hosts.now }
