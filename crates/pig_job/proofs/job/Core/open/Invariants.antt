use Rattle.std.proofs.Common.{◌≡◌, replicate}
use Rattle.pig_job.specs.Job.{fresh}
use Rattle.pig_job.proofs.job.Core.open.Given as goal

abbrev pub invariant-loop : goal.invariant-loop
invariant-loop l = l.crew.items ≡ replicate l.counter fresh
