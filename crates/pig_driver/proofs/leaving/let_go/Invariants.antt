use Rattle.std.proofs.Common.{◌≡◌, length}
use Rattle.pig_physical.specs.Handed.{outs_of}
use Rattle.pig_driver.proofs.Looks.{HaveGoneTo}
use Rattle.pig_driver.proofs.leaving.let_go.Given as goal

abbrev pub invariant-loop-at : goal.invariant-loop-at
invariant-loop-at l = (length l.outs ≡ length l.fn.outs) × HaveGoneTo l.lasts l.wave l.at (outs_of l.fn.outs) (outs_of l.outs)
