use Rattle.std.proofs.Common.{◌≡◌, map}
use Rattle.pig_physical.specs.Handed.{out_of}
use Rattle.pig_driver.specs.Left.{bared_first}
use Rattle.pig_driver.proofs.leaving.bared.Given as goal

abbrev pub invariant-loop-out : goal.invariant-loop-out
invariant-loop-out l = map out_of l.out-items ≡ bared_first l.out-index (map out_of l.fn.outs)
