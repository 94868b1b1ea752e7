use Rattle.std.proofs.Common.{[], ap}
use Rattle.pig_physical.specs.Outs.{o_runs}
use Rattle.pig_map.proofs.forming.ShuffleFormer.into_form.Goals as goal

pub returns : goal.returns
returns c begun rows took w first = ap o_runs (c.in_ok-runs.ensures w rows (took w [] first))
