use Rattle.std.proofs.Common.{ap}
use Rattle.std.specs.Option.{option_map}
use Rattle.pig_physical.specs.declared.waves.WaveHead.{WaveHead}
use Rattle.pig_physical.proofs.staged.Stages.kind.Goals as goal

pub returns : goal.returns
returns c = ap (option_map {T = WaveHead} (λ head. head.kind)) c.wave.ensures.is.head
