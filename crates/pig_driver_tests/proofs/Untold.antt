-- Hosts that tell no inputs.
use Rattle.std.proofs.Common.{◌≡◌, ◌∷◌, List, [], Option, Some, None, map}
use Rattle.pig_value.specs.declared.inputs.Input.{Input}
use Rattle.pig_physical.specs.Stages.{Stages}
use Rattle.pig_driver.specs.Going.{TellSizes}

pub untold : {H : Type 0} (s : Stages) (hosts : List H) → TellSizes s (map (λ h. None) hosts)
untold s [] = tt
untold s (host ∷ hosts) =
    (λ told is. absurd (let e : ◌≡◌ {A = Option (List Input)} None (Some told) = is in cc), untold s hosts)
