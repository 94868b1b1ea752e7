-- What a call leaves that appends a code to bytes.
use Rattle.std.specs.Prelude.{◌≡◌, ℕ, List, ◌++◌, OnOk, Result}
use Rattle.pig_value.specs.Extended.{IsExtended}

-- the code stands behind what was there; where memory is wanting, some other bytes may
pub record Appends {A F : Type 0} (old code new : List ℕ) (result : Result A F) : Type 0 where
  pub ok : OnOk result (new ≡ old ++ code)
  pub grows : IsExtended old new
