-- Devices of which no call is to fail.
use Rattle.std.specs.Prelude.{◌≡◌, [], None}
use Rattle.pig_outside.specs.declared.failing.Failing.{Failing}
use Rattle.pig_outside.specs.Failing.{failing_at, failing_on, listed_calls}

-- no call is to fail
pub record IsFaultless (f : Failing) : Type 0 where
  pub listed : listed_calls f ≡ []
  pub on : failing_on f ≡ None
  pub at_one : failing_at f ≡ None
