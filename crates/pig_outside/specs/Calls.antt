-- What depots and hosts were asked, the oldest first.
use Rattle.std.specs.Prelude.{◌++◌, ℕ, List, [], ◌∷◌, Option, Some, None}
use Rattle.pig_outside.specs.declared.failing.Method.{Method}
use Rattle.pig_outside.specs.declared.failing.Method.TheVariants as of

-- A call of a depot, and how many bytes at most it asked for, where it asked for bytes.
pub record DepotCall : Type 0 where
  pub method : Method
  pub path : List ℕ
  pub most : Option ℕ

-- An attempt at a task that began on a host, and how often the host had failed before.
pub record Attempt : Type 0 where
  pub wave : ℕ
  pub task : ℕ
  pub attempt : ℕ
  pub faults : ℕ

-- One more call.
abbrev pub and_call : Method → List ℕ → List DepotCall → List DepotCall
and_call method path calls = calls ++ record { method = method; path = path; most = None } ∷ []

-- One more call, for the first bytes of a script.
abbrev pub and_script : List ℕ → ℕ → List DepotCall → List DepotCall
and_script path most calls = calls ++ record { method = of.Script; path = path; most = Some most } ∷ []

-- One more attempt.
abbrev pub and_attempt : ℕ → ℕ → ℕ → ℕ → List Attempt → List Attempt
and_attempt wave task attempt faults begun = begun ++ record { wave = wave; task = task; attempt = attempt; faults = faults } ∷ []
