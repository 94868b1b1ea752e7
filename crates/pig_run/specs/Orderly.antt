-- The order of all that a depot was asked, whether or not it tells what is on its shelf: the script, inputs, outputs, and then the making
-- of directories that were looked for.
use Rattle.std.specs.Prelude.{◌≡◌, ◌≤◌, ◌++◌, ℕ, false, List, [], length, map, Option, Some, None, Result, IfOk}
use Rattle.pig_value.specs.declared.outcomes.Kept.{Kept}
use Rattle.pig_outside.specs.Calls.{DepotCall}
use Rattle.pig_outside.specs.declared.failing.Method.{Method}
use Rattle.pig_outside.specs.declared.failing.Method.TheVariants as method
use Rattle.pig_run.specs.declared.outcome.RunFault.{RunFault}
use Rattle.pig_run.specs.declared.looking.Prepared.{Prepared}
use Rattle.pig_run.specs.Due.{call, making}
use Rattle.pig_run.specs.Ends.{is_unmet}
use Rattle.pig_run.specs.Refusals.{Cause, by_assert, by_console, by_depot, by_memory, by_refusal, by_tasks, cause_of}
use Rattle.pig_run.specs.Told.{Asked, IsPrefix}

-- these paths are asked for, in turn
abbrev pub calls_for : Method → List (List ℕ) → List DepotCall
calls_for m paths = map (call m) paths

-- a cause behind the making of a directory
abbrev pub IsBehindMaking : Cause → Type 0
IsBehindMaking by_refusal = ⊥
IsBehindMaking by_tasks = ⊥
IsBehindMaking by_assert = ⊥
IsBehindMaking by_memory = Unit {0}
IsBehindMaking by_console = Unit {0}
IsBehindMaking (by_depot None) = ⊥
IsBehindMaking (by_depot (Some store)) = Unit {0}

-- an answer with which a directory may have been made: the run is done, or its end has such a cause
abbrev pub MayMake : Option RunFault → Type 0
MayMake None = Unit {0}
MayMake (Some found) = IsBehindMaking (cause_of found)

-- The calls that make these directories, each with some number of parts, whole and in their order, or the first of these calls; none with
-- an answer with which nothing is made, and all of them where the answer is that all was done. Where none was asked for, nothing that was
-- kept is answered, but with an ASSERT that is not met.
pub record Makes (dirs : List (List ℕ)) (answer : Option RunFault) (kept : List Kept) (old new : Option (List DepotCall)) : Type 0 where
  pub parts : List ℕ
  pub each : length parts ≡ length dirs
  pub made : List DepotCall
  pub asked : Asked made old new
  pub first : IsPrefix made (making dirs parts)
  pub none : ¬ MayMake answer → made ≡ []
  pub whole : answer ≡ None → made ≡ making dirs parts
  pub unkept : is_unmet answer ≡ false → made ≡ [] → kept ≡ []

-- A depot is asked for one script at most, then for inputs, then for outputs, and only then are directories made, of the outputs that were
-- looked for. `looked` are its calls when all was looked for.
pub record IsOrderly (answer : Option RunFault) (kept : List Kept) (old new : Option (List DepotCall)) : Type 0 where
  pub scripts : List (List ℕ)
  pub inputs : List (List ℕ)
  pub outputs : List (List ℕ)
  pub looked : Option (List DepotCall)
  pub one : length scripts ≤ 1
  pub asked : Asked (calls_for method.Script scripts ++ (calls_for method.Pieces inputs ++ calls_for method.Exists outputs)) old looked
  pub makes : Makes outputs answer kept looked new

-- ---- how the steps speak of it; only private functions cite these

-- one script at most
pub record AsksScript (old new : Option (List DepotCall)) : Type 0 where
  pub scripts : List (List ℕ)
  pub one : length scripts ≤ 1
  pub asked : Asked (calls_for method.Script scripts) old new

-- some paths
pub record AsksSome (m : Method) (old new : Option (List DepotCall)) : Type 0 where
  pub paths : List (List ℕ)
  pub asked : Asked (calls_for m paths) old new

-- some paths, and all of these where no fault came
pub record AsksAll {T : Type 0} (m : Method) (all : List (List ℕ)) (result : Result T RunFault) (old new : Option (List DepotCall)) : Type 0 where
  pub paths : List (List ℕ)
  pub asked : Asked (calls_for m paths) old new
  pub whole : IfOk result (λ _. paths ≡ all)

-- inputs and outputs, and all outputs where no fault came
pub record LooksUp (result : Result Prepared RunFault) (old new : Option (List DepotCall)) : Type 0 where
  pub inputs : List (List ℕ)
  pub outputs : List (List ℕ)
  pub asked : Asked (calls_for method.Pieces inputs ++ calls_for method.Exists outputs) old new
  pub whole : IfOk result (λ p. outputs ≡ map (λ store. store.dir) p.stores)

-- so it is behind the script
pub record IsOrderlyBehind (answer : Option RunFault) (kept : List Kept) (old new : Option (List DepotCall)) : Type 0 where
  pub inputs : List (List ℕ)
  pub outputs : List (List ℕ)
  pub looked : Option (List DepotCall)
  pub asked : Asked (calls_for method.Pieces inputs ++ calls_for method.Exists outputs) old looked
  pub makes : Makes outputs answer kept looked new
