-- How the steps that look for the script, the inputs and the outputs speak of each other.
use Rattle.std.specs.Prelude.{◌≡◌, ◌⊎◌, ℕ, true, false, List, [], ◌∷◌, ◌++◌, ◌+◌, take, map, Option, Some, None, Result, MatchResult}
use Rattle.std.specs.List.{AllByRecursion, sum_by}
use Rattle.pig_outside.specs.Shelf.{Shelf, has_dir, lengths_at, script_of}
use Rattle.pig_plan.specs.Plans.{plan_of}
use Rattle.pig_physical.specs.declared.staged.Size.{Size}
use Rattle.pig_reach.specs.Reach.{live_paths, stores_of}
use Rattle.pig_reach.specs.declared.storing.Store.{Store}
use Rattle.pig_rewrites.specs.Alike.{RunsAlike, are_apart}
use Rattle.pig_rewrites.specs.Reached.{IsReached}
use Rattle.pig_run.specs.declared.line.CommandLine.{CommandLine}
use Rattle.pig_run.specs.declared.looking.Prepared.{Prepared}
use Rattle.pig_run.specs.declared.outcome.RunFault.{RunFault}
use Rattle.pig_run.specs.declared.outcome.RunFault.TheVariants as fault
use Rattle.pig_run.specs.Due.{Line}
use Rattle.pig_run.specs.Limits.{most_script}
use Rattle.pig_run.specs.Steps.{IsLookFault}

abbrev pub line_given : CommandLine → Line
line_given line = record { hosts = line.hosts; words = line.words.now }

-- ---- the script

-- a script that is there, of which so many bytes and one more were read
pub record IsRead (most : ℕ) (o : Option (List ℕ)) (bytes : List ℕ) : Type 0 where
  pub script : List ℕ
  pub there : o ≡ Some script
  pub front : bytes ≡ take (most + 1) script

-- its bytes are read, or there is none
abbrev pub LooksForScript : {T : Type 0} → List ℕ → Shelf → (T → List ℕ) → Result T RunFault → Type 0
LooksForScript path s bytes_of result = MatchResult result (λ x. IsRead most_script (script_of path s) (bytes_of x))
    (λ found. ((found ≡ fault.NoScript) × (script_of path s ≡ None)) ⊎ IsLookFault found)

-- ---- inputs

-- the lengths of the input at a path are found, or it is missing
abbrev pub LooksForInput : List ℕ → Shelf → Result (List ℕ) RunFault → Type 0
LooksForInput path s result = MatchResult result (λ lengths. lengths_at path s ≡ Some lengths)
    (λ found. ((found ≡ fault.NoInput path) × (lengths_at path s ≡ None)) ⊎ IsLookFault found)

-- the size is that of an input of the shelf
abbrev pub HasSize : Shelf → Size → Type 0
HasSize s size = lengths_at size.path s ≡ Some size.lengths

-- the size at a path is added, or the input is missing
abbrev pub LooksForSize : {T : Type 0} → List ℕ → Shelf → List Size → List Size → Result T RunFault → Type 0
LooksForSize path s old new result = MatchResult result
    (λ _. (lengths : List ℕ) × (lengths_at path s ≡ Some lengths) × (new ≡ old ++ record { path = path; lengths = lengths } ∷ []))
    (λ found. ((found ≡ fault.NoInput path) × (lengths_at path s ≡ None)) ⊎ IsLookFault found)

-- all lengths of pieces together
abbrev pub total_of : List Size → ℕ
total_of sizes = sum_by (λ size. sum_by (λ n. n) size.lengths) sizes

-- ---- outputs

-- a directory is not there, or it is
abbrev pub LooksForOutput : {T : Type 0} → List ℕ → Shelf → Result T RunFault → Type 0
LooksForOutput dir s result = MatchResult result (λ _. has_dir dir s ≡ false)
    (λ found. ((found ≡ fault.OutputExists dir) × (has_dir dir s ≡ true)) ⊎ IsLookFault found)

abbrev pub IsAbsentIn : Shelf → Store → Type 0
IsAbsentIn s store = has_dir store.dir s ≡ false

-- ---- both

-- the plan that is cut is reached from the checked one, and what is prepared belongs to it
pub record IsPrepared (p : Prepared) : Type 0 where
  pub reached : IsReached (plan_of p.checked) (plan_of p.plan)
  pub alike : RunsAlike (plan_of p.checked) (plan_of p.plan)
  pub paths : map (λ size. size.path) p.sizes ≡ live_paths (plan_of p.plan)
  pub stores : p.stores ≡ stores_of (plan_of p.plan)
  pub apart : are_apart p.stores ≡ true

-- the inputs are on the shelf, and the directories are not
pub record IsReady (s : Shelf) (p : Prepared) : Type 0 where
  pub inputs : AllByRecursion (HasSize s) p.sizes
  pub outputs : AllByRecursion (IsAbsentIn s) p.stores
