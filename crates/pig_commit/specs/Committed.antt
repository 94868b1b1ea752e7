-- What a commit leaves: the directories of STOREs, whole and marked; and where it ended before the last one.
use Rattle.std.specs.Prelude.{◌≡◌, ◌≢◌, ◌≤◌, ◌<◌, ◌^◌, ◌⊎◌, ⊤, ℕ, List, [], ◌∷◌, ◌++◌, length, Option, Result, IsErrOf}
use Rattle.std.specs.List.{AllByRecursion}
use Rattle.std.specs.Option.{option_map}
use Rattle.pig_outside.specs.Shelf.{CanCreate, LeftUnmarked, Shelf, whole_state, with_dir}
use Rattle.pig_outside.specs.declared.faults.OutsideError.{OutsideError}
use Rattle.pig_outside.specs.declared.faults.OutsideError.TheVariants as error
use Rattle.pig_commit.specs.declared.parts.CommitFault.{CommitFault}
use Rattle.pig_commit.specs.declared.parts.CommitFault.TheVariants as fault
use Rattle.pig_commit.specs.declared.parts.StorePart.{StorePart}

-- ---- what may be asked

-- none of the directories is there
abbrev pub AreAbsent : List StorePart → Shelf → Type 0
AreAbsent stores shelf = AllByRecursion (λ store. CanCreate store.dir shelf) stores

-- no two have one directory
abbrev pub AreApart : List StorePart → Type 0
AreApart [] = ⊤
AreApart (store ∷ stores) = AllByRecursion (λ other. other.dir ≢ store.dir) stores × AreApart stores

-- parts are numbered in 32 bits
abbrev pub HasFewParts : StorePart → Type 0
HasFewParts store = length store.parts < 2 ^ 32

-- ---- what then stands

-- the shelf with these directories, each with its parts and its mark
abbrev pub with_stored : List StorePart → Shelf → Shelf
with_stored [] shelf = shelf
with_stored (store ∷ stores) shelf = with_stored stores (with_dir store.dir (whole_state store.parts) shelf)

-- that directory is as before, or there and unmarked; all else is as before
abbrev pub LeftOpen : List ℕ → Option Shelf → Option Shelf → Type 0
LeftOpen dir old new = (new ≡ old) ⊎ LeftUnmarked dir old new

-- ---- why it ended

abbrev pub fault_of : ℕ → OutsideError → CommitFault
fault_of statement error.Failed = fault.Store statement
fault_of statement error.OutOfMemory = fault.OutOfMemory

abbrev pub IsFaultAt : ℕ → CommitFault → Type 0
IsFaultAt statement found = (found ≡ fault.Store statement) ⊎ (found ≡ fault.OutOfMemory)

-- The directories before that of one STORE are stored, that one is absent or unmarked, and those behind it were not made.
pub record IsStoppedAt (stores : List StorePart) (found : CommitFault) (old new : Option Shelf) : Type 0 where
  pub before : List StorePart
  pub store : StorePart
  pub behind : List StorePart
  pub are : stores ≡ before ++ store ∷ behind
  pub opened : LeftOpen store.dir (option_map (with_stored before) old) new
  pub named : IsFaultAt store.statement found

-- the count has not fallen, and has risen where a STORE is named
pub record HasStoreCause {T : Type 0} (before now : ℕ) (result : Result T CommitFault) : Type 0 where
  pub later : before ≤ now
  pub failed : (statement : ℕ) → IsErrOf result (fault.Store statement) → before < now
