-- How a device in memory counts its calls and failures.
use Rattle.std.specs.Prelude.{◌≡◌, ◌≢◌, ◌<◌, ◌≤◌, ◌+◌, ◌-◌, ◌^◌, ◌⊎◌, ℕ, List, Any, Option, Some, None, IsSomeAnd, Result, IsErr, IsErrOf, min, slice_index}
use Rattle.pig_outside.specs.declared.failing.Method.{Method}
use Rattle.pig_outside.specs.declared.failing.Method.TheVariants.{Script, Pieces, Exists, Create, Put, Finish, Begin, Read, Write}
use Rattle.pig_outside.specs.declared.failing.Call.{Call}
use Rattle.pig_outside.specs.declared.failing.Failing.{Failing}
use Rattle.pig_outside.specs.declared.faults.OutsideError.{OutsideError}
use Rattle.pig_outside.specs.declared.faults.OutsideError.TheVariants.{Failed}
use Rattle.pig_outside.specs.Counts.{all_faults, stores_failed}
use Rattle.pig_outside.specs.Faults.{HasCause, count_end}

-- How often it has failed.
abbrev pub fault_count : Failing → ℕ
fault_count f = all_faults f.faults

-- How often it has failed in the calls that make a directory.
abbrev pub store_fault_count : Failing → ℕ
store_fault_count f = stores_failed f.faults

-- The calls that are to fail.
abbrev pub listed_calls : Failing → List Call
listed_calls f = f.calls

-- From which call on each call is to fail, and the one call that is to fail, by their numbers over all methods.
abbrev pub failing_on : Failing → Option ℕ
failing_on f = f.from

abbrev pub failing_at : Failing → Option ℕ
failing_at f = f.once

-- The same failures, and each call from that one on.
abbrev pub fails_from : ℕ → Failing → Failing
fails_from number f = record f { from = Some number }

-- The same failures, and that call.
abbrev pub fails_once : ℕ → Failing → Failing
fails_once number f = record f { once = Some number }

-- The place of a method among the methods.
abbrev pub method_place : Method → ℕ
method_place Script = 0
method_place Pieces = 1
method_place Exists = 2
method_place Create = 3
method_place Put = 4
method_place Finish = 5
method_place Begin = 6
method_place Read = 7
method_place Write = 8

-- The count of a method among the counts of all.
abbrev pub count_of : Method → List ℕ → ℕ
count_of method made = slice_index made (method_place method)

-- How often a method was called; the count stands still at the end of a u64.
abbrev pub calls_made : Method → Failing → ℕ
calls_made method f = count_of method f.made

-- How often all methods were called, which stands still likewise.
abbrev pub all_calls : Failing → ℕ
all_calls f = f.all

-- That call of the method is to fail.
abbrev pub IsListed : Method → ℕ → List Call → Type 0
IsListed method number calls = Any (λ c. (c.method ≡ method) × (c.number ≡ number)) calls

-- These calls are to fail; none was made yet, and none has failed.
pub record IsUncalled (calls : List Call) (f : Failing) : Type 0 where
  pub listed : listed_calls f ≡ calls
  pub on : failing_on f ≡ None
  pub at_one : failing_at f ≡ None
  pub none : (method : Method) → calls_made method f ≡ 0
  pub all : all_calls f ≡ 0
  pub faults : fault_count f ≡ 0
  pub stores : store_fault_count f ≡ 0

-- One more call of the method was made, and no other.
pub record IsCounted (method : Method) (old new : Failing) : Type 0 where
  pub calls : listed_calls new ≡ listed_calls old
  pub on : failing_on new ≡ failing_on old
  pub at_one : failing_at new ≡ failing_at old
  pub made : calls_made method new ≡ min (calls_made method old + 1) (2 ^ 64 - 1)
  pub others : (m : Method) → m ≢ method → calls_made m new ≡ calls_made m old
  pub all : all_calls new ≡ min (all_calls old + 1) (2 ^ 64 - 1)

-- A call of that number is one of those that fail from one on.
abbrev pub IsBehind : Option ℕ → ℕ → Type 0
IsBehind from number = IsSomeAnd from (λ first. first ≤ number)

-- The last call of the method was to fail: it is listed, or behind the one from which all fail, or the one that fails.
abbrev pub IsDue : Method → Failing → Type 0
IsDue method f = IsListed method (calls_made method f) (listed_calls f) ⊎ IsBehind (failing_on f) (all_calls f) ⊎ (failing_at f ≡ Some (all_calls f))

-- A call was made, and failed only where it was to fail, and wherever it was and the count could go on.
pub record EndsAsDue {T : Type 0} (method : Method) (old new : Failing) (result : Result T OutsideError) : Type 0 where
  pub counted : IsCounted method old new
  pub only : IsErrOf result Failed → IsDue method new
  pub each : IsDue method new → fault_count old < count_end → IsErrOf result Failed

-- The same of `begin`, which goes well where the count can't go on.
pub record BeginsAsDue {T E : Type 0} (old new : Failing) (result : Result T E) : Type 0 where
  pub counted : IsCounted Begin old new
  pub only : IsErr result → IsDue Begin new
  pub each : IsDue Begin new → fault_count old < count_end → IsErr result

-- The failures of calls that make a directory are counted apart, and no other call touches that count.
abbrev pub StoreCause : {T : Type 0} → Method → ℕ → ℕ → Result T OutsideError → Type 0
StoreCause Create before now result = HasCause before now result
StoreCause Put before now result = HasCause before now result
StoreCause Finish before now result = HasCause before now result
StoreCause _ before now result = now ≡ before
