-- What the devices in memory hold.
use Rattle.std.specs.Prelude.{ℕ, List, Option, Some}
use Rattle.pig_value.specs.declared.inputs.Input.{Input}
use Rattle.pig_outside.specs.declared.failing.Failing.{Failing}
use Rattle.pig_outside.specs.declared.memory_depot.MemoryDepot.{MemoryDepot}
use Rattle.pig_outside.specs.declared.memory_host.MemoryHost.{MemoryHost}
use Rattle.pig_outside.specs.declared.memory_console.MemoryConsole.{MemoryConsole}
use Rattle.pig_outside.specs.Calls.{DepotCall, Attempt}
use Rattle.pig_outside.specs.Failing.{fault_count, store_fault_count}
use Rattle.pig_outside.specs.Shelf.{Shelf}

-- A depot's shelf.
abbrev pub depot_shelf : MemoryDepot → Shelf
depot_shelf m = record { scripts = m.scripts; inputs = m.inputs; dirs = m.dirs.items }

-- It tells what it holds.
abbrev pub told_shelf : MemoryDepot → Option Shelf
told_shelf m = Some (depot_shelf m)

-- Its calls so far.
abbrev pub depot_calls : MemoryDepot → List DepotCall
depot_calls m = m.history.calls

-- It tells them.
abbrev pub told_calls : MemoryDepot → Option (List DepotCall)
told_calls m = Some (depot_calls m)

-- How often each method was called, and the calls that are to fail.
abbrev pub depot_failing : MemoryDepot → Failing
depot_failing m = m.failing

-- How often it has failed.
abbrev pub depot_faults : MemoryDepot → ℕ
depot_faults m = fault_count m.failing

-- How often it has failed in the calls that make a directory.
abbrev pub depot_store_faults : MemoryDepot → ℕ
depot_store_faults m = store_fault_count m.failing

-- A host's inputs.
abbrev pub host_inputs : MemoryHost → List Input
host_inputs m = m.inputs

-- It tells what it holds.
abbrev pub told_inputs : MemoryHost → Option (List Input)
told_inputs m = Some (host_inputs m)

-- The attempts so far.
abbrev pub host_begun : MemoryHost → List Attempt
host_begun m = m.history.begun

-- It tells them.
abbrev pub told_begun : MemoryHost → Option (List Attempt)
told_begun m = Some (host_begun m)

-- How often each method was called, and the calls that are to fail.
abbrev pub host_failing : MemoryHost → Failing
host_failing m = m.failing

-- How often it has failed.
abbrev pub host_faults : MemoryHost → ℕ
host_faults m = fault_count m.failing

-- A console's text.
abbrev pub console_text : MemoryConsole → List ℕ
console_text m = m.text.items

-- It tells what it holds.
abbrev pub told_text : MemoryConsole → Option (List ℕ)
told_text m = Some (console_text m)

-- How often it was called, and the calls that are to fail.
abbrev pub console_failing : MemoryConsole → Failing
console_failing m = m.failing

-- How often it has failed.
abbrev pub console_faults : MemoryConsole → ℕ
console_faults m = fault_count m.failing
