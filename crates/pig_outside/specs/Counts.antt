-- How often a device has failed.
use Rattle.std.specs.Prelude.{ℕ}
use Rattle.pig_outside.specs.declared.counts.FaultCounts.{FaultCounts}

-- In all.
abbrev pub all_faults : FaultCounts → ℕ
all_faults counts = counts.all

-- In the calls that make a directory.
abbrev pub stores_failed : FaultCounts → ℕ
stores_failed counts = counts.stores
