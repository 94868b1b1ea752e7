use Rattle.std.proofs.Common.{◌≤◌, ◌-◌, length}
use Rattle.pig_storage_tests.proofs.storage.stored_over.Given as goal

abbrev pub invariant-loop-span : goal.invariant-loop-span
invariant-loop-span l = l.from ≤ length l.input

abbrev pub decreases-loop-span : goal.decreases-loop-span
decreases-loop-span l = length l.input - l.from
