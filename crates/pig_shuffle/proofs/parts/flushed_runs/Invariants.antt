use Rattle.pig_value.specs.Elementwise.{Each}
use Rattle.pig_shuffle.specs.Held.{IsFlushed}
use Rattle.pig_shuffle.proofs.parts.flushed_runs.Given as goal

abbrev pub invariant-loop-table : goal.invariant-loop-table
invariant-loop-table l = Each IsFlushed l.yielded l.runs
