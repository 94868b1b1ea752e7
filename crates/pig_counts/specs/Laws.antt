-- How many entries the map tasks of a run handed on.
use Rattle.std.specs.Prelude.{◌≡◌, ◌<◌, ℕ, List, length, None}
use Rattle.pig_value.specs.declared.inputs.Input.{Input}
use Rattle.pig_value.specs.Trees.{Tree}
use Rattle.pig_plan.specs.Entries.{entries_of}
use Rattle.pig_plan.specs.Plans.{PlanOp}
use Rattle.pig_runs.specs.Cutting.{Point}
use Rattle.pig_physical.specs.Outs.{Outs}
use Rattle.pig_physical.specs.Running.{IsRun}
use Rattle.pig_physical.specs.Stages.{Stages}
use Rattle.pig_driver.specs.Handing.{entries_handed}
use Rattle.pig_counts.specs.Due.{count_due, entries_due}

-- The map tasks of a run handed on what is due of their rows.
abbrev pub EntriesAreDue : Type 0
EntriesAreDue = (s : Stages) (inputs : List Input) (points : ℕ → List Point) (outs : Outs)
    → 0 < s.sizing.reducers → IsRun s inputs points outs → entries_handed s outs ≡ entries_due s inputs outs

-- Where a node does not combine, as many entries are due as there are rows.
abbrev pub EntriesCountRows : Type 0
EntriesCountRows = (o : PlanOp) (i : ℕ) (rows : List (List Tree)) → count_due None (entries_of o i rows) ≡ length rows
