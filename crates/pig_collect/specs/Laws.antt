-- What the numbers and the ASSERTs of a run are, where its outputs are the values of all tasks.
use Rattle.std.specs.Prelude.{◌≡◌, ◌<◌, ℕ, List, length}
use Rattle.pig_value.specs.declared.inputs.Input.{Input}
use Rattle.pig_value.specs.declared.outcomes.Kept.{Kept}
use Rattle.pig_plan.specs.Asserts.{first_unmet}
use Rattle.pig_plan.specs.Valid.{IsPlan}
use Rattle.pig_reach.specs.Reach.{lines_read}
use Rattle.pig_runs.specs.Cutting.{Point}
use Rattle.pig_physical.specs.Outs.{Outs}
use Rattle.pig_physical.specs.Running.{AreOutputs, IsRun, all_unmet}
use Rattle.pig_physical.specs.Stages.{Stages, heads}
use Rattle.pig_driver.specs.Left.{AreLeft}
use Rattle.pig_collect.specs.Collecting.{HasStoreOutputs, least, lines_in, parts_given}

abbrev pub RunsReadLines : Type 0
RunsReadLines = (s : Stages) (inputs : List Input) (points : ℕ → List Point) (outs : Outs)
    → IsPlan s.plan → 0 < s.sizing.split → IsRun s inputs points outs → lines_in outs ≡ lines_read s.plan inputs

abbrev pub RunsTellTheFirstUnmet : Type 0
RunsTellTheFirstUnmet = (s : Stages) (inputs : List Input) (kept : List Kept) (points : ℕ → List Point) (outs : Outs)
    → IsPlan s.plan → 0 < s.sizing.reducers → 0 < s.sizing.split
    → IsRun s inputs points outs → AreOutputs s.plan outs kept → least (all_unmet outs) ≡ first_unmet s.plan inputs kept

-- What is left of outputs tells of STOREs, bare LIMITs, lines and ASSERTs what all of them tell.
pub record TellTheSame (s : Stages) (whole left : Outs) : Type 0 where
  pub size : length left ≡ length (heads s.plan)
  pub stored : HasStoreOutputs s left
  pub parts : parts_given s left ≡ parts_given s whole
  pub kept : (kept : List Kept) → AreOutputs s.plan left kept → AreOutputs s.plan whole kept
  pub read : lines_in left ≡ lines_in whole
  pub unmet : all_unmet left ≡ all_unmet whole

abbrev pub WhatIsLeftTellsTheSame : Type 0
WhatIsLeftTellsTheSame = (s : Stages) (whole left : Outs) → IsPlan s.plan → length whole ≡ length (heads s.plan)
    → HasStoreOutputs s whole → AreLeft s whole left (length (heads s.plan)) → TellTheSame s whole left
