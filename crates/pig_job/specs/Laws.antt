-- What holds of every list of steps, and of every job that meets the rule.
use Rattle.std.specs.Prelude.{ℕ, ◌^◌, ◌≤◌, List}
use Rattle.pig_job.specs.declared.Event.{Event}
use Rattle.pig_job.specs.Rule.{Kept}
use Rattle.pig_job.specs.Job.{Job, opening, words_of, drawn_of, tried_of, total_of, IsStep, Runs, IsKept, AllRun, IsReached}

-- every step keeps the rule
abbrev pub StepsKeepRule : Type 0
StepsKeepRule = (i j : Job) (e : Event) → IsKept i → IsStep i e j → IsKept j

-- every list of steps from an opening leads to a job that meets the rule
abbrev pub RunsKeepRule : Type 0
RunsKeepRule = (n k l : ℕ) (es : List Event) (j : Job) → Runs (opening n k l) es j → IsKept j

-- every job that meets the rule of its entries, whose workers all run and whose total is within its bound, is
-- reached from its opening by steps in order
abbrev pub KeptIsReached : Type 0
KeptIsReached = (j : Job) → AllRun j → total_of j ≤ 2 ^ 31 → Kept (words_of j) (drawn_of j) (tried_of j) → IsReached j
