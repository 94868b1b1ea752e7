-- What the waves of a plan give, node by node.
use Rattle.std.specs.Prelude.{◌≡◌, ℕ, ◌+◌, Bool, true, false, List, not, length, map, Some}
use Rattle.std.specs.List.{filter}
use Rattle.pig_plan.specs.Nodes.{is_boundary, is_live, op_at}
use Rattle.pig_plan.specs.Plans.{PlanOp, p_rank}
use Rattle.pig_plan.specs.Valid.{IsPlan}
use Rattle.pig_physical.specs.Stages.{MapTask, Stages, enters_first, first_wave, is_replicated, map_tasks, output_count, part_count, partition_tasks, parts_at, t_map, t_rank, t_reduce, tasks_in}

abbrev pub ranks : PlanOp → Bool
ranks (p_rank input keys dense) = true
ranks o = false

-- the waves of a live boundary node that is no replicated JOIN: two, and a third one of a RANK
pub record StandsAt (s : Stages) (k : ℕ) (o : PlanOp) : Type 0 where
  pub maps : tasks_in s (first_wave s.plan k) ≡ map t_map (map_tasks s k o)
  pub reduces : tasks_in s (first_wave s.plan k + 1) ≡ map t_reduce (partition_tasks s (first_wave s.plan k) k o)
  pub ranks : ranks o ≡ true → tasks_in s (first_wave s.plan k + 2) ≡ map t_rank (partition_tasks s (first_wave s.plan k + 1) k o)

abbrev pub TasksStandInWaves : Type 0
TasksStandInWaves = (s : Stages) (k : ℕ) (o : PlanOp)
    → op_at s.plan k ≡ Some o → is_live s.plan k ≡ true → is_boundary o ≡ true → is_replicated o ≡ false → StandsAt s k o

-- the waves of a live replicated JOIN: the rows of its further inputs are copied, those of the first one probe the copies
abbrev pub copy_tasks : Stages → ℕ → PlanOp → List MapTask
copy_tasks s k o = filter (λ t. not (enters_first t)) (map_tasks s k o)

abbrev pub probe_tasks : Stages → ℕ → PlanOp → List MapTask
probe_tasks s k o = filter enters_first (map_tasks s k o)

pub record ProbesAt (s : Stages) (k : ℕ) (o : PlanOp) : Type 0 where
  pub copies : tasks_in s (first_wave s.plan k) ≡ map t_map (copy_tasks s k o)
  pub probes : tasks_in s (first_wave s.plan k + 1) ≡ map t_map (probe_tasks s k o)

abbrev pub ProbesStandInWaves : Type 0
ProbesStandInWaves = (s : Stages) (k : ℕ) (o : PlanOp)
    → op_at s.plan k ≡ Some o → is_live s.plan k ≡ true → is_replicated o ≡ true → ProbesAt s k o

-- the parts of a node are as many as are counted, and of a replicated JOIN as many as its tasks that probe
abbrev pub PartsAreCounted : Type 0
PartsAreCounted = (s : Stages) → IsPlan s.plan → (k : ℕ) → length (parts_at s k) ≡ part_count s k

abbrev pub ProbesAreCounted : Type 0
ProbesAreCounted = (s : Stages) → IsPlan s.plan → (k : ℕ) (o : PlanOp)
    → op_at s.plan k ≡ Some o → is_replicated o ≡ true → length (probe_tasks s k o) ≡ output_count s o
