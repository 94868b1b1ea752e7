-- What the outputs of all waves hold: the parts of STOREs, what bare LIMITs kept, the ASSERTs that are not met, and how many lines were
-- read. (That a directory has a part for each task of its STORE is a choice of this profile.)
use Rattle.std.specs.Prelude.{◌≡◌, ℕ, List, [], ◌∷◌, ◌++◌, length, Option, slice_get, if◌then◌else◌}
use Rattle.std.specs.List.{flat_map, sum_by}
use Rattle.std.specs.Ordering.{nat_cmp}
use Rattle.pig_value.specs.Sorts.{sort}
use Rattle.pig_physical.specs.Outs.{Outs, TaskOut, bytes_in, outs_at}
use Rattle.pig_physical.specs.Running.{is_for, store_wave}
use Rattle.pig_physical.specs.Stages.{Stages, Task, store_tasks, tasks_in}

-- ---- STOREs

-- the bytes of the tasks that are for the STORE numbered k, task by task
abbrev pub parts_for : ℕ → List Task → List TaskOut → List (List ℕ)
parts_for k [] outs = []
parts_for k (task ∷ tasks) [] = []
parts_for k (task ∷ tasks) (out ∷ outs) = (if is_for k task then bytes_in out.form ∷ [] else []) ++ parts_for k tasks outs

-- the parts of a STORE, in the order of its tasks, and how many there are
abbrev pub parts_given : Stages → Outs → ℕ → List (List ℕ)
parts_given s outs k = parts_for k (tasks_in s (store_wave s.plan)) (outs_at outs (store_wave s.plan))

abbrev pub part_count : Stages → ℕ → ℕ
part_count s k = length (store_tasks s k)

-- the wave of the STOREs has an output for each of its tasks
abbrev pub HasStoreOutputs : Stages → Outs → Type 0
HasStoreOutputs s outs = length (outs_at outs (store_wave s.plan)) ≡ length (tasks_in s (store_wave s.plan))

-- parts, one behind the other
abbrev pub joined : List (List ℕ) → List ℕ
joined = flat_map (λ part. part)

-- ---- ASSERTs

-- the least of some statements
abbrev pub least : List ℕ → Option ℕ
least statements = slice_get (sort nat_cmp statements) 0

-- ---- the number of lines

-- the lines that tasks read
abbrev pub lines_in : Outs → ℕ
lines_in outs = sum_by (sum_by (λ out. out.lines)) outs
