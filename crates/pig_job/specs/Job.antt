-- A job as a state machine: its states, its steps, and the states that lists of steps reach.
use Rattle.std.specs.Prelude.{◌≡◌, ℕ, ◌+◌, ◌^◌, Bool, true, false, ◌&&◌, ◌||◌, not, nat_lt, nat_le, Some, None, is_some, is_none, List, [], ◌∷◌, ◌++◌, length, replicate, count_by, sum_by, All, IsPermutation, slice_set, slice_index_or}
use Rattle.std.specs.List.{list_all, list_any, flat_map}
use Rattle.std.specs.List.Sorted.{IsNonDecreasingBy}
use Rattle.pig_job.specs.declared.Attempt.{Attempt}
use Rattle.pig_job.specs.declared.Event.{Event}
use Rattle.pig_job.specs.declared.Event.TheVariants.{Draw, Begin, Commit, Late, Fail, Leave, Aside, Abort}
use Rattle.pig_job.specs.declared.Fate.{Fate}
use Rattle.pig_job.specs.declared.Fate.TheVariants as fate
use Rattle.pig_job.specs.declared.Status.{Status}
use Rattle.pig_job.specs.declared.Status.TheVariants.{Running, Left, PutAside, Aborted}
use Rattle.pig_job.specs.declared.Task.{Task}
use Rattle.pig_job.specs.Rule.{Words, Kept, is_unended, has_failed, is_open, settle}

-- a worker: the numbers that it drew, its attempts, and whether it still runs
pub record WorkerState : Type 0 where
  pub drawn : List ℕ
  pub tried : List Attempt
  pub status : Status

-- a job: its tasks, the number of failures of one task that end it, the next number to draw, and its workers
pub record Job : Type 0 where
  pub tasks : List Task
  pub limit : ℕ
  pub next : ℕ
  pub workers : List WorkerState

-- a task of which no attempt was begun
abbrev pub untried : Task
untried = record { begun = 0; failed = 0; winner = None }

-- a worker that has done nothing yet
abbrev pub fresh : WorkerState
fresh = record { drawn = []; tried = []; status = Running }

-- where there is no worker, none runs
abbrev pub no_worker : WorkerState
no_worker = record { drawn = []; tried = []; status = Aborted }

-- the job of n tasks and k workers with the limit l as it opens
abbrev pub opening : ℕ → ℕ → ℕ → Job
opening n k l = record { tasks = replicate n untried; limit = l; next = 0; workers = replicate k fresh }

-- the job's task t
abbrev pub task_of : Job → ℕ → Task
task_of j t = slice_index_or j.tasks t untried

-- the job's worker w
abbrev pub worker_of : Job → ℕ → WorkerState
worker_of j w = slice_index_or j.workers w no_worker

-- the words of the job
abbrev pub words_of : Job → Words
words_of j = record {
  tasks = length j.tasks;
  next = j.next;
  begun = λ t. (task_of j t).begun;
  failed = λ t. (task_of j t).failed;
  winner = λ t. (task_of j t).winner;
}

-- the numbers that all workers drew
abbrev pub drawn_of : Job → List ℕ
drawn_of j = flat_map (λ v. v.drawn) j.workers

-- the attempts of all workers
abbrev pub tried_of : Job → List Attempt
tried_of j = flat_map (λ v. v.tried) j.workers

-- all that was drawn, begun and failed
abbrev pub total_of : Job → ℕ
total_of j = j.next + sum_by (λ t. t.begun) j.tasks + sum_by (λ t. t.failed) j.tasks

-- a worker with so many failed attempts may be put aside
abbrev pub aside_limit : ℕ
aside_limit = 3

-- the worker still runs
abbrev pub is_running : Status → Bool
is_running Running = true
is_running Left = false
is_running PutAside = false
is_running Aborted = false

-- worker w is there, and runs
abbrev pub runs : Job → ℕ → Bool
runs j w = is_running (worker_of j w).status

-- one more may be drawn, begun or failed
abbrev pub has_room : Job → Bool
has_room j = nat_lt (total_of j) (2 ^ 31)

-- worker w has the attempt a at task t under way
abbrev pub holds : Job → ℕ → ℕ → ℕ → Bool
holds j w t a = list_any (is_open t a) (worker_of j w).tried

-- worker w has some attempt under way
abbrev pub is_busy : Job → ℕ → Bool
is_busy j w = list_any (λ x. is_unended x.fate) (worker_of j w).tried

-- the task has a winner
abbrev pub has_winner : Task → Bool
has_winner t = is_some t.winner

-- worker w has failed often enough to be put aside
abbrev pub is_failing : Job → ℕ → Bool
is_failing j w = nat_le aside_limit (count_by (λ x. has_failed x.fate) (worker_of j w).tried)

-- the task has failed as often as the limit l says
abbrev pub is_given_up : ℕ → Task → Bool
is_given_up l t = nat_le l t.failed

-- every task has a winner, or some task is given up
abbrev pub is_over : Job → Bool
is_over j = list_all has_winner j.tasks || list_any (is_given_up j.limit) j.tasks

-- the event is a step of the job
abbrev pub allows : Job → Event → Bool
allows j (Draw w) = runs j w && has_room j
allows j (Begin w t) = runs j w && (has_room j && (nat_lt t (length j.tasks) && nat_lt t j.next))
allows j (Commit w t a) = runs j w && (holds j w t a && is_none (task_of j t).winner)
allows j (Late w t a) = runs j w && (holds j w t a && is_some (task_of j t).winner)
allows j (Fail w t a) = runs j w && (has_room j && holds j w t a)
allows j (Leave w) = runs j w && (not (is_busy j w) && is_over j)
allows j (Aside w) = runs j w && (not (is_busy j w) && is_failing j w)
allows j (Abort w) = runs j w

-- the job with task t and worker w as given
abbrev pub with_both : Job → ℕ → Task → ℕ → WorkerState → Job
with_both j t x w v = record j { tasks = slice_set j.tasks t x; workers = slice_set j.workers w v }

-- the job with worker w as given
abbrev pub with_worker : Job → ℕ → WorkerState → Job
with_worker j w v = record j { workers = slice_set j.workers w v }

-- worker v once its attempt a at task t has ended in the fate f
abbrev pub settled : WorkerState → ℕ → ℕ → Fate → WorkerState
settled v t a f = record v { tried = settle t a f v.tried }

-- the job after the event
abbrev pub after : Job → Event → Job
after j (Draw w) =
    let v = worker_of j w in
    record (with_worker j w (record v { drawn = v.drawn ++ j.next ∷ [] })) { next = j.next + 1 }
after j (Begin w t) =
    let x = task_of j t in
    let v = worker_of j w in
    let attempt : Attempt = record { task = t; number = x.begun; fate = fate.Unended } in
    with_both j t (record x { begun = x.begun + 1 }) w (record v { tried = v.tried ++ attempt ∷ [] })
after j (Commit w t a) =
    with_both j t (record (task_of j t) { winner = Some a }) w (settled (worker_of j w) t a fate.Won)
after j (Late w t a) = with_worker j w (settled (worker_of j w) t a fate.Late)
after j (Fail w t a) =
    let x = task_of j t in
    with_both j t (record x { failed = x.failed + 1 }) w (settled (worker_of j w) t a fate.Failed)
after j (Leave w) = with_worker j w (record (worker_of j w) { status = Left })
after j (Aside w) = with_worker j w (record (worker_of j w) { status = PutAside })
after j (Abort w) = with_worker j w (record (worker_of j w) { status = Aborted })

-- the same worker: the order of its numbers and of its attempts does not matter
pub record IsSameWorker (v w : WorkerState) : Type 0 where
  pub drawn : IsPermutation v.drawn w.drawn
  pub tried : IsPermutation v.tried w.tried
  pub status : v.status ≡ w.status

-- the same job, but for the order of what its workers drew and tried
pub record IsSameJob (i j : Job) : Type 0 where
  pub tasks : i.tasks ≡ j.tasks
  pub limit : i.limit ≡ j.limit
  pub next : i.next ≡ j.next
  pub count : length i.workers ≡ length j.workers
  pub workers : (w : ℕ) → IsSameWorker (worker_of i w) (worker_of j w)

-- the event is a step from i to j
pub record IsStep (i : Job) (e : Event) (j : Job) : Type 0 where
  pub allowed : allows i e ≡ true
  pub done : IsSameJob (after i e) j

-- the events are steps, one after another, from i to j; where there are none, i is j
abbrev pub Runs : Job → List Event → Job → Type 0
Runs i [] j = i ≡ j
Runs i (e ∷ es) j = (m : Job) × (IsStep i e m × Runs m es j)

-- the rule of a job
pub record IsKept (j : Job) : Type 0 where
  pub entries : Kept (words_of j) (drawn_of j) (tried_of j)
  -- a worker that has left has no attempt under way, and the job is over
  pub leavers : (w : ℕ) → (worker_of j w).status ≡ Left → (is_busy j w ≡ false) × (is_over j ≡ true)
  -- one that was put aside has none either, and has failed often enough
  pub asides : (w : ℕ) → (worker_of j w).status ≡ PutAside → (is_busy j w ≡ false) × (is_failing j w ≡ true)

-- each worker of the job runs
abbrev pub AllRun : Job → Type 0
AllRun j = All (λ v. v.status ≡ Running) j.workers

-- the event is a draw
abbrev pub is_draw : Event → Bool
is_draw (Draw _) = true
is_draw _ = false

-- the event is a begin
abbrev pub is_begin : Event → Bool
is_begin (Begin _ _) = true
is_begin _ = false

-- the event is a commit
abbrev pub is_commit : Event → Bool
is_commit (Commit _ _ _) = true
is_commit _ = false

-- the event is a late or a failed end
abbrev pub is_lost_end : Event → Bool
is_lost_end (Late _ _ _) = true
is_lost_end (Fail _ _ _) = true
is_lost_end _ = false

-- the task that a begin names
abbrev pub begun_task : Event → ℕ
begun_task (Begin _ t) = t
begun_task _ = 0

-- the job is reached from its opening by draws, then begins in the order of the tasks, then commits, then
-- late and failed ends
pub record IsReached (j : Job) : Type 0 where
  pub draws : List Event
  pub begins : List Event
  pub commits : List Event
  pub ends : List Event
  pub are_draws : list_all is_draw draws ≡ true
  pub are_begins : list_all is_begin begins ≡ true
  pub by_task : IsNonDecreasingBy begun_task begins
  pub are_commits : list_all is_commit commits ≡ true
  pub are_ends : list_all is_lost_end ends ≡ true
  pub run : Runs (opening (length j.tasks) (length j.workers) j.limit) (draws ++ (begins ++ (commits ++ ends))) j
