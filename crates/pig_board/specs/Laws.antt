-- What holds of every board that meets its rule.
use Rattle.std.specs.Prelude.{◌≡◌, ℕ, ◌<◌, ◌≤◌, Bool, true, Option, Some, is_some, List, [], ◌∷◌, ◌++◌, map, slice_index, sum_by, All, zero, suc, if◌then◌else◌}
use Rattle.std.specs.List.{list_any}
use Rattle.pig_job.specs.declared.Status.TheVariants.{Running}
use Rattle.pig_job.specs.declared.Task.{Task}
use Rattle.pig_job.specs.Job.{WorkerState, Job, IsReached}
use Rattle.pig_board.specs.declared.view.View.{View}
use Rattle.pig_board.specs.declared.end.TaskEnd.{TaskEnd}
use Rattle.pig_board.specs.View.{has_open, has_open_of, knows_winner, fails_of, all_fails, wins_of, drew, began, won, came_late, failed_at, saw_winner, saw_count, kept_half, both}
use Rattle.pig_board.specs.Rule.{winner_of, IsBoard}
use Rattle.pig_board.specs.End.{end_of, IsEnd}
use Rattle.pig_board.specs.Words.{begun_word, failures_word, winner_word}

-- task t as the words have it
abbrev pub task_in : List ℕ → ℕ → Task
task_in ws t = record {
  begun = slice_index ws (begun_word t);
  failed = slice_index ws (failures_word t);
  winner = winner_of (slice_index ws (winner_word t));
}

-- the tasks below n as the words have them
abbrev pub tasks_in : List ℕ → ℕ → List Task
tasks_in ws zero = []
tasks_in ws (suc n) = tasks_in ws n ++ task_in ws n ∷ []

-- a pass as a worker that runs
abbrev pub worker_of : View → WorkerState
worker_of v = record { drawn = v.drawn; tried = v.tried; status = Running }

-- a board as a job with the limit l, which no step on a board reads: its words are the tasks, its passes the workers
abbrev pub job_of : ℕ → ℕ → List ℕ → List View → Job
job_of n l ws vs = record { tasks = tasks_in ws n; limit = l; next = slice_index ws 0; workers = map worker_of vs }

-- the words and the entries of all passes are those of a job that is reached from its opening by steps in order
abbrev pub BoardIsReached : Type 0
BoardIsReached = (n l : ℕ) (ws : List ℕ) (vs : List View) → IsBoard n ws vs → IsReached (job_of n l ws vs)

-- what the end of a job says of the pass that has all its entries
pub record EndTells (v : View) (ends : List TaskEnd) : Type 0 where
  -- the winner is one of the task's attempts
  pub winner : (t a : ℕ) → (end_of ends t).winner ≡ Some a → a < (end_of ends t).attempts
  -- the pass has won each task that has a winner once, and no other
  pub wins : (t : ℕ) → wins_of t v ≡ (if is_some (end_of ends t).winner then 1 else 0)
  -- a task has a winner where the pass knows one
  pub known : (t : ℕ) → knows_winner t v ≡ true → is_some (end_of ends t).winner ≡ true
  -- the failures are the failed attempts of the pass, task by task and all together
  pub failures : (t : ℕ) → (end_of ends t).failed ≡ fails_of t v
  pub all_failures : sum_by (λ e. e.failed) ends ≡ all_fails v
  -- no count that it noted is above the task's failures
  pub counts : All (λ p. p.1 ≤ (end_of ends p.0).failed) v.counts

-- the end of each job says so of the pass that was left
abbrev pub AnEndTells : Type 0
AnEndTells = (v : View) (ends : List TaskEnd) → IsEnd v ends → EndTells v ends

-- what v noted is noted in w, and the winners that it knows are known
pub record NotesStay (v w : View) : Type 0 where
  pub known : v.known ≤ w.known
  pub winners : (p : ℕ × ℕ → Bool) → list_any p v.winners ≡ true → list_any p w.winners ≡ true
  pub counts : (p : ℕ × ℕ → Bool) → list_any p v.counts ≡ true → list_any p w.counts ≡ true
  pub winner : (t : ℕ) → knows_winner t v ≡ true → knows_winner t w ≡ true

-- no call takes a note from a pass; a join keeps those of both. A draw is of a number beyond all that were known
pub record StepsKeepNotes : Type 0 where
  pub draw : (x : ℕ) (v : View) → v.known ≤ x → NotesStay v (drew x v)
  pub begin : (t a : ℕ) (v : View) → NotesStay v (began t a v)
  pub win : (t a : ℕ) (v : View) → has_open t a v ≡ true → NotesStay v (won t a v)
  pub late : (t a b : ℕ) (v : View) → has_open t a v ≡ true → NotesStay v (came_late t a b v)
  pub fail : (t c : ℕ) (v : View) → has_open_of t v ≡ true → NotesStay v (failed_at t c v)
  pub look_winner : (t : ℕ) (o : Option ℕ) (v : View) → NotesStay v (saw_winner t o v)
  pub look_count : (t c : ℕ) (v : View) → NotesStay v (saw_count t c v)
  pub cut : (v : View) → NotesStay v (kept_half v)
  pub join_left : (v w : View) → NotesStay v (both v w)
  pub join_right : (v w : View) → NotesStay w (both v w)
