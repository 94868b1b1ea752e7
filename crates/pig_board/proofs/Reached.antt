-- A board that meets its rule is a job that its own steps reach.
use Rattle.std.proofs.Common.{◌≡◌, ℕ, ◌+◌, ◌*◌, ◌<◌, List, [], ◌∷◌, ◌++◌, map, length, length-append, get_or, refl, sym, ◌∙◌, ap, arith, inl, inr, zero, suc}
use Rattle.std.specs.Prelude.{All}
use Rattle.std.specs.List.{flat_map, sum_by}
use Rattle.std.proofs.lemmas.Bool.{cases_eq, cases_lt}
use Rattle.std.proofs.lemmas.List.{get_or_past, get_or_push, get_or_append_left}
use Rattle.std.proofs.lemmas.List.Elements.{All-nil, All-cons}
use Rattle.std.proofs.lemmas.List.Sums.{sum_by_push}
use Rattle.pig_job.specs.declared.Status.TheVariants.{Running}
use Rattle.pig_job.specs.declared.Task.{Task}
use Rattle.pig_job.specs.Job.{WorkerState, untried, AllRun}
use Rattle.pig_job.specs.Job as job
use Rattle.pig_job.proofs.Bag.{SameBag}
use Rattle.pig_job.proofs.Keeps.{SameWords, keeps_same}
use Rattle.pig_job.proofs.Reach.{is_reached as job_reached}
use Rattle.pig_board.specs.declared.view.View.{View}
use Rattle.pig_board.specs.Rule.{winner_of, words_of, sum_below}
use Rattle.pig_board.specs.Laws.{task_in, tasks_in, worker_of, job_of, BoardIsReached}

length-tasks : (ws : List ℕ) (n : ℕ) → length (tasks_in ws n) ≡ n
length-tasks ws zero = refl
length-tasks ws (suc n) = let p = length-tasks ws n in let q = length-append (tasks_in ws n) (task_in ws n ∷ []) in omega arith

-- each of the tasks
task_below : (ws : List ℕ) (n t : ℕ) → t < n → get_or (tasks_in ws n) t untried ≡ task_in ws t
task_below ws zero t l = absurd (omega arith)
task_below ws (suc n) t l =
    let long = length-tasks ws n in
    elim (cases_eq t n) as (λ _. get_or (tasks_in ws (suc n)) t untried ≡ task_in ws t) [
      | inl same ↦ ap (λ k. get_or (tasks_in ws (suc n)) k untried) (same ∙ sym long) ∙ get_or_push (tasks_in ws n) (task_in ws n) untried (length (tasks_in ws n)) refl ∙ ap (task_in ws) (sym same)
      | inr other ↦ get_or_append_left (tasks_in ws n) (task_in ws n ∷ []) untried t (omega arith) ∙ task_below ws n t (omega arith)
    ]

-- beyond the tasks the words are 0
task_is : (ws : List ℕ) (n t : ℕ) → length ws ≡ 3 * n + 1 → get_or (tasks_in ws n) t untried ≡ task_in ws t
task_is ws n t long = elim (cases_lt t n) as (λ _. get_or (tasks_in ws n) t untried ≡ task_in ws t) [
  | inl l ↦ task_below ws n t l
  | inr l ↦
      let count = length-tasks ws n in
      let a = get_or_past ws (3 * t + 1) 0 (omega arith) in
      let b = get_or_past ws (3 * t + 2) 0 (omega arith) in
      let c = get_or_past ws (3 * t + 3) 0 (omega arith) in
      get_or_past (tasks_in ws n) t untried (omega arith) ∙ sym (
      ap {A = ℕ} {B = Task} (λ k. record { begun = k; failed = get_or ws (3 * t + 2) 0; winner = winner_of (get_or ws (3 * t + 3) 0) }) a
      ∙ ap {A = ℕ} {B = Task} (λ k. record { begun = 0; failed = k; winner = winner_of (get_or ws (3 * t + 3) 0) }) b
      ∙ ap {A = ℕ} {B = Task} (λ k. record { begun = 0; failed = 0; winner = winner_of k }) c)
]

-- sums over the tasks
sum_tasks : (f : Task → ℕ) (ws : List ℕ) (n : ℕ) → sum_by f (tasks_in ws n) ≡ sum_below (λ t. f (task_in ws t)) n
sum_tasks f ws zero = refl
sum_tasks f ws (suc n) = let p = sum_tasks f ws n in let q = sum_by_push f (tasks_in ws n) (task_in ws n) in omega arith

-- the entries of the workers are those of the passes
same_entries : {X : Type 0} (g : WorkerState → List X) (vs : List View) → flat_map g (map worker_of vs) ≡ flat_map (λ v. g (worker_of v)) vs
same_entries g [] = refl
same_entries g (v ∷ vs) = ap (λ xs. g (worker_of v) ++ xs) (same_entries g vs)

all_run : (vs : List View) → All (λ w. w.status ≡ Running) (map worker_of vs)
all_run [] = All-nil (λ (w : WorkerState). w.status ≡ Running)
all_run (v ∷ vs) = All-cons (λ (w : WorkerState). w.status ≡ Running) (worker_of v) (map worker_of vs) refl (all_run vs)

bag : {X : Type 0} (xs ys : List X) → ys ≡ xs → SameBag xs ys
bag xs ys e = record { sums = λ f. ap (sum_by f) e }

pub is_reached : BoardIsReached
is_reached n l ws vs b =
    let j = job_of n l ws vs in
    let same : SameWords (words_of n ws) (job.words_of j) = record {
      tasks = length-tasks ws n;
      next = refl;
      begun = λ t. ap (λ (k : Task). k.begun) (task_is ws n t b.long);
      failed = λ t. ap (λ (k : Task). k.failed) (task_is ws n t b.long);
      winner = λ t. ap (λ (k : Task). k.winner) (task_is ws n t b.long);
    } in
    let begun = sum_tasks (λ t. t.begun) ws n in
    let failed = sum_tasks (λ t. t.failed) ws n in
    let within = b.within in
    let kept = keeps_same (words_of n ws) (job.words_of j) _ _ _ _ same (bag _ _ (same_entries (λ (w : WorkerState). w.drawn) vs)) (bag _ _ (same_entries (λ (w : WorkerState). w.tried) vs)) b.kept in
    job_reached j (record { entries = kept; run = all_run vs; total = omega arith })
