-- The step before: an entry of a job whose workers all run is taken back, and a step leads from there.
use Rattle.std.proofs.Common.{◌≡◌, ◌≢◌, ℕ, ◌+◌, ◌-◌, ◌^◌, ◌<◌, ◌≤◌, Bool, true, false, ◌&&◌, inl, inr, Option, Some, None, List, [], ◌∷◌, ◌++◌, cond, length, set, refl, sym, ◌∙◌, ap, subst, arith}
use Rattle.std.specs.Prelude.{◌==◌, count_by, sum_by, is_some, is_none, nat_lt, All, IsPermutation}
use Rattle.std.specs.List.{flat_map, list_any}
use Rattle.std.proofs.lemmas.Bool.{cases_Bool, and_from, or_left, eq-eqb, eqb-true, lt-ltb}
use Rattle.std.proofs.lemmas.Bool.Decides.{nat_tests}
use Rattle.std.proofs.lemmas.List.{get_or-set_same, get_or-set_other, length-set}
use Rattle.std.proofs.lemmas.List.Elements.{All-set}
use Rattle.std.proofs.lemmas.List.Sums.{sum_by-cons, sum_by-set}
use Rattle.std.proofs.lemmas.List.Sorted.{IsPermutation-refl, IsPermutation-trans, IsPermutation-to_front}
use Rattle.pig_job.specs.declared.Attempt.{Attempt}
use Rattle.pig_job.specs.declared.Event.{Event}
use Rattle.pig_job.specs.declared.Event.TheVariants as event
use Rattle.pig_job.specs.declared.Fate.{Fate}
use Rattle.pig_job.specs.declared.Fate.TheVariants.{Unended, Won, Late, Failed}
use Rattle.pig_job.specs.declared.Status.TheVariants.{Running}
use Rattle.pig_job.specs.declared.Task.{Task}
use Rattle.pig_job.specs.Rule.{Kept, is_attempt, is_open, is_win, is_late_of, is_failure_of, once_below, once_at, settle}
use Rattle.pig_job.specs.Job.{Job, WorkerState, no_worker, untried, task_of, worker_of, words_of, drawn_of, tried_of, total_of, is_running, runs, has_room, holds, settled, IsSameWorker, IsStep, AllRun, is_commit, is_lost_end}
use Rattle.pig_job.proofs.Bag.{SameBag, Adds, Swaps}
use Rattle.pig_job.proofs.Keeps.{attempt, SameWords, Draws, Begins, Wins, Fails, keeps_bags, undo_draw, undo_begin, undo_win, undo_late, undo_fail}
use Rattle.pig_job.proofs.States.{worker_at, task_at, sums_set, SameBag-set, kept_part}
use Rattle.pig_job.proofs.Find.{sum_by-split, counted, from_middle, workers_back, tasks_back}

-- the rule holds, all workers run, and the total is within its bound
pub record Ready (j : Job) : Type 0 where
  pub entries : Kept (words_of j) (drawn_of j) (tried_of j)
  pub run : AllRun j
  pub total : total_of j ≤ 2 ^ 31

-- the event ends an attempt in the fate f
abbrev pub ends_in : Fate → Event → Bool
ends_in Unended e = false
ends_in Won e = is_commit e
ends_in Late e = is_lost_end e
ends_in Failed e = is_lost_end e

-- an attempt in the fate f was under way one step before
pub record BeforeEnd (j : Job) (f : Fate) : Type 0 where
  pub job : Job
  pub event : Event
  pub task : ℕ
  pub number : ℕ
  pub ends : ends_in f event ≡ true
  pub step : IsStep job event j
  pub ready : Ready job
  pub tasks : length job.tasks ≡ length j.tasks
  pub workers : length job.workers ≡ length j.workers
  pub limit : job.limit ≡ j.limit
  pub swap : Swaps (attempt task number Unended) (attempt task number f) (tried_of job) (tried_of j)

-- worker w with its attempt a at task t under way again
abbrev pub reopened : List WorkerState → ℕ → ℕ → ℕ → List Attempt → List Attempt → WorkerState
reopened ws w t a front back = record (worker_at ws w) { tried = attempt t a Unended ∷ (front ++ back) }

reopened-here : (ws : List WorkerState) (w t a : ℕ) (front back : List Attempt) → w < length ws → worker_at (set ws w (reopened ws w t a front back)) w ≡ reopened ws w t a front back
reopened-here ws w t a front back l = get_or-set_same ws w (reopened ws w t a front back) no_worker l

reopened-swap : (ws : List WorkerState) (w t a : ℕ) (f : Fate) (front back : List Attempt) → w < length ws → (worker_at ws w).tried ≡ front ++ attempt t a f ∷ back → Swaps (attempt t a Unended) (attempt t a f) (flat_map (λ v. v.tried) (set ws w (reopened ws w t a front back))) (flat_map (λ v. v.tried) ws)
reopened-swap ws w t a f front back l e = record {
  sums = λ h.
      let p = sums_set h (λ v. v.tried) ws w (reopened ws w t a front back) l in
      let q = sum_by-split h (worker_at ws w).tried front (attempt t a f) back e in
      let r = sum_by-cons h (attempt t a Unended) (front ++ back) in
      omega arith;
}

reopened-drawn : (ws : List WorkerState) (w t a : ℕ) (front back : List Attempt) → w < length ws → SameBag (flat_map (λ v. v.drawn) ws) (flat_map (λ v. v.drawn) (set ws w (reopened ws w t a front back)))
reopened-drawn ws w t a front back l = SameBag-set (λ v. v.drawn) ws w (reopened ws w t a front back) l refl

is_attempt-refl : (t a : ℕ) (f : Fate) → is_attempt t a (attempt t a f) ≡ true
is_attempt-refl t a f = and_from (t == t) (a == a) (eq-eqb t t refl) (eq-eqb a a refl)

is_open-refl : (t a : ℕ) → is_open t a (attempt t a Unended) ≡ true
is_open-refl t a = is_attempt-refl t a Unended

reopened-holds : (ws : List WorkerState) (w t a : ℕ) (front back : List Attempt) → w < length ws → list_any (is_open t a) (worker_at (set ws w (reopened ws w t a front back)) w).tried ≡ true
reopened-holds ws w t a front back l =
    ap (λ v. list_any (is_open t a) v.tried) (reopened-here ws w t a front back l)
    ∙ or_left (is_open t a (attempt t a Unended)) (list_any (is_open t a) (front ++ back)) (is_open-refl t a)

reopened-runs : (ws : List WorkerState) (w t a : ℕ) (front back : List Attempt) → w < length ws → (worker_at ws w).status ≡ Running → is_running (worker_at (set ws w (reopened ws w t a front back)) w).status ≡ true
reopened-runs ws w t a front back l r = ap (λ v. is_running v.status) (reopened-here ws w t a front back l) ∙ ap is_running r

reopened-settled : (ws : List WorkerState) (w t a : ℕ) (f : Fate) (front back : List Attempt) → w < length ws → (worker_at ws w).tried ≡ front ++ attempt t a f ∷ back → IsSameWorker (settled (worker_at (set ws w (reopened ws w t a front back)) w) t a f) (worker_at ws w)
reopened-settled ws w t a f front back l e =
    let old = worker_at ws w in
    let P : WorkerState → Type 0 = λ v. IsSameWorker (settled v t a f) old in
    let now : settle t a f (attempt t a Unended ∷ (front ++ back)) ≡ attempt t a f ∷ (front ++ back) = ap (λ b. cond {A = List Attempt} b (attempt t a f ∷ (front ++ back)) (attempt t a Unended ∷ settle t a f (front ++ back))) (is_open-refl t a) in
    let tried = subst (λ xs. IsPermutation xs old.tried) (sym now) (from_middle old.tried front (attempt t a f) back e) in
    subst P (sym (reopened-here ws w t a front back l)) (record { drawn = IsPermutation-refl old.drawn; tried = tried; status = refl })

reopened-all : (ws : List WorkerState) (w t a : ℕ) (front back : List Attempt) → w < length ws → All (λ v. v.status ≡ Running) ws → All (λ v. v.status ≡ Running) (set ws w (reopened ws w t a front back))
reopened-all ws w t a front back l r = All-set (λ v. v.status ≡ Running) ws w (reopened ws w t a front back) (r w no_worker l) r

-- a task with an attempt was begun
has_begun : (j : Job) (w t a : ℕ) (f : Fate) (front back : List Attempt) → Ready j → w < length j.workers → (worker_of j w).tried ≡ front ++ attempt t a f ∷ back → 0 < (task_of j t).begun
has_begun j w t a f front back r l e =
    let c = counted (λ x. cond {A = ℕ} (is_attempt t a x) 1 0) (λ v. v.tried) j.workers w front (attempt t a f) back l e in
    let one : cond {A = ℕ} (is_attempt t a (attempt t a f)) 1 0 ≡ 1 = ap (λ b. cond {A = ℕ} b 1 0) (is_attempt-refl t a f) in
    let k = r.entries.attempts t a in
    below (task_of j t).begun a (omega arith)
  where
    below : (n b : ℕ) → 0 < once_below n b → 0 < n
    below n b h = grind (arith, nat_tests)

-- a late attempt was under way one step before
pub before_late : (j : Job) (w t a : ℕ) (front back : List Attempt) → Ready j → w < length j.workers → (worker_of j w).tried ≡ front ++ attempt t a Late ∷ back → BeforeEnd j Late
before_late j w t a front back r l e =
    let ws = j.workers in
    let i : Job = record j { workers = set ws w (reopened ws w t a front back) } in
    let words : SameWords (words_of i) (words_of j) = record { tasks = refl; next = refl; begun = λ u. refl; failed = λ u. refl; winner = λ u. refl } in
    let swap = reopened-swap ws w t a Late front back l e in
    let drawn = reopened-drawn ws w t a front back l in
    let entries = undo_late (words_of i) (words_of j) t a _ _ _ words swap (keeps_bags (words_of j) _ _ _ _ drawn (record { sums = λ f. refl }) r.entries) in
    let runs_still = reopened-runs ws w t a front back l (r.run w no_worker l) in
    let held = reopened-holds ws w t a front back l in
    let won : is_some (task_of j t).winner ≡ true = some_winner (task_of j t).winner (λ none. late_ends none) in
    record {
      job = i;
      event = event.Late w t a;
      task = t;
      number = a;
      ends = refl;
      step = record {
        allowed = and_from (runs i w) (holds i w t a && is_some (task_of i t).winner) runs_still (and_from (holds i w t a) (is_some (task_of i t).winner) held won);
        done = record {
          tasks = refl;
          limit = refl;
          next = refl;
          count = length-set (set ws w (reopened ws w t a front back)) w _ ∙ length-set ws w _;
          workers = workers_back ws w _ _ l (reopened-settled ws w t a Late front back l e);
        };
      };
      ready = record { entries = entries; run = reopened-all ws w t a front back l r.run; total = r.total };
      tasks = refl;
      workers = length-set ws w _;
      limit = refl;
      swap = swap;
    }
  where
    some_winner : (o : Option ℕ) → (o ≡ None → ⊥) → is_some o ≡ true
    some_winner None h = absurd (h refl)
    some_winner (Some b) h = refl

    late_ends : (task_of j t).winner ≡ None → ⊥
    late_ends none =
        let c = counted (λ x. cond {A = ℕ} (is_late_of t x) 1 0) (λ v. v.tried) j.workers w front (attempt t a Late) back l e in
        let one : cond {A = ℕ} (t == t) 1 0 ≡ 1 = ap (λ b. cond {A = ℕ} b 1 0) (eq-eqb t t refl) in
        let k = r.entries.late_ends t none in
        omega arith

-- where a part of each task is the same, so is its sum
sum_by-set_alike : (part : Task → ℕ) (ts : List Task) (t : ℕ) (x : Task) → t < length ts → part x ≡ part (task_at ts t) → sum_by part (set ts t x) ≡ sum_by part ts
sum_by-set_alike part ts t x l e = let p = sum_by-set part ts t x untried l in omega arith

-- a failed attempt was under way one step before
pub before_fail : (j : Job) (w t a : ℕ) (front back : List Attempt) → Ready j → w < length j.workers → (worker_of j w).tried ≡ front ++ attempt t a Failed ∷ back → BeforeEnd j Failed
before_fail j w t a front back r l e =
    let ws = j.workers in
    let ts = j.tasks in
    let x = task_of j t in
    let x0 : Task = record x { failed = x.failed - 1 } in
    let one_less : x0.failed + 1 ≡ x.failed = let p = some_failure in omega arith in
    let i : Job = record j { tasks = set ts t x0; workers = set ws w (reopened ws w t a front back) } in
    let there = (r.entries.drawn_first t (has_begun j w t a Failed front back r l e)).0 in
    let here : task_of i t ≡ x0 = get_or-set_same ts t x0 untried there in
    let words : Fails (words_of i) (words_of j) t = record {
      tasks = sym (length-set ts t x0);
      next = refl;
      begun = λ u. sym (kept_part (λ y. y.begun) ts t x0 refl u);
      failed = sym one_less ∙ ap (λ y. y.failed + 1) (sym here);
      others = λ u n. ap (λ y. y.failed) (sym (get_or-set_other ts t u x0 untried n));
      winner = λ u. sym (kept_part (λ y. y.winner) ts t x0 refl u);
    } in
    let swap = reopened-swap ws w t a Failed front back l e in
    let drawn = reopened-drawn ws w t a front back l in
    let entries = undo_fail (words_of i) (words_of j) t a _ _ _ words swap (keeps_bags (words_of j) _ _ _ _ drawn (record { sums = λ f. refl }) r.entries) in
    let begun = sum_by-set_alike (λ y. y.begun) ts t x0 there refl in
    let failed = sum_by-set (λ y. y.failed) ts t x0 untried there in
    let fewer : total_of i + 1 ≡ total_of j = omega arith in
    let within = r.total in
    let room : has_room i ≡ true = lt-ltb (total_of i) (2 ^ 31) (omega arith) in
    let runs_still = reopened-runs ws w t a front back l (r.run w no_worker l) in
    let held = reopened-holds ws w t a front back l in
    record {
      job = i;
      event = event.Fail w t a;
      task = t;
      number = a;
      ends = refl;
      step = record {
        allowed = and_from (runs i w) (has_room i && holds i w t a) runs_still (and_from (has_room i) (holds i w t a) room held);
        done = record {
          tasks = tasks_back ts t x0 _ (ap {A = Task} {B = Task} (λ y. record y { failed = y.failed + 1 }) here ∙ ap {A = ℕ} {B = Task} (λ n. record x { failed = n }) one_less);
          limit = refl;
          next = refl;
          count = length-set (set ws w (reopened ws w t a front back)) w _ ∙ length-set ws w _;
          workers = workers_back ws w _ _ l (reopened-settled ws w t a Failed front back l e);
        };
      };
      ready = record { entries = entries; run = reopened-all ws w t a front back l r.run; total = omega arith };
      tasks = length-set ts t x0;
      workers = length-set ws w _;
      limit = refl;
      swap = swap;
    }
  where
    some_failure : 0 < (task_of j t).failed
    some_failure =
        let c = counted (λ x. cond {A = ℕ} (is_failure_of t x) 1 0) (λ v. v.tried) j.workers w front (attempt t a Failed) back l e in
        let one : cond {A = ℕ} (t == t) 1 0 ≡ 1 = ap (λ b. cond {A = ℕ} b 1 0) (eq-eqb t t refl) in
        let k = r.entries.failures t in
        omega arith

-- the winner was under way one step before, if no attempt at its task is late
pub before_commit : (j : Job) (w t a : ℕ) (front back : List Attempt) → Ready j → count_by (is_late_of t) (tried_of j) ≡ 0 → w < length j.workers → (worker_of j w).tried ≡ front ++ attempt t a Won ∷ back → BeforeEnd j Won
before_commit j w t a front back r none l e =
    let ws = j.workers in
    let ts = j.tasks in
    let x = task_of j t in
    let x0 : Task = record x { winner = None } in
    let i : Job = record j { tasks = set ts t x0; workers = set ws w (reopened ws w t a front back) } in
    let there = (r.entries.drawn_first t (has_begun j w t a Won front back r l e)).0 in
    let here : task_of i t ≡ x0 = get_or-set_same ts t x0 untried there in
    let words : Wins (words_of i) (words_of j) t a = record {
      tasks = sym (length-set ts t x0);
      next = refl;
      begun = λ u. sym (kept_part (λ y. y.begun) ts t x0 refl u);
      failed = λ u. sym (kept_part (λ y. y.failed) ts t x0 refl u);
      before = ap (λ y. y.winner) here;
      winner = winner;
      others = λ u n. ap (λ y. y.winner) (sym (get_or-set_other ts t u x0 untried n));
    } in
    let swap = reopened-swap ws w t a Won front back l e in
    let drawn = reopened-drawn ws w t a front back l in
    let entries = undo_win (words_of i) (words_of j) t a _ _ _ words swap none (keeps_bags (words_of j) _ _ _ _ drawn (record { sums = λ f. refl }) r.entries) in
    let begun = sum_by-set_alike (λ y. y.begun) ts t x0 there refl in
    let failed = sum_by-set_alike (λ y. y.failed) ts t x0 there refl in
    let same : total_of i ≡ total_of j = omega arith in
    let within = r.total in
    let runs_still = reopened-runs ws w t a front back l (r.run w no_worker l) in
    let held = reopened-holds ws w t a front back l in
    let open_yet : is_none (task_of i t).winner ≡ true = ap (λ y. is_none y.winner) here in
    record {
      job = i;
      event = event.Commit w t a;
      task = t;
      number = a;
      ends = refl;
      step = record {
        allowed = and_from (runs i w) (holds i w t a && is_none (task_of i t).winner) runs_still (and_from (holds i w t a) (is_none (task_of i t).winner) held open_yet);
        done = record {
          tasks = tasks_back ts t x0 _ (ap {A = Task} {B = Task} (λ y. record y { winner = Some a }) here ∙ ap {A = Option ℕ} {B = Task} (λ o. record x { winner = o }) (sym winner));
          limit = refl;
          next = refl;
          count = length-set (set ws w (reopened ws w t a front back)) w _ ∙ length-set ws w _;
          workers = workers_back ws w _ _ l (reopened-settled ws w t a Won front back l e);
        };
      };
      ready = record { entries = entries; run = reopened-all ws w t a front back l r.run; total = omega arith };
      tasks = length-set ts t x0;
      workers = length-set ws w _;
      limit = refl;
      swap = swap;
    }
  where
    some_winner : (o : Option ℕ) → 0 < once_at o a → o ≡ Some a
    some_winner None h = absurd (omega arith)
    some_winner (Some b) h = elim (cases_Bool (b == a)) as (λ _. Some b ≡ Some a) [
      | inl y ↦ ap (λ n. Some n) (eqb-true b a y)
      | inr n ↦ let z : cond {A = ℕ} (b == a) 1 0 ≡ 0 = ap (λ c. cond {A = ℕ} c 1 0) n in absurd (omega arith)
    ]

    winner : (task_of j t).winner ≡ Some a
    winner =
        let c = counted (λ x. cond {A = ℕ} (is_win t a x) 1 0) (λ v. v.tried) j.workers w front (attempt t a Won) back l e in
        let one : cond {A = ℕ} (is_win t a (attempt t a Won)) 1 0 ≡ 1 = ap (λ b. cond {A = ℕ} b 1 0) (is_attempt-refl t a Won) in
        let k = r.entries.winners t a in
        some_winner (task_of j t).winner (omega arith)

-- the last attempt at task t was not begun one step before
pub record BeforeBegin (j : Job) (t a : ℕ) : Type 0 where
  pub job : Job
  pub worker : ℕ
  pub step : IsStep job (event.Begin worker t) j
  pub ready : Ready job
  pub tasks : length job.tasks ≡ length j.tasks
  pub workers : length job.workers ≡ length j.workers
  pub limit : job.limit ≡ j.limit
  pub begun : (task_of job t).begun ≡ a
  pub others : (u : ℕ) → u ≢ t → (task_of job u).begun ≡ (task_of j u).begun
  pub adds : Adds (attempt t a Unended) (tried_of job) (tried_of j)

pub before_begin : (j : Job) (w t a : ℕ) (front back : List Attempt) → Ready j → (task_of j t).begun ≡ a + 1 → w < length j.workers → (worker_of j w).tried ≡ front ++ attempt t a Unended ∷ back → BeforeBegin j t a
before_begin j w t a front back r last l e =
    let ws = j.workers in
    let ts = j.tasks in
    let x = task_of j t in
    let v = worker_of j w in
    let x0 : Task = record x { begun = a } in
    let v0 : WorkerState = record v { tried = front ++ back } in
    let i : Job = record j { tasks = set ts t x0; workers = set ws w v0 } in
    let begun_once = r.entries.drawn_first t (omega arith) in
    let there = begun_once.0 in
    let here : task_of i t ≡ x0 = get_or-set_same ts t x0 untried there in
    let worker_here : worker_of i w ≡ v0 = get_or-set_same ws w v0 no_worker l in
    let words : Begins (words_of i) (words_of j) t = record {
      tasks = sym (length-set ts t x0);
      next = refl;
      begun = last ∙ ap (λ y. y.begun + 1) (sym here);
      others = λ u n. ap (λ y. y.begun) (sym (get_or-set_other ts t u x0 untried n));
      failed = λ u. sym (kept_part (λ y. y.failed) ts t x0 refl u);
      winner = λ u. sym (kept_part (λ y. y.winner) ts t x0 refl u);
    } in
    let adds : Adds (attempt t a Unended) (tried_of i) (tried_of j) = record {
      sums = λ h.
          let p = sums_set h (λ z. z.tried) ws w v0 l in
          let q = sum_by-split h v.tried front (attempt t a Unended) back e in
          omega arith;
    } in
    let drawn = SameBag-set (λ z. z.drawn) ws w v0 l refl in
    let adds_at = subst (λ n. Adds (attempt t n Unended) (tried_of i) (tried_of j)) (ap (λ y. y.begun) (sym here)) adds in
    let entries = undo_begin (words_of i) (words_of j) t _ _ _ words adds_at (keeps_bags (words_of j) _ _ _ _ drawn (record { sums = λ f. refl }) r.entries) in
    let failed = sum_by-set_alike (λ y. y.failed) ts t x0 there refl in
    let begun = sum_by-set (λ y. y.begun) ts t x0 untried there in
    let fewer : total_of i + 1 ≡ total_of j = omega arith in
    let within = r.total in
    let room : has_room i ≡ true = lt-ltb (total_of i) (2 ^ 31) (omega arith) in
    let runs_still : runs i w ≡ true = ap (λ z. is_running z.status) worker_here ∙ ap is_running (r.run w no_worker l) in
    let in_job : nat_lt t (length i.tasks) ≡ true = lt-ltb t (length i.tasks) (let q = length-set ts t x0 in omega arith) in
    let drawn_yet : nat_lt t j.next ≡ true = lt-ltb t j.next begun_once.1 in
    let P : Task → WorkerState → Type 0 = λ y z. IsSameWorker (record z { tried = z.tried ++ attempt t y.begun Unended ∷ [] }) v in
    let same : IsSameWorker (record v0 { tried = (front ++ back) ++ attempt t a Unended ∷ [] }) v = record {
      drawn = IsPermutation-refl v.drawn;
      tried = IsPermutation-trans _ (attempt t a Unended ∷ (front ++ back)) _ (IsPermutation-to_front (front ++ back) (attempt t a Unended)) (from_middle v.tried front (attempt t a Unended) back e);
      status = refl;
    } in
    record {
      job = i;
      worker = w;
      step = record {
        allowed = and_from (runs i w) (has_room i && (nat_lt t (length i.tasks) && nat_lt t j.next)) runs_still (and_from (has_room i) (nat_lt t (length i.tasks) && nat_lt t j.next) room (and_from (nat_lt t (length i.tasks)) (nat_lt t j.next) in_job drawn_yet));
        done = record {
          tasks = tasks_back ts t x0 _ (ap {A = Task} {B = Task} (λ y. record y { begun = y.begun + 1 }) here ∙ ap {A = ℕ} {B = Task} (λ n. record x { begun = n }) (sym last));
          limit = refl;
          next = refl;
          count = length-set (set ws w v0) w _ ∙ length-set ws w _;
          workers = workers_back ws w v0 _ l (subst (λ z. P (task_of i t) z) (sym worker_here) (subst (λ y. P y v0) (sym here) same));
        };
      };
      ready = record { entries = entries; run = All-set (λ z. z.status ≡ Running) ws w v0 (r.run w no_worker l) r.run; total = omega arith };
      tasks = length-set ts t x0;
      workers = length-set ws w _;
      limit = refl;
      begun = ap (λ y. y.begun) here;
      others = λ u n. ap (λ y. y.begun) (get_or-set_other ts t u x0 untried n);
      adds = adds;
    }

-- the last number was not drawn one step before
pub record BeforeDraw (j : Job) (n : ℕ) : Type 0 where
  pub job : Job
  pub worker : ℕ
  pub step : IsStep job (event.Draw worker) j
  pub ready : Ready job
  pub tasks : job.tasks ≡ j.tasks
  pub next : job.next ≡ n
  pub workers : length job.workers ≡ length j.workers
  pub limit : job.limit ≡ j.limit

pub before_draw : (j : Job) (w n : ℕ) (front back : List ℕ) → Ready j → j.next ≡ n + 1 → ((t : ℕ) → (task_of j t).begun ≡ 0) → w < length j.workers → (worker_of j w).drawn ≡ front ++ n ∷ back → BeforeDraw j n
before_draw j w n front back r last none l e =
    let ws = j.workers in
    let v = worker_of j w in
    let v0 : WorkerState = record v { drawn = front ++ back } in
    let i : Job = record j { next = n; workers = set ws w v0 } in
    let worker_here : worker_of i w ≡ v0 = get_or-set_same ws w v0 no_worker l in
    let words : Draws (words_of i) (words_of j) = record { tasks = refl; next = last; begun = λ u. refl; failed = λ u. refl; winner = λ u. refl } in
    let adds : Adds n (drawn_of i) (drawn_of j) = record {
      sums = λ h.
          let p = sums_set h (λ z. z.drawn) ws w v0 l in
          let q = sum_by-split h v.drawn front n back e in
          omega arith;
    } in
    let tried = SameBag-set (λ z. z.tried) ws w v0 l refl in
    let entries = undo_draw (words_of i) (words_of j) _ _ _ words adds (λ t h. absurd (let z = none t in omega arith)) (keeps_bags (words_of j) _ _ _ _ (record { sums = λ f. refl }) tried r.entries) in
    let fewer : total_of i + 1 ≡ total_of j = omega arith in
    let within = r.total in
    let room : has_room i ≡ true = lt-ltb (total_of i) (2 ^ 31) (omega arith) in
    let runs_still : runs i w ≡ true = ap (λ z. is_running z.status) worker_here ∙ ap is_running (r.run w no_worker l) in
    let P : WorkerState → Type 0 = λ z. IsSameWorker (record z { drawn = z.drawn ++ n ∷ [] }) v in
    let same : IsSameWorker (record v0 { drawn = (front ++ back) ++ n ∷ [] }) v = record {
      drawn = IsPermutation-trans _ (n ∷ (front ++ back)) _ (IsPermutation-to_front (front ++ back) n) (from_middle v.drawn front n back e);
      tried = IsPermutation-refl v.tried;
      status = refl;
    } in
    record {
      job = i;
      worker = w;
      step = record {
        allowed = and_from (runs i w) (has_room i) runs_still room;
        done = record {
          tasks = refl;
          limit = refl;
          next = sym last;
          count = length-set (set ws w v0) w _ ∙ length-set ws w _;
          workers = workers_back ws w v0 _ l (subst P (sym worker_here) same);
        };
      };
      ready = record { entries = entries; run = All-set (λ z. z.status ≡ Running) ws w v0 (r.run w no_worker l) r.run; total = omega arith };
      tasks = refl;
      next = refl;
      workers = length-set ws w _;
      limit = refl;
    }
