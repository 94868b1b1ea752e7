-- The rule of a job: how its words and the entries of all its workers tell of one another.
use Rattle.std.specs.Prelude.{◌≡◌, ℕ, ◌<◌, Bool, true, false, ◌&&◌, ◌==◌, nat_lt, Option, Some, None, List, [], ◌∷◌, count_by, if◌then◌else◌}
use Rattle.pig_job.specs.declared.Attempt.{Attempt}
use Rattle.pig_job.specs.declared.Fate.{Fate}
use Rattle.pig_job.specs.declared.Fate.TheVariants.{Unended, Won, Late, Failed}

-- what all workers share: the number of tasks, the next number to draw, and per task the attempts begun,
-- the failures and the winner
pub record Words : Type 0 where
  pub tasks : ℕ
  pub next : ℕ
  pub begun : ℕ → ℕ
  pub failed : ℕ → ℕ
  pub winner : ℕ → Option ℕ

-- the attempt is still under way
abbrev pub is_unended : Fate → Bool
is_unended Unended = true
is_unended Won = false
is_unended Late = false
is_unended Failed = false

-- its output was the first
abbrev pub has_won : Fate → Bool
has_won Unended = false
has_won Won = true
has_won Late = false
has_won Failed = false

-- it ended well after another had won
abbrev pub is_late : Fate → Bool
is_late Unended = false
is_late Won = false
is_late Late = true
is_late Failed = false

-- it failed
abbrev pub has_failed : Fate → Bool
has_failed Unended = false
has_failed Won = false
has_failed Late = false
has_failed Failed = true

-- the attempt is task t's number a
abbrev pub is_attempt : ℕ → ℕ → Attempt → Bool
is_attempt t a x = (x.task == t) && (x.number == a)

-- it is task t's number a, still under way
abbrev pub is_open : ℕ → ℕ → Attempt → Bool
is_open t a x = is_unended x.fate && is_attempt t a x

-- it is task t's number a, and has won
abbrev pub is_win : ℕ → ℕ → Attempt → Bool
is_win t a x = has_won x.fate && is_attempt t a x

-- it is a late attempt of task t
abbrev pub is_late_of : ℕ → Attempt → Bool
is_late_of t x = is_late x.fate && (x.task == t)

-- it is a failed attempt of task t
abbrev pub is_failure_of : ℕ → Attempt → Bool
is_failure_of t x = has_failed x.fate && (x.task == t)

-- one for each number below n, and none above
abbrev pub once_below : ℕ → ℕ → ℕ
once_below n x = if nat_lt x n then 1 else 0

-- one for the number that is there, and none for another
abbrev pub once_at : Option ℕ → ℕ → ℕ
once_at None a = 0
once_at (Some b) a = if b == a then 1 else 0

-- the rule: `drawn` holds the numbers that all workers drew, and `tried` all their attempts
pub record Kept (w : Words) (drawn : List ℕ) (tried : List Attempt) : Type 0 where
  -- the drawn numbers are those below `next`, each once
  pub draws : (x : ℕ) → count_by (λ y. y == x) drawn ≡ once_below w.next x
  -- the attempts of a task are those below `begun`, each once
  pub attempts : (t a : ℕ) → count_by (is_attempt t a) tried ≡ once_below (w.begun t) a
  -- only a task of the job that was drawn has attempts
  pub drawn_first : (t : ℕ) → 0 < w.begun t → (t < w.tasks) × (t < w.next)
  -- `failed` counts the failed attempts of a task
  pub failures : (t : ℕ) → count_by (is_failure_of t) tried ≡ w.failed t
  -- the winner of a task is the one attempt of it that has won
  pub winners : (t a : ℕ) → count_by (is_win t a) tried ≡ once_at (w.winner t) a
  -- a task with a late attempt has a winner
  pub late_ends : (t : ℕ) → w.winner t ≡ None → count_by (is_late_of t) tried ≡ 0

-- the attempts, once the attempt a at task t that is under way has ended in the fate f
abbrev pub settle : ℕ → ℕ → Fate → List Attempt → List Attempt
settle t a f [] = []
settle t a f (x ∷ xs) = if is_open t a x then record x { fate = f } ∷ xs else (x ∷ settle t a f xs)
