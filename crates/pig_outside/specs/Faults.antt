-- How devices count their failures.
use Rattle.std.specs.Prelude.{◌≡◌, ◌≤◌, ◌<◌, ◌-◌, ◌^◌, ℕ, Result, IsErrOf, MatchResult}
use Rattle.pig_outside.specs.declared.faults.OutsideError.{OutsideError}
use Rattle.pig_outside.specs.declared.faults.OutsideError.TheVariants.{Failed, OutOfMemory}

-- The end of a count that is kept as a u64.
abbrev pub count_end : ℕ
count_end = 2 ^ 64 - 1

-- The count has not fallen, and has risen where the answer is Failed.
pub record HasCause {T : Type 0} (before now : ℕ) (result : Result T OutsideError) : Type 0 where
  pub later : before ≤ now
  pub failed : IsErrOf result Failed → before < now

-- The same, and the count stands still after each other answer.
pub record HasConsoleCause {T : Type 0} (before now : ℕ) (result : Result T OutsideError) : Type 0 where
  pub later : before ≤ now
  pub failed : IsErrOf result Failed → before < now
  pub still : MatchResult result (λ _. now ≡ before) (λ e. e ≡ OutOfMemory → now ≡ before)
