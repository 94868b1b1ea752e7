-- What a pass knows: its entries, its notes and its room, and what each call makes of it.
use Rattle.std.specs.Prelude.{◌≡◌, ℕ, ◌+◌, ◌-◌, ◌/◌, ◌^◌, ◌≤◌, Bool, ◌&&◌, ◌||◌, ◌==◌, nat_lt, Option, Some, None, List, [], ◌∷◌, ◌++◌, length, count_by, max, if◌then◌else◌}
use Rattle.std.specs.List.{list_any}
use Rattle.pig_job.specs.declared.Attempt.{Attempt}
use Rattle.pig_job.specs.declared.Fate.TheVariants.{Unended, Won, Late, Failed}
use Rattle.pig_job.specs.Rule.{is_unended, has_won, has_failed, is_open, is_failure_of, settle}
use Rattle.pig_board.specs.declared.view.View.{View}

-- a pass's room and the number of its draws, begins and fails
abbrev pub steps_of : View → ℕ
steps_of v = v.room + length v.drawn + length v.tried + count_by (λ x. has_failed x.fate) v.tried

-- no other pass holds an entry: all steps of the board are this pass's
abbrev pub IsAlone : View → Type 0
IsAlone v = steps_of v ≡ 2 ^ 31

-- the attempt is one at task t that is under way
abbrev pub is_open_of : ℕ → Attempt → Bool
is_open_of t x = is_unended x.fate && (x.task == t)

-- the attempt has won task t
abbrev pub is_win_of : ℕ → Attempt → Bool
is_win_of t x = has_won x.fate && (x.task == t)

-- the pass began attempt a of task t and has not ended it
abbrev pub has_open : ℕ → ℕ → View → Bool
has_open t a v = list_any (is_open t a) v.tried

-- the pass has an attempt of task t that is not ended
abbrev pub has_open_of : ℕ → View → Bool
has_open_of t v = list_any (is_open_of t) v.tried

-- the pass won task t, or noted a winner of it
abbrev pub knows_winner : ℕ → View → Bool
knows_winner t v = list_any (is_win_of t) v.tried || list_any (λ p. p.0 == t) v.winners

-- the number of the pass's failed attempts of task t
abbrev pub fails_of : ℕ → View → ℕ
fails_of t v = count_by (is_failure_of t) v.tried

-- the number of the pass's failed attempts, of all tasks
abbrev pub all_fails : View → ℕ
all_fails v = count_by (λ x. has_failed x.fate) v.tried

-- the number of the pass's attempts of task t that won
abbrev pub wins_of : ℕ → View → ℕ
wins_of t v = count_by (is_win_of t) v.tried

-- a pass with this room that knows nothing
abbrev pub blank : ℕ → View
blank room = record { drawn = []; tried = []; known = 0; winners = []; counts = []; room = room; streak = 0 }

-- the first pass as the board opens
abbrev pub fresh : View
fresh = blank (2 ^ 31)

-- a pass that was joined away
abbrev pub spent : View
spent = blank 0

-- after the draw of x: it is drawn, and x + 1 numbers are known to be
abbrev pub drew : ℕ → View → View
drew x v = record v { drawn = v.drawn ++ x ∷ []; known = x + 1; room = v.room - 1 }

-- after the begin of attempt a at task t
abbrev pub began : ℕ → ℕ → View → View
began t a v =
    let attempt : Attempt = record { task = t; number = a; fate = Unended } in
    record v { tried = v.tried ++ attempt ∷ []; room = v.room - 1 }

-- after attempt a of task t has won, which ends a streak of fails
abbrev pub won : ℕ → ℕ → View → View
won t a v = record v { tried = settle t a Won v.tried; streak = 0 }

-- after attempt a of task t came later than attempt b, which is noted as the winner; a streak of fails ends
abbrev pub came_late : ℕ → ℕ → ℕ → View → View
came_late t a b v = record v { tried = settle t a Late v.tried; winners = v.winners ++ (t, b) ∷ []; streak = 0 }

-- the number of the earliest attempt of task t that is not ended
abbrev pub earliest : ℕ → List Attempt → ℕ
earliest t [] = 0
earliest t (x ∷ xs) = if is_open_of t x then x.number else earliest t xs

-- after the earliest attempt of task t that is not ended has failed, which makes c failures, c is noted,
-- and the streak is one longer
abbrev pub failed_at : ℕ → ℕ → View → View
failed_at t c v = record v {
  tried = settle t (earliest t v.tried) Failed v.tried;
  counts = v.counts ++ (t, c) ∷ [];
  room = v.room - 1;
  streak = v.streak + 1;
}

-- after a look at the winner of task t, which is noted if there is one
abbrev pub saw_winner : ℕ → Option ℕ → View → View
saw_winner t None v = v
saw_winner t (Some a) v = record v { winners = v.winners ++ (t, a) ∷ [] }

-- after a look at the failures of task t, whose number c is noted
abbrev pub saw_count : ℕ → ℕ → View → View
saw_count t c v = record v { counts = v.counts ++ (t, c) ∷ [] }

-- what a split leaves: all but half of the room, rounded down
abbrev pub kept_half : View → View
kept_half v = record v { room = v.room - v.room / 2 }

-- what a split gives the new pass: no entry, the same notes and streak, and that half of the room
abbrev pub other_half : View → View
other_half v = record v { drawn = []; tried = []; room = v.room / 2 }

-- after a join: lists and room are added, the larger drawn count is known, and the larger streak stays
abbrev pub both : View → View → View
both v w = record {
  drawn = v.drawn ++ w.drawn;
  tried = v.tried ++ w.tried;
  known = max v.known w.known;
  winners = v.winners ++ w.winners;
  counts = v.counts ++ w.counts;
  room = v.room + w.room;
  streak = max v.streak w.streak;
}

-- a draw on a board of n tasks: a number beyond all that were known is drawn, and given if it is a task
pub record IsDraw (n : ℕ) (v w : View) (answer : Option ℕ) : Type 0 where
  pub number : ℕ
  pub beyond : v.known ≤ number
  pub view : w ≡ drew number v
  pub answer_is : answer ≡ (if nat_lt number n then Some number else None)

-- a commit that came late: another attempt is the winner, and is noted
pub record IsLate (t a : ℕ) (v w : View) : Type 0 where
  pub winner : ℕ
  pub another : winner ≡ a → ⊥
  pub view : w ≡ came_late t a winner v
