-- What each step on a word tells the pass that makes it: the step, the seat before, the number found, the seat after.
use Rattle.std.specs.Prelude.{◌≡◌, ◌≢◌, ℕ, ◌+◌, ◌-◌, ◌^◌, ◌≤◌, ◌<◌, false, count_by, All, zero, suc}
use Rattle.pig_job.specs.Rule.{is_attempt}
use Rattle.atomic_table.specs.Table.{Me, Step}
use Rattle.pig_board.specs.declared.view.View.{View}
use Rattle.pig_board.specs.View.{IsAlone, knows_winner, fails_of, drew, began, won, came_late, failed_at, saw_winner, saw_count}
use Rattle.pig_board.specs.Rule.{winner_of}
use Rattle.pig_board.specs.Words.{begun_word, failures_word, winner_word}

-- a draw
pub record DrawTold {S : Type 0} (st : Step S) (m : Me S View) (x : ℕ) (m' : Me S View) : Type 0 where
  pub after : m' ≡ (drew x m.0, m.1)
  pub beyond : m.0.known ≤ x
  pub small : x < 2 ^ 31

-- a begin
pub record BeginTold {S : Type 0} (st : Step S) (m : Me S View) (x : ℕ) (m' : Me S View) : Type 0 where
  pub slots : m'.1 ≡ m.1
  pub room : m'.0.room ≡ m.0.room - 1
  pub streak : m'.0.streak ≡ m.0.streak
  pub small : x < 2 ^ 31
  pub after : (t : ℕ) → st.word ≡ begun_word t → (m' ≡ (began t x m.0, m.1)) × (count_by (is_attempt t x) m.0.tried ≡ 0)

-- the view after a commit of attempt a of task t that found the word x
abbrev pub committed : ℕ → ℕ → ℕ → View → View
committed t a zero v = won t a v
committed t a (suc b) v = came_late t a b v

-- a commit
pub record CommitTold {S : Type 0} (st : Step S) (m : Me S View) (x : ℕ) (m' : Me S View) : Type 0 where
  pub slots : m'.1 ≡ m.1
  pub room : m'.0.room ≡ m.0.room
  pub streak : m'.0.streak ≡ 0
  pub another : x ≢ st.second
  pub known : (t : ℕ) → st.word ≡ winner_word t → x ≡ 0 → knows_winner t m.0 ≡ false
  pub after : (t a : ℕ) → st.word ≡ winner_word t → st.second ≡ a + 1 → m' ≡ (committed t a x m.0, m.1)

-- a fail
pub record FailTold {S : Type 0} (st : Step S) (m : Me S View) (x : ℕ) (m' : Me S View) : Type 0 where
  pub slots : m'.1 ≡ m.1
  pub room : m'.0.room ≡ m.0.room - 1
  pub streak : m'.0.streak ≡ m.0.streak + 1
  pub few : m.0.streak < 2 ^ 31
  pub small : x < 2 ^ 31
  pub after : (t : ℕ) → st.word ≡ failures_word t → m' ≡ (failed_at t (x + 1) m.0, m.1)
  pub own : (t : ℕ) → st.word ≡ failures_word t → fails_of t m'.0 ≤ x + 1
  pub noted : (t : ℕ) → st.word ≡ failures_word t → All (λ p. p.0 ≡ t → p.1 ≤ x) m.0.counts
  pub alone : (t : ℕ) → st.word ≡ failures_word t → IsAlone m.0 → x + 1 ≡ fails_of t m'.0

-- a look at a winner
pub record WinnerTold {S : Type 0} (st : Step S) (m : Me S View) (x : ℕ) (m' : Me S View) : Type 0 where
  pub slots : m'.1 ≡ m.1
  pub room : m'.0.room ≡ m.0.room
  pub streak : m'.0.streak ≡ m.0.streak
  pub small : x ≤ 2 ^ 31
  pub after : (t : ℕ) → st.word ≡ winner_word t → m' ≡ (saw_winner t (winner_of x) m.0, m.1)
  pub none : (t : ℕ) → st.word ≡ winner_word t → x ≡ 0 → knows_winner t m.0 ≡ false
  pub alone : (t : ℕ) → st.word ≡ winner_word t → IsAlone m.0 → knows_winner t m.0 ≡ false → x ≡ 0

-- a look at a count of failures
pub record CountTold {S : Type 0} (st : Step S) (m : Me S View) (x : ℕ) (m' : Me S View) : Type 0 where
  pub slots : m'.1 ≡ m.1
  pub room : m'.0.room ≡ m.0.room
  pub streak : m'.0.streak ≡ m.0.streak
  pub small : x ≤ 2 ^ 31
  pub after : (t : ℕ) → st.word ≡ failures_word t → m' ≡ (saw_count t x m.0, m.1)
  pub own : (t : ℕ) → st.word ≡ failures_word t → fails_of t m.0 ≤ x
  pub noted : (t : ℕ) → st.word ≡ failures_word t → All (λ p. p.0 ≡ t → p.1 ≤ x) m.0.counts
  pub alone : (t : ℕ) → st.word ≡ failures_word t → IsAlone m.0 → x ≡ fails_of t m.0

-- a look that tells only that the pass's room is within its bound
pub record RoomTold {S : Type 0} (st : Step S) (m : Me S View) (x : ℕ) (m' : Me S View) : Type 0 where
  pub same : m' ≡ m
  pub small : m.0.room ≤ 2 ^ 31
