-- The rule of a board: what its words and the views of all its passes tell of one another.
use Rattle.std.specs.Prelude.{◌≡◌, ℕ, ◌+◌, ◌^◌, ◌≤◌, Option, Some, None, List, length, slice_index, sum_by, All, zero, suc}
use Rattle.std.specs.List.{flat_map}
use mathlib.Core.Option.{some}
use lib.ListN.{get_elem?}
use Rattle.pig_job.specs.Rule.{Words, Kept}
use Rattle.pig_board.specs.declared.view.View.{View}
use Rattle.pig_board.specs.View.{steps_of}
use Rattle.pig_board.specs.Words.{begun_word, failures_word, winner_word, words_for}

-- the winner that a word tells: none, or one less than the word
abbrev pub winner_of : ℕ → Option ℕ
winner_of zero = None
winner_of (suc a) = Some a

-- the words of a board of n tasks: `next`, then for each task its attempts begun, its failures and its winner
abbrev pub words_of : ℕ → List ℕ → Words
words_of n ws = record {
  tasks = n;
  next = slice_index ws 0;
  begun = λ t. slice_index ws (begun_word t);
  failed = λ t. slice_index ws (failures_word t);
  winner = λ t. winner_of (slice_index ws (winner_word t));
}

-- the sum of f over the numbers below n
abbrev pub sum_below : (ℕ → ℕ) → ℕ → ℕ
sum_below f zero = 0
sum_below f (suc n) = sum_below f n + f n

-- all that was drawn, begun and failed
abbrev pub total_of : Words → ℕ
total_of w = w.next + sum_below w.begun w.tasks + sum_below w.failed w.tasks

-- the notes of a pass: what it noted was so, and still is or has grown. Its fails in a row are failures of the tasks
pub record Noted (w : Words) (v : View) : Type 0 where
  pub known : v.known ≤ w.next
  pub winners : All (λ p. w.winner p.0 ≡ Some p.1) v.winners
  pub counts : All (λ p. p.1 ≤ w.failed p.0) v.counts
  pub streak : v.streak ≤ sum_below w.failed w.tasks

-- the rule of a board of n tasks with the words ws, whose passes have the views vs
pub record IsBoard (n : ℕ) (ws : List ℕ) (vs : List View) : Type 0 where
  pub long : length ws ≡ words_for n
  -- the words and the entries of all passes meet the rule of a job
  pub kept : Kept (words_of n ws) (flat_map (λ v. v.drawn) vs) (flat_map (λ v. v.tried) vs)
  -- the notes of each pass
  pub noted : (i : ℕ) (v : View) → get_elem? vs i ≡ some v → Noted (words_of n ws) v
  -- what was done and the room of all passes together
  pub within : total_of (words_of n ws) + sum_by (λ v. v.room) vs ≡ 2 ^ 31
  -- the same, counted by the passes
  pub shared_out : sum_by steps_of vs ≡ 2 ^ 31
