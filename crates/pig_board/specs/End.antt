-- The end of a job: what stands of each task.
use Rattle.std.specs.Prelude.{◌≡◌, ℕ, ◌+◌, ◌^◌, ◌≤◌, None, List, length, slice_index, slice_index_or}
use Rattle.pig_job.specs.Rule.{Words, Kept}
use Rattle.pig_board.specs.declared.view.View.{View}
use Rattle.pig_board.specs.declared.end.TaskEnd.{TaskEnd}
use Rattle.pig_board.specs.Rule.{winner_of, total_of, Noted}
use Rattle.pig_board.specs.Words.{begun_word, failures_word, winner_word}

-- a task at which nothing was tried
abbrev pub untried : TaskEnd
untried = record { attempts = 0; failed = 0; winner = None }

-- the end of task t
abbrev pub end_of : List TaskEnd → ℕ → TaskEnd
end_of ends t = slice_index_or ends t untried

-- the end of task t that the words tell
abbrev pub end_in : List ℕ → ℕ → TaskEnd
end_in ws t = record {
  attempts = slice_index ws (begun_word t);
  failed = slice_index ws (failures_word t);
  winner = winner_of (slice_index ws (winner_word t));
}

-- the words of task t are small enough to be read as 32 bits
pub record AreSmall (ws : List ℕ) (t : ℕ) : Type 0 where
  pub attempts : slice_index ws (begun_word t) ≤ 2 ^ 31
  pub failed : slice_index ws (failures_word t) ≤ 2 ^ 31
  pub winner : slice_index ws (winner_word t) ≤ 2 ^ 31

-- the words of a job with these ends, in which `next` numbers were drawn
abbrev pub words_at : ℕ → List TaskEnd → Words
words_at next ends = record {
  tasks = length ends;
  next = next;
  begun = λ t. (end_of ends t).attempts;
  failed = λ t. (end_of ends t).failed;
  winner = λ t. (end_of ends t).winner;
}

-- the ends are those of the job whose entries are all in the view v
pub record IsEnd (v : View) (ends : List TaskEnd) : Type 0 where
  pub next : ℕ
  pub kept : Kept (words_at next ends) v.drawn v.tried
  pub within : total_of (words_at next ends) + v.room ≡ 2 ^ 31
  -- what the pass noted is right
  pub noted : Noted (words_at next ends) v
