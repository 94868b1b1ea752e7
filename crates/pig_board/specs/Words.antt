-- Where the words of a board stand: the next number to draw in front, and behind it three for each task.
use Rattle.std.specs.Prelude.{ℕ, ◌+◌, ◌*◌}

abbrev pub words_for : ℕ → ℕ
words_for tasks = 3 * tasks + 1

-- the attempts of a task that were begun, those that failed, and its winner
abbrev pub begun_word : ℕ → ℕ
begun_word t = 3 * t + 1

abbrev pub failures_word : ℕ → ℕ
failures_word t = 3 * t + 2

abbrev pub winner_word : ℕ → ℕ
winner_word t = 3 * t + 3
