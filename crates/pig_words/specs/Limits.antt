-- What each option sets where it is not given, and at most; and the most that `demo` takes.
use Rattle.std.specs.Prelude.{ℕ}

abbrev pub usual_workers : ℕ
usual_workers = 4

abbrev pub usual_reducers : ℕ
usual_reducers = 4

abbrev pub most_reducers : ℕ
most_reducers = 256

abbrev pub usual_split : ℕ
usual_split = 1048576

abbrev pub most_split : ℕ
most_split = 67108864

abbrev pub usual_attempts : ℕ
usual_attempts = 4

abbrev pub most_attempts : ℕ
most_attempts = 16

abbrev pub most_demo : ℕ
most_demo = 100000
