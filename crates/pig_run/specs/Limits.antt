-- What a run takes at most: the bytes of a script, its statements, and the bytes of all inputs.
use Rattle.std.specs.Prelude.{ℕ, ◌^◌}

abbrev pub most_script : ℕ
most_script = 2 ^ 20

abbrev pub most_statements : ℕ
most_statements = 4096

abbrev pub most_input : ℕ
most_input = 2 ^ 26
