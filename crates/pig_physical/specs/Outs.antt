-- What tasks hand on, as contracts see it.
use Rattle.std.specs.Prelude.{ℕ, List, [], Option, Some, None, slice_get}
use Rattle.std.specs.List.{flat_map}
use Rattle.std.specs.Option.{option_map_or}
use Rattle.pig_value.specs.Gathering.{Entry}
use Rattle.pig_value.specs.Trees.{Tree}
use Rattle.pig_plan.specs.Results.{at_place}
use Rattle.pig_runs.specs.Entries.{InDirections, entries_of_all}

-- rows, sorted runs by partition, or the bytes of a STORE's part
pub data Form : Type 0 where
  o_rows : List (List Tree) → Form
  o_runs : List InDirections → Form
  o_bytes : List ℕ → Form

-- what a task hands on, how many lines it read from its split, and the statements of the ASSERTs on its path that its rows
-- don't meet
pub record TaskOut : Type 0 where
  pub form : Form
  pub lines : ℕ
  pub unmet : List ℕ

-- the outputs of each wave that ended, in the order of its tasks
abbrev pub Outs : Type 0
Outs = List (List TaskOut)

-- the rows, the runs, the bytes, where it holds such
abbrev pub rows_held : Form → Option (List (List Tree))
rows_held (o_rows rows) = Some rows
rows_held form = None

abbrev pub runs_held : Form → Option (List InDirections)
runs_held (o_runs runs) = Some runs
runs_held form = None

abbrev pub bytes_held : Form → Option (List ℕ)
bytes_held (o_bytes bytes) = Some bytes
bytes_held form = None

abbrev pub rows_in : Form → List (List Tree)
rows_in (o_rows rows) = rows
rows_in form = []

abbrev pub runs_in : Form → List InDirections
runs_in (o_runs runs) = runs
runs_in form = []

abbrev pub bytes_in : Form → List ℕ
bytes_in (o_bytes bytes) = bytes
bytes_in form = []

abbrev pub outs_at : Outs → ℕ → List TaskOut
outs_at = at_place []

abbrev pub rows_at : Outs → ℕ → ℕ → List (List Tree)
rows_at outs wave at = option_map_or (λ out. rows_in out.form) (slice_get (outs_at outs wave) at) []

-- the entries of a partition
abbrev pub entries_at : ℕ → TaskOut → List Entry
entries_at p out = option_map_or (λ run. run.entries) (slice_get (runs_in out.form) p) []

-- the entries of all runs that outputs hold
abbrev pub entries_held : List TaskOut → List Entry
entries_held outs = flat_map (λ out. entries_of_all (runs_in out.form)) outs
