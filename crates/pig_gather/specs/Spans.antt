-- Entries of a run from a place up to another.
use Rattle.std.specs.Prelude.{◌≤◌, List, length}
use Rattle.pig_value.specs.Trees.{Tree}
use Rattle.pig_runs.specs.Entries.{InDirections}
use Rattle.pig_operators.specs.Groups.{rows_at}
use Rattle.pig_gather.specs.declared.lent.Span.{Span}

pub record IsSpan (run : InDirections) (s : Span) : Type 0 where
  pub order : s.from ≤ s.end
  pub within : s.end ≤ length run.entries

-- the rows of these entries
abbrev pub rows_in : InDirections → Span → List (List Tree)
rows_in run s = rows_at run s.from s.end
