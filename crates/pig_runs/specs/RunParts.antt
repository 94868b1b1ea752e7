-- Parts of runs.
use Rattle.std.specs.Prelude.{List, take, drop}
use Rattle.pig_value.specs.Gathering.{Entry}
use Rattle.pig_runs.specs.Entries.{InDirections}
use Rattle.pig_runs.specs.declared.run_parts.RunPart.{RunPart}

-- the entries of a part
abbrev pub part_entries : RunPart → List Entry
part_entries part = drop part.from (take part.end part.run.now.entries)

-- a part as a run of its own
abbrev pub part_run : RunPart → InDirections
part_run part = record { dirs = part.run.now.dirs; entries = part_entries part }
