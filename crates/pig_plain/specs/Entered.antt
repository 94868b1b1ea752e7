-- How rows become entries of a run.
use Rattle.std.specs.Prelude.{◌≡◌, List, [], codes, map}
use Rattle.std.specs.List.{AllByRecursion}
use Rattle.pig_value.specs.declared.operators.Dir.{Dir}
use Rattle.pig_value.specs.Gathering.{Entry}
use Rattle.pig_value.specs.Trees.{Tree, v_chars}
use Rattle.pig_value.specs.Valid.{IsValue}
use Rattle.pig_typed.specs.Literals.{LiteralsAre}
use Rattle.pig_typed.specs.Typed.{Typed, typed}
use Rattle.pig_plan.specs.ByKey.{key_of}
use Rattle.pig_plan.specs.Entries.{dirs_of, sort_entry}
use Rattle.pig_plan.specs.Operators.{keys_of}
use Rattle.pig_plain.specs.declared.entering.Entering.{Entering}
use Rattle.pig_plain.specs.declared.entering.Entering.TheVariants.{Together, Keyed, Sorting}

abbrev pub entry_under : Entering → List Tree → Entry
entry_under Together row = record { key = v_chars (codes "all"); input = 0; row = row }
entry_under (Keyed keys number) row = record { key = key_of (keys_of (map typed keys.now) row); input = number; row = row }
entry_under (Sorting keys) row = sort_entry keys.now row

-- a run is one of an operator by key, and the keys are values where they are of rows that are so
abbrev pub IsByKey : List Typed → List Dir → Type 0
IsByKey keys dirs = (dirs ≡ []) × AllByRecursion (LiteralsAre IsValue) keys

-- the keys are in the directions of a run
abbrev pub IsReady : Entering → List Dir → Type 0
IsReady Together dirs = dirs ≡ []
IsReady (Keyed keys number) dirs = IsByKey (map typed keys.now) dirs
IsReady (Sorting keys) dirs = dirs ≡ dirs_of keys.now
