-- What the operators by key give of a run with a node's entries: the node's results over these entries.
use Rattle.std.specs.Prelude.{◌≡◌, ℕ, List, map, length, drop}
use Rattle.std.specs.List.{AllByRecursion}
use Rattle.pig_value.specs.Gathering.{Entry}
use Rattle.pig_value.specs.Trees.{Tree, v_tuple, fields_of}
use Rattle.pig_typed.specs.declared.blocks.SortKey.{SortKey}
use Rattle.pig_plan.specs.ByKey.{cogroup_of, gathered, group_of, join_of, outer_of}
use Rattle.pig_plan.specs.Entries.{dirs_of, sort_entry}
use Rattle.pig_runs.specs.Entries.{InDirections}
use Rattle.pig_operators.specs.declared.by_key.Gathering.{Gathering}
use Rattle.pig_operators.specs.declared.by_key.Gathering.TheVariants as how

-- what an operator makes of a key and the bags of its rows
abbrev pub made : Gathering → Tree → (ℕ → List (List Tree)) → List (List Tree)
made how.Group = group_of
made (how.Cogroup inner) = cogroup_of inner (length inner)
made (how.Join inputs) = join_of inputs
made (how.Outer side left right) = outer_of side left right

-- what an operator gives of the entries from a place on
abbrev pub to_come : Gathering → InDirections → ℕ → List (List Tree)
to_come operator run from = gathered (made operator) (drop from run.entries)

abbrev pub run_rows : InDirections → List (List Tree)
run_rows run = map (λ e. e.row) run.entries

-- the key of each entry is its row, as that of DISTINCT is
abbrev pub AreKeyedByRow : List Entry → Type 0
AreKeyedByRow es = AllByRecursion (λ e. e.key ≡ v_tuple (fields_of e.row)) es

-- ---- ORDER

-- a run with entries of ORDER by these keys
pub record IsOrdering (keys : List SortKey) (run : InDirections) : Type 0 where
  pub dirs : run.dirs ≡ dirs_of keys
  pub entries : AllByRecursion (λ e. e ≡ sort_entry keys e.row) run.entries
