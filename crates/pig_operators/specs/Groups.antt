-- Groups of a run's entries: those from a place up to another.
use Rattle.std.specs.Prelude.{◌≡◌, ◌<◌, ◌≤◌, ◌+◌, ◌==◌, ◌&&◌, not, ℕ, Bool, true, List, [], ◌∷◌, map, length, take, drop, Option, Some, None, option_map, slice_get, if◌then◌else◌}
use Rattle.std.specs.List.{flat_map, range_with_len}
use Rattle.pig_value.specs.Gathering.{Entry}
use Rattle.pig_value.specs.declared.values.Value.{Value}
use Rattle.pig_value.specs.Trees.{Tree, or_null, row_tree}
use Rattle.pig_plan.specs.ByKey.{all_there, alone, bags_of, is_empty, kept_where, rows_of}
use Rattle.pig_runs.specs.Entries.{InDirections, key_at}

-- what stands from a place up to another
abbrev pub between : {X : Type 0} → ℕ → ℕ → List X → List X
between from end xs = drop from (take end xs)

abbrev pub group_entries : InDirections → ℕ → ℕ → List Entry
group_entries run from end = between from end run.entries

-- the rows of these entries, and the bags of each input's
abbrev pub rows_at : InDirections → ℕ → ℕ → List (List Tree)
rows_at run from end = map (λ e. e.row) (between from end run.entries)

abbrev pub bags_at : InDirections → ℕ → ℕ → ℕ → List (List Tree)
bags_at run from end = rows_of (group_entries run from end)

abbrev pub first_key : InDirections → ℕ → Tree
first_key run from = or_null (key_at run from)

abbrev pub input_at : InDirections → ℕ → Option ℕ
input_at run at = option_map (λ e. e.input) (slice_get run.entries at)

-- the entries have the key of the first of them, and the next entry has another
pub record IsGroup (run : InDirections) (from end : ℕ) : Type 0 where
  pub some : from < end
  pub within : end ≤ length run.entries
  pub same : (k : ℕ) → from ≤ k → k < end → key_at run k ≡ key_at run from
  pub other : end < length run.entries → key_at run end ≡ key_at run from → ⊥

-- of these entries the first ones, up to a place, are of the input, and the next is of another
pub record IsInput (run : InDirections) (from end input next : ℕ) : Type 0 where
  pub order : from ≤ next
  pub within : next ≤ end
  pub same : (k : ℕ) → from ≤ k → k < next → input_at run k ≡ Some input
  pub other : next < end → input_at run next ≡ Some input → ⊥

-- the entries are one of each input, in order
pub record HasOneEach (run : InDirections) (from end inputs : ℕ) : Type 0 where
  pub count : end ≡ from + inputs
  pub each : (k : ℕ) → k < inputs → input_at run (from + k) ≡ Some k

-- ---- COGROUP

-- a row, where there is one
abbrev pub perhaps : Option (List Value) → List (List Tree)
perhaps None = []
perhaps (Some row) = row_tree row ∷ []

-- the rows of one input, and none of another
abbrev pub rows_alone : ℕ → List (List Tree) → ℕ → List (List Tree)
rows_alone i rows j = if j == i then rows else []

-- no input is INNER but the one with the number k; the first flag is that of the input i
abbrev pub no_other : List Bool → ℕ → ℕ → Bool
no_other [] i k = true
no_other (inner ∷ more) i k = not (inner && not (i == k)) && no_other more (i + 1) k

-- the row of one input's rows alone
abbrev pub lone_rows : List Bool → Tree → ℕ → List (List Tree) → List (List Tree)
lone_rows inner k i rows = kept_where (not (is_empty rows) && no_other inner 0 i) (bags_of (length inner) k (rows_alone i rows))

-- the rows of a key that groups apart, for the first n inputs
abbrev pub apart_rows : List Bool → Tree → (ℕ → List (List Tree)) → ℕ → List (List Tree)
apart_rows inner k rows n = flat_map (λ i. kept_where (not (is_empty (rows i)) && all_there inner 0 (alone i rows)) (bags_of (length inner) k (alone i rows))) (range_with_len 0 n)

-- ---- outer JOIN

-- where the entries of the left side end, and those of the right one
pub record AreSides (run : InDirections) (from end middle last : ℕ) : Type 0 where
  pub left_order : from ≤ middle
  pub right_order : middle ≤ last
  pub within : last ≤ length run.entries
  pub left : bags_at run from end 0 ≡ rows_at run from middle
  pub right : bags_at run from end 1 ≡ rows_at run middle last
