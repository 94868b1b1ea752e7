-- How the code goes: what stands before a place of a sorted list, from row to row and from partition to partition.
use Rattle.std.specs.Prelude.{ℕ, ◌+◌, ◌-◌, ◌%◌, ◌^◌, Bool, true, false, Option, Some, None, List, [], ◌∷◌, pos, if◌then◌else◌}
use Rattle.std.specs.Borrow.{Bor}
use Rattle.std.specs.Option.{option_copied, option_map, option_map_or}
use Rattle.std.specs.List.{fold}
use Rattle.std.specs.Ordering.{is_eq}
use Rattle.pig_value.specs.Functions.{long_of}
use Rattle.pig_value.specs.Orders.{tree_cmp}
use Rattle.pig_value.specs.Trees.{Tree, at, row_tree}
use Rattle.pig_value.specs.declared.values.Value.{Value}
use Rattle.pig_typed.specs.declared.blocks.SortKey.{SortKey}
use Rattle.pig_plan.specs.Operators.{sort_keys_cmp}
use Rattle.pig_rank.specs.declared.passing.Passed.{Passed}
use Rattle.pig_rank.specs.Ranks.{PartStart, PartSummary, Rows}

-- the tree of a row that was looked for
abbrev pub found_row : Option (Bor (List Value)) → Option (List Tree)
found_row row = option_map row_tree (option_copied row)

abbrev pub passed_start : Passed → PartStart
passed_start p = record { rank = p.rows; dense = p.keys; last = found_row p.last; tail = p.tail }

abbrev pub nothing : PartStart
nothing = record { rank = 0; dense = 0; last = None; tail = 0 }

-- whether two rows have the same value in the field of a key
abbrev pub has_same_field : List Tree → List Tree → SortKey → Bool
has_same_field x y key = is_eq (tree_cmp (at key.position x) (at key.position y))

-- whether a row has the key of the last one
abbrev pub goes_on : List SortKey → Option (List Tree) → List Tree → Bool
goes_on keys last row = option_map_or (λ before. is_eq (sort_keys_cmp keys before row)) last false

-- with one more row
abbrev pub and_row : List SortKey → PartStart → List Tree → PartStart
and_row keys s row = record {
  rank = (s.rank + 1) % 2 ^ 64;
  dense = if goes_on keys s.last row then s.dense else (s.dense + 1) % 2 ^ 64;
  last = Some row;
  tail = if goes_on keys s.last row then (s.tail + 1) % 2 ^ 64 else 1;
}

abbrev pub and_rows : List SortKey → PartStart → Rows → PartStart
and_rows keys s rows = fold (and_row keys) s rows

-- the rank of the last row
abbrev pub rank_told : Bool → PartStart → ℕ
rank_told true s = s.dense
rank_told false s = ((s.rank + (2 ^ 64 - s.tail)) % 2 ^ 64 + 1) % 2 ^ 64

abbrev pub ranked_on : List SortKey → Bool → PartStart → Rows → Rows
ranked_on keys dense s [] = []
ranked_on keys dense s (row ∷ rows) =
    (long_of (pos (rank_told dense (and_row keys s row))) ∷ row) ∷ ranked_on keys dense (and_row keys s row) rows

-- with one more partition, of which these are the first and the last row
abbrev pub behind_part : List SortKey → PartStart → PartSummary → Option (List Tree) → Option (List Tree) → PartStart
behind_part keys s part (Some first) (Some last) = record {
  rank = (s.rank + part.rows) % 2 ^ 64;
  dense = (s.dense + (if goes_on keys s.last first then part.keys - 1 else part.keys)) % 2 ^ 64;
  last = Some last;
  tail = ((if goes_on keys s.last last then s.tail else 0) + part.tail) % 2 ^ 64;
}
behind_part keys s part first last = s

abbrev pub and_part : List SortKey → PartStart → PartSummary → PartStart
and_part keys s part = behind_part keys s part part.first part.last

abbrev pub starts_on : List SortKey → PartStart → List PartSummary → List PartStart
starts_on keys s [] = []
starts_on keys s (part ∷ parts) = s ∷ starts_on keys (and_part keys s part) parts
