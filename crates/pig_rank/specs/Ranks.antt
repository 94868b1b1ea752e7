-- Ranks over consecutive partitions of a sorted list: what is told of a partition, what stands before it, and what its rows are ranked by that.
-- (Pig Latin Basics: "RANK". That ranks are found partition by partition, and counted modulo 2 to the 64, is a choice of this profile.)
use Rattle.std.specs.Prelude.{◌≡◌, ℕ, ℤ, ◌%◌, ◌^◌, Bool, Option, None, List, ◌∷◌, ◌++◌, map, length, take, zip, slice_get}
use Rattle.std.specs.List.{filter, flat_map, last_or, range_with_len}
use Rattle.std.specs.Option.{option_map, option_map_or}
use Rattle.std.specs.Ordering.{is_eq}
use Rattle.pig_value.specs.Elementwise.{Each}
use Rattle.pig_value.specs.Functions.{long_of}
use Rattle.pig_value.specs.Orders.{row_cmp}
use Rattle.pig_value.specs.Sorts.{Ascends, distinct}
use Rattle.pig_value.specs.Trees.{Tree, row_tree}
use Rattle.pig_typed.specs.declared.blocks.SortKey.{SortKey}
use Rattle.pig_plan.specs.Operators.{key_fields, rank_of, sort_keys_cmp}
use Rattle.pig_rank.specs.declared.parts.Start.{Start}
use Rattle.pig_rank.specs.declared.parts.Summary.{Summary}

-- ---- sorted rows

abbrev pub Rows : Type 0
Rows = List (List Tree)

-- no row's keys stand behind those of the next, in the keys' directions
abbrev pub AreSorted : List SortKey → Rows → Type 0
AreSorted keys rows = Ascends (sort_keys_cmp keys) rows

-- the distinct keys of rows
abbrev pub distinct_keys : List SortKey → Rows → List (List Tree)
distinct_keys keys rows = distinct row_cmp (map (key_fields keys) rows)

-- the rows that have the key of a row
abbrev pub with_key_of : List SortKey → List Tree → Rows → Rows
with_key_of keys row rows = filter (λ other. is_eq (sort_keys_cmp keys row other)) rows

abbrev pub first_row : Rows → Option (List Tree)
first_row rows = slice_get rows 0

abbrev pub last_row : Rows → Option (List Tree)
last_row rows = last_or None rows

-- the number of rows that have the last one's key
abbrev pub tail_of : List SortKey → Rows → ℕ
tail_of keys rows = option_map_or (λ row. length (with_key_of keys row rows)) (last_row rows) 0

-- ---- a partition

pub record PartSummary : Type 0 where
  pub rows : ℕ
  pub keys : ℕ
  pub first : Option (List Tree)
  pub last : Option (List Tree)
  pub tail : ℕ

-- what is told of a partition
abbrev pub summary_of : List SortKey → Rows → PartSummary
summary_of keys rows = record {
  rows = length rows;
  keys = length (distinct_keys keys rows);
  first = first_row rows;
  last = last_row rows;
  tail = tail_of keys rows;
}

abbrev pub summary_tree : Summary → PartSummary
summary_tree s = record { rows = s.rows; keys = s.keys; first = option_map row_tree s.first; last = option_map row_tree s.last; tail = s.tail }

-- ---- what stands before one

pub record PartStart : Type 0 where
  pub rank : ℕ
  pub dense : ℕ
  pub last : Option (List Tree)
  pub tail : ℕ

-- the start behind all earlier rows
abbrev pub start_behind : List SortKey → Rows → PartStart
start_behind keys earlier = record {
  rank = length earlier % 2 ^ 64;
  dense = length (distinct_keys keys earlier) % 2 ^ 64;
  last = last_row earlier;
  tail = tail_of keys earlier % 2 ^ 64;
}

abbrev pub start_tree : Start → PartStart
start_tree s = record { rank = s.rank; dense = s.dense; last = option_map row_tree s.last; tail = s.tail }

-- the rows of partitions, one behind the other
abbrev pub joined : List Rows → Rows
joined parts = flat_map (λ part. part) parts

-- the start of each partition, in order: it is behind the rows of all partitions before that one
abbrev pub starts_of : List SortKey → List Rows → List PartStart
starts_of keys parts = map (λ i. start_behind keys (joined (take i parts))) (range_with_len 0 (length parts))

-- summaries of consecutive partitions of a sorted list
abbrev pub AreSummariesOf : List SortKey → List Rows → List Summary → Type 0
AreSummariesOf keys parts summaries = (map summary_tree summaries ≡ map (summary_of keys) parts) × AreSorted keys (joined parts)

-- ---- ranked rows

-- some rows of a whole, each behind its rank in the whole
abbrev pub ranked_among : List SortKey → Bool → Rows → Rows → Rows
ranked_among keys dense whole rows = map (λ row. rank_of keys dense whole row ∷ row) rows

-- The ranks of rows behind a start: those that the rows have in each sorted whole in which the start is what stands before them.
abbrev pub AreRanked : List SortKey → Bool → PartStart → Rows → Rows → Type 0
AreRanked keys dense start rows ranked = (earlier later : Rows) → AreSorted keys (earlier ++ rows ++ later) → start ≡ start_behind keys earlier
    → ranked ≡ ranked_among keys dense (earlier ++ rows ++ later) rows

-- whatever the start, each row stands behind a long
pub record IsBehindLong (row made : List Tree) : Type 0 where
  pub long : ℤ
  pub is : made ≡ long_of long ∷ row

abbrev pub AreBehindLongs : Rows → Rows → Type 0
AreBehindLongs = Each IsBehindLong

-- each partition's rows ranked behind its start
abbrev pub EachIsRanked : List SortKey → Bool → List Rows → List Rows → Type 0
EachIsRanked keys dense parts ranked = Each (λ part made. AreRanked keys dense part.0 part.1 made) (zip (starts_of keys parts) parts) ranked
