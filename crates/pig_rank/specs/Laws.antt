-- What ranks over partitions give together.
use Rattle.std.specs.Prelude.{◌≡◌, ℕ, Bool, Some, List, map, slice_get}
use Rattle.std.specs.List.{AllByRecursion}
use Rattle.std.specs.List.Sorted.{IsPermutation}
use Rattle.pig_value.specs.Orders.{bag_of}
use Rattle.pig_value.specs.Trees.{Tree}
use Rattle.pig_typed.specs.declared.blocks.SortKey.{SortKey}
use Rattle.pig_plan.specs.Operators.{order_rows, rank_of, rank_rows}
use Rattle.pig_rank.specs.Ranks.{AreRanked, AreSorted, EachIsRanked, PartStart, Rows, joined, ranked_among, starts_of}

-- However a sorted list is cut into consecutive partitions: these, each ranked behind its start, are in turn the ranked rows of the list.
abbrev pub RanksGoByPartitions : Type 0
RanksGoByPartitions = (keys : List SortKey) (dense : Bool) (parts ranked : List Rows) → AreSorted keys (joined parts) → EachIsRanked keys dense parts ranked
    → joined ranked ≡ rank_rows keys dense (joined parts)

-- and each of them is its rows, each behind its rank in the list
abbrev pub EachIsRankedInTheWhole : Type 0
EachIsRankedInTheWhole = (keys : List SortKey) (dense : Bool) (parts : List Rows) (i : ℕ) (start : PartStart) (part ranked : Rows) → AreSorted keys (joined parts)
    → slice_get (starts_of keys parts) i ≡ Some start → slice_get parts i ≡ Some part → AreRanked keys dense start part ranked → ranked ≡ ranked_among keys dense (joined parts) part

-- The partitions of any list, each row behind its rank in the list, are in turn the ranked list.
abbrev pub RankedPartitionsJoin : Type 0
RankedPartitionsJoin = (keys : List SortKey) (dense : Bool) (parts : List Rows) → joined (map (ranked_among keys dense (joined parts)) parts) ≡ rank_rows keys dense (joined parts)

-- A row has the same rank among rows that come in another order, and so these get the same ranks.
abbrev pub RankSeesBags : Type 0
RankSeesBags = (keys : List SortKey) (dense : Bool) (rows others : Rows) (row : List Tree) → IsPermutation rows others → rank_of keys dense rows row ≡ rank_of keys dense others row

abbrev pub RanksSeeBags : Type 0
RanksSeeBags = (keys : List SortKey) (dense : Bool) (rows others : Rows) → IsPermutation rows others → bag_of (rank_rows keys dense rows) ≡ bag_of (rank_rows keys dense others)

-- So of rows that come in any order: where the partitions are in turn the rows sorted by the keys, the ranked ones are, as a bag, what RANK gives
-- of the rows.
abbrev pub PartitionsGiveTheBag : Type 0
PartitionsGiveTheBag = (keys : List SortKey) (dense : Bool) (rows : Rows) (parts ranked : List Rows) → joined parts ≡ order_rows keys rows → EachIsRanked keys dense parts ranked
    → bag_of (joined ranked) ≡ bag_of (rank_rows keys dense rows)

-- what ORDER gives is sorted by the keys
abbrev pub OrderedRowsAreSorted : Type 0
OrderedRowsAreSorted = (keys : List SortKey) (rows : Rows) → AreSorted keys (order_rows keys rows)

-- and so is each partition of a sorted list
abbrev pub PartitionsAreSorted : Type 0
PartitionsAreSorted = (keys : List SortKey) (parts : List Rows) → AreSorted keys (joined parts) → AllByRecursion (AreSorted keys) parts
