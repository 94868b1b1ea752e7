-- The operators by key see their entries as a bag, and give over parts by key, joined, what they give over the whole.
use Rattle.std.specs.Prelude.{◌≡◌, ◌<◌, ◌==◌, ℕ, List, map}
use Rattle.std.proofs.Common.{ap}
use Rattle.std.specs.List.{filter, flat_map, range_with_len}
use Rattle.std.specs.List.Sorted.{IsPermutation}
use Rattle.std.proofs.lemmas.List.Sorted.{IsPermutation-map}
use Rattle.pig_value.proofs.OrderLaws.{tree_total, tree_same, row_total, row_same}
use Rattle.pig_value.proofs.list_laws.Bags.{bag_from_permutation}
use Rattle.pig_value.proofs.list_laws.Partitions.{by_key_permuted, by_key_tasks}
use Rattle.pig_value.proofs.list_laws.Permutations.{IsPermutation-filter}
use Rattle.pig_value.specs.Gathering.{Entry, in_part}
use Rattle.pig_value.specs.Orders.{tree_cmp, row_cmp}
use Rattle.pig_value.specs.Trees.{Tree}
use Rattle.pig_plan.specs.ByKey.{gathered, rows_of}

-- what an operator makes of a key's entries does not depend on their order
rows_of_same : (us vs : List Entry) → IsPermutation us vs → rows_of us ≡ rows_of vs
rows_of_same us vs h = λ i j. bag_from_permutation row_cmp row_total row_same (map (λ e. e.row) (filter (λ e. e.input == j) us)) (map (λ e. e.row) (filter (λ e. e.input == j) vs))
    (IsPermutation-map (λ e. e.row) (filter (λ e. e.input == j) us) (filter (λ e. e.input == j) vs) (IsPermutation-filter (λ e. e.input == j) us vs h)) i

module _ (make : Tree → (ℕ → List (List Tree)) → List (List Tree)) where
  abbrev made : Tree → List Entry → List (List Tree)
  made k entries = make k (rows_of entries)

  made_same : (k : Tree) (us vs : List Entry) → IsPermutation us vs → made k us ≡ made k vs
  made_same k us vs h = ap (make k) (rows_of_same us vs h)

  pub gathered_same : (us vs : List Entry) → IsPermutation us vs → gathered make us ≡ gathered make vs
  gathered_same us vs h = by_key_permuted tree_cmp tree_total tree_same (λ e. e.key) made made_same us vs h

  -- entries in any tasks, brought together by the part of their key
  pub gathered_parts : (part : Tree → ℕ) (n : ℕ) → ((k : Tree) → part k < n) → (tasks : List (List Entry)) (all : List Entry) → IsPermutation (flat_map (λ t. t) tasks) all
      → IsPermutation (flat_map (λ p. gathered make (flat_map (in_part (λ e. part e.key) p) tasks)) (range_with_len 0 n)) (gathered make all)
  gathered_parts part n below tasks all h = by_key_tasks tree_cmp tree_total tree_same (λ e. e.key) made part n below made_same tasks all h
