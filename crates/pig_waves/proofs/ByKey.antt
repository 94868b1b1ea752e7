-- GROUP, COGROUP and the joins by tasks: what the partitions give is what is made of the entries of all rows.
use Rattle.std.specs.Prelude.{◌≡◌, ◌<◌, ℕ, List, [], map}
use Rattle.std.proofs.Common.{ap, sym, ◌∙◌}
use Rattle.std.specs.List.{flat_map, range_with_len}
use Rattle.std.proofs.Math.Nat.{mod-lt}
use Rattle.std.proofs.lemmas.List.Folds.{flat_map-map}
use Rattle.std.proofs.lemmas.List.Sorted.{IsPermutation-sym}
use Rattle.pig_value.specs.Gathering.{Entry, in_part}
use Rattle.pig_value.specs.Orders.{bag_of, row_cmp}
use Rattle.pig_value.specs.Sorts.{sort}
use Rattle.pig_value.specs.Trees.{Tree}
use Rattle.pig_value.proofs.OrderLaws.{row_same, row_total}
use Rattle.pig_value.proofs.list_laws.Bags.{bag_from_permutation, sort_permutes}
use Rattle.pig_value.proofs.list_laws.Listing.{each_of_all, flat_map_each}
use Rattle.pig_value.proofs.list_laws.Permutations.{IsPermutation-flat_map_each, IsPermutation-same}
use Rattle.pig_plan.proofs.Gathered.{gathered_parts, gathered_same}
use Rattle.pig_plan.specs.ByKey.{gathered}
use Rattle.pig_runs.specs.Entries.{run_cmp}
use Rattle.pig_runs.specs.Parts.{pn}

abbrev Rows : Type 0
Rows = List (List Tree)

-- what a part gives of the sorted entries of tasks
module _ {T : Type 0} (make : Tree → (ℕ → Rows) → Rows) (entries : T → List Entry) (tasks : List T) (n : ℕ) (some : 0 < n) where
  abbrev in_run : ℕ → T → List Entry
  in_run p t = sort (run_cmp []) (in_part (λ e. pn e.key n) p (entries t))

  abbrev in_task : ℕ → T → List Entry
  in_task p t = in_part (λ e. pn e.key n) p (entries t)

  unsorted : (p : ℕ) → gathered make (flat_map (in_run p) tasks) ≡ gathered make (flat_map (in_task p) tasks)
  unsorted p =
      gathered_same make (flat_map (in_run p) tasks) (flat_map (in_task p) tasks)
      (IsPermutation-flat_map_each (in_run p) (in_task p)
      (λ t. IsPermutation-sym (in_task p t) (in_run p t) (sort_permutes (run_cmp []) (in_task p t))) tasks)

  pub parts_together : (all : List Entry) → flat_map entries tasks ≡ all
      → bag_of (flat_map (λ p. gathered make (flat_map (in_run p) tasks)) (range_with_len 0 n)) ≡ bag_of (gathered make all)
  parts_together all is =
      let tasked : flat_map (λ es. es) (map entries tasks) ≡ all = flat_map-map (λ es. es) entries tasks ∙ is in
      ap bag_of
      (flat_map_each (λ p. gathered make (flat_map (in_run p) tasks)) (λ p. gathered make (flat_map (in_part (λ e. pn e.key n) p) (map entries tasks))) (range_with_len 0 n)
      (each_of_all (λ p. gathered make (flat_map (in_run p) tasks) ≡ gathered make (flat_map (in_part (λ e. pn e.key n) p) (map entries tasks)))
      (λ p. unsorted p ∙ ap (gathered make) (sym (flat_map-map (in_part (λ e. pn e.key n) p) entries tasks))) (range_with_len 0 n)))
      ∙ bag_from_permutation row_cmp row_total row_same
      (flat_map (λ p. gathered make (flat_map (in_part (λ e. pn e.key n) p) (map entries tasks))) (range_with_len 0 n)) (gathered make all)
      (gathered_parts make (λ key. pn key n) n (λ key. mod-lt _ some) (map entries tasks) all
      (IsPermutation-same (flat_map (λ es. es) (map entries tasks)) all tasked))
