-- DISTINCT by tasks that combine: each hands on each of its rows once, as a key.
use Rattle.std.specs.Prelude.{◌≡◌, ◌<◌, ◌==◌, ℕ, List, [], ◌∷◌, map, refl}
use Rattle.std.proofs.Common.{ap, sym, subst, ◌∙◌}
use Rattle.std.specs.List.{filter, flat_map, range_with_len}
use Rattle.std.specs.List.Sorted.{IsPermutation}
use Rattle.std.proofs.Math.Nat.{mod-lt}
use Rattle.std.proofs.lemmas.List.Concat.{flat_map_single}
use Rattle.std.proofs.lemmas.List.Folds.{flat_map-map}
use Rattle.std.proofs.lemmas.List.Sorted.{IsPermutation-map, IsPermutation-sym}
use Rattle.pig_value.specs.Gathering.{Entry, in_part, with_key}
use Rattle.pig_value.specs.Orders.{bag_of, row_cmp, tree_cmp}
use Rattle.pig_value.specs.Sorts.{distinct, sort}
use Rattle.pig_value.specs.Trees.{Tree, fields_of, v_tuple}
use Rattle.pig_value.proofs.OrderLaws.{fields_are, row_same, row_total, tree_same, tree_total}
use Rattle.pig_value.proofs.TreeLaws.{fields_back}
use Rattle.pig_value.proofs.list_laws.Bags.{bag_from_permutation, sort_permutes}
use Rattle.pig_value.proofs.list_laws.Distinct.{distinct_flat, distinct_map, distinct_permuted, filter-distinct}
use Rattle.pig_value.proofs.list_laws.Listing.{each_of_all, filter-map, flat_map_each, map-flat_map}
use Rattle.pig_value.proofs.list_laws.Permutations.{IsPermutation-flat_map_each, IsPermutation-same}
use Rattle.pig_algebra.specs.Combining.{combined}
use Rattle.pig_plan.proofs.ByTasks.{distinct_parts}
use Rattle.pig_runs.specs.Entries.{run_cmp}
use Rattle.pig_runs.specs.Parts.{pn}
use Rattle.pig_physical.specs.Values.{key_row}

abbrev Rows : Type 0
Rows = List (List Tree)

-- a row as a key
abbrev row_key : List Tree → Tree
row_key row = v_tuple (fields_of row)

-- what a DISTINCT's task hands on for each key
abbrev pub key_alone : Tree → Rows → List Tree
key_alone key rows = key ∷ []

keys_order : (x y : List Tree) → tree_cmp (row_key x) (row_key y) ≡ row_cmp x y
keys_order x y = fields_are x y

-- combined entries have each key once
combined_keys : (es : List Entry) → map (λ e. e.key) (combined key_alone es) ≡ distinct tree_cmp (map (λ e. e.key) es)
combined_keys es =
    let keys = distinct tree_cmp (map (λ e. e.key) es) in
    let one : Tree → List Entry = λ key. record { key = key; input = 0; row = key_alone key (map (λ e. e.row) (with_key tree_cmp (λ e. e.key) key es)) } ∷ [] in
    map-flat_map (λ e. e.key) one keys ∙ flat_map_single (λ key. key) keys ∙ as_is keys
  where
    as_is : (ks : List Tree) → map (λ key. key) ks ≡ ks
    as_is [] = refl
    as_is (k ∷ ks) = ap (λ more. k ∷ more) (as_is ks)

module _ {T : Type 0} (rows : T → Rows) (entries : T → List Entry) (keyed : (t : T) → map (λ e. e.key) (entries t) ≡ map row_key (rows t)) (tasks : List T) (n : ℕ) (some : 0 < n) where
  abbrev part_of : List Tree → ℕ
  part_of row = pn (row_key row) n

  abbrev in_run : ℕ → T → List Entry
  in_run p t = sort (run_cmp []) (in_part (λ e. pn e.key n) p (combined key_alone (entries t)))

  -- the keys of a task's run are its rows of the part, each once
  run_keys : (p : ℕ) (t : T) → IsPermutation (map (λ e. e.key) (in_run p t)) (map row_key (distinct row_cmp (in_part part_of p (rows t))))
  run_keys p t =
      let own = in_part (λ e. pn e.key n) p (combined key_alone (entries t)) in
      let is : map (λ e. e.key) own ≡ map row_key (distinct row_cmp (in_part part_of p (rows t))) =
      sym (filter-map (λ key. pn key n == p) (λ e. e.key) (combined key_alone (entries t)))
      ∙ ap (filter (λ key. pn key n == p)) (combined_keys (entries t))
      ∙ ap (λ keys. filter (λ key. pn key n == p) (distinct tree_cmp keys)) (keyed t)
      ∙ filter-distinct tree_cmp tree_total tree_same (λ key. pn key n == p) (map row_key (rows t))
      ∙ ap (distinct tree_cmp) (filter-map (λ key. pn key n == p) row_key (rows t))
      ∙ distinct_map row_cmp tree_cmp row_key keys_order (in_part part_of p (rows t)) in
      IsPermutation-trans' (map (λ e. e.key) (in_run p t)) (map (λ e. e.key) own) (map row_key (distinct row_cmp (in_part part_of p (rows t)))) is
      (IsPermutation-map (λ e. e.key) (in_run p t) own (IsPermutation-sym own (in_run p t) (sort_permutes (run_cmp []) own)))
    where
      IsPermutation-trans' : (us vs ws : List Tree) → vs ≡ ws → IsPermutation us vs → IsPermutation us ws
      IsPermutation-trans' us vs ws e h = subst (IsPermutation us) e h

  -- a part gives each of its rows once
  part_rows_once : (p : ℕ) → map key_row (distinct tree_cmp (map (λ e. e.key) (flat_map (in_run p) tasks))) ≡ distinct row_cmp (flat_map (in_part part_of p) (map rows tasks))
  part_rows_once p =
      let ours : T → Rows = λ t. distinct row_cmp (in_part part_of p (rows t)) in
      ap (λ keys. map key_row (distinct tree_cmp keys)) (map-flat_map (λ e. e.key) (in_run p) tasks)
      ∙ ap (map key_row)
      (distinct_permuted tree_cmp tree_total tree_same (flat_map (λ t. map (λ e. e.key) (in_run p t)) tasks) (flat_map (λ t. map row_key (distinct row_cmp (in_part part_of p (rows t)))) tasks)
      (IsPermutation-flat_map_each (λ t. map (λ e. e.key) (in_run p t)) (λ t. map row_key (distinct row_cmp (in_part part_of p (rows t)))) (run_keys p) tasks))
      ∙ ap (λ keys. map key_row (distinct tree_cmp keys)) (sym (map-flat_map row_key (λ t. distinct row_cmp (in_part part_of p (rows t))) tasks))
      ∙ ap (map key_row) (distinct_map row_cmp tree_cmp row_key keys_order (flat_map (λ t. distinct row_cmp (in_part part_of p (rows t))) tasks))
      ∙ back (distinct row_cmp (flat_map (λ t. distinct row_cmp (in_part part_of p (rows t))) tasks))
      ∙ ap (distinct row_cmp) (sym (flat_map-map (distinct row_cmp) (λ t. in_part part_of p (rows t)) tasks))
      ∙ distinct_flat row_cmp row_total row_same (map (λ t. in_part part_of p (rows t)) tasks)
      ∙ ap (distinct row_cmp) (flat_map-map (λ t. t) (λ t. in_part part_of p (rows t)) tasks ∙ sym (flat_map-map (in_part part_of p) rows tasks))
    where
      back : (rs : Rows) → map key_row (map row_key rs) ≡ rs
      back [] = refl
      back (r ∷ rs) = λ i. fields_back r i ∷ back rs i

  pub rows_once : (all : Rows) → flat_map rows tasks ≡ all
      → bag_of (flat_map (λ p. map key_row (distinct tree_cmp (map (λ e. e.key) (flat_map (in_run p) tasks)))) (range_with_len 0 n)) ≡ bag_of (distinct row_cmp all)
  rows_once all is =
      ap bag_of
      (flat_map_each (λ p. map key_row (distinct tree_cmp (map (λ e. e.key) (flat_map (in_run p) tasks)))) (λ p. distinct row_cmp (flat_map (in_part part_of p) (map rows tasks))) (range_with_len 0 n)
      (each_of_all (λ p. map key_row (distinct tree_cmp (map (λ e. e.key) (flat_map (in_run p) tasks))) ≡ distinct row_cmp (flat_map (in_part part_of p) (map rows tasks))) part_rows_once (range_with_len 0 n)))
      ∙ bag_from_permutation row_cmp row_total row_same
      (flat_map (λ p. distinct row_cmp (flat_map (in_part part_of p) (map rows tasks))) (range_with_len 0 n)) (distinct row_cmp all)
      (distinct_parts part_of n (λ row. mod-lt _ some) (map rows tasks) all
      (IsPermutation-same (flat_map (λ t. t) (map rows tasks)) all (flat_map-map (λ t. t) rows tasks ∙ is)))
