-- ORDER by tasks: the slices of their runs between points, each brought together and sorted, are in turn the rows in order.
use Rattle.std.specs.Prelude.{◌≡◌, ◌<◌, ◌+◌, ℕ, List, [], length, map, Some, slice_get}
use Rattle.std.proofs.Common.{ap, sym, ◌∙◌, arith}
use Rattle.std.specs.List.{flat_map, range_with_len}
use Rattle.std.specs.Option.{option_map, option_map_or}
use Rattle.std.proofs.lemmas.List.Folds.{flat_map-map}
use Rattle.std.proofs.lemmas.List.Sorted.{IsPermutation-sym}
use Rattle.pig_value.specs.declared.operators.Dir.{Dir}
use Rattle.pig_value.specs.Gathering.{Entry}
use Rattle.pig_value.specs.Sorts.{Ascends, sort}
use Rattle.pig_value.specs.Trees.{Tree}
use Rattle.pig_value.proofs.list_laws.Bags.{bag_from_permutation, sort_permutes}
use Rattle.pig_value.proofs.list_laws.Indexing.{get_map}
use Rattle.pig_value.proofs.list_laws.Listing.{each_of_all, flat_map_each, map-flat_map}
use Rattle.pig_value.proofs.list_laws.Permutations.{IsPermutation-flat_map_each}
use Rattle.pig_typed.specs.declared.blocks.SortKey.{SortKey}
use Rattle.pig_operators.proofs.SortEntries.{ordering_rows}
use Rattle.pig_plan.specs.Entries.{dirs_of, sort_entry}
use Rattle.pig_plan.specs.Operators.{order_rows}
use Rattle.pig_runs.specs.Cutting.{Point, point_cmp, slice_of}
use Rattle.pig_runs.specs.Entries.{InDirections, run_cmp}
use Rattle.pig_runs.proofs.Order.{run_same, run_total}
use Rattle.pig_runs.proofs.Parted.{by_points}
use Rattle.pig_physical.specs.Values.{slices}
use Rattle.pig_waves.proofs.Places.{range_at}

-- the entries of one slice of several
pub in_slice_at : (ds : List Dir) (points : List Point) (p : ℕ) → p < length points + 1 → (es : List Entry)
    → option_map_or (λ r. r.entries) (slice_get (slices (Some points) ds es) p) [] ≡ slice_of ds points p (sort (run_cmp ds) es)
in_slice_at ds points p below es =
    let zeroth : 0 + p ≡ p = omega arith in
    let run_at : ℕ → InDirections = λ q. record { dirs = ds; entries = slice_of ds points q (sort (run_cmp ds) es) } in
    ap (λ found. option_map_or {T = InDirections} (λ r. r.entries) found []) (get_map run_at (range_with_len 0 (length points + 1)) p)
    ∙ ap (λ found. option_map_or {T = InDirections} (λ r. r.entries) (option_map run_at found) [])
    (range_at 0 (length points + 1) p below ∙ ap Some zeroth)

module _ {T : Type 0} (keys : List SortKey) (points : List Point) (rise : Ascends (point_cmp (dirs_of keys)) points) (entries : T → List Entry) (tasks : List T) where
  abbrev ds : List Dir
  ds = dirs_of keys

  abbrev sliced : ℕ → T → List Entry
  sliced p t = slice_of ds points p (sort (run_cmp ds) (entries t))

  abbrev part_rows : ℕ → List (List Tree)
  part_rows p = map (λ e. e.row) (sort (run_cmp ds) (flat_map (sliced p) tasks))

  pub slices_together : (rows : List (List Tree)) → flat_map entries tasks ≡ map (sort_entry keys) rows
      → flat_map part_rows (range_with_len 0 (length points + 1)) ≡ order_rows keys rows
  slices_together rows is =
      let runs = map (λ t. sort (run_cmp ds) (entries t)) tasks in
      let parts = range_with_len 0 (length points + 1) in
      flat_map_each part_rows (λ p. map (λ e. e.row) (sort (run_cmp ds) (flat_map (slice_of ds points p) runs))) parts
      (each_of_all (λ p. part_rows p ≡ map (λ e. e.row) (sort (run_cmp ds) (flat_map (slice_of ds points p) runs)))
      (λ p. ap (λ es. map (λ e. e.row) (sort (run_cmp ds) es)) (sym (flat_map-map (slice_of ds points p) (λ t. sort (run_cmp ds) (entries t)) tasks))) parts)
      ∙ sym (map-flat_map (λ e. e.row) (λ p. sort (run_cmp ds) (flat_map (slice_of ds points p) runs)) parts)
      ∙ ap (map (λ e. e.row)) (by_points ds points runs rise)
      ∙ ap (map (λ e. e.row)) (whole runs ∙ ap (sort (run_cmp ds)) is)
      ∙ ordering_rows keys rows
    where
      whole : (runs : List (List Entry)) → sort (run_cmp ds) (flat_map (λ es. es) (map (λ t. sort (run_cmp ds) (entries t)) tasks)) ≡ sort (run_cmp ds) (flat_map entries tasks)
      whole runs =
          ap (sort (run_cmp ds)) (flat_map-map (λ es. es) (λ t. sort (run_cmp ds) (entries t)) tasks)
          ∙ bag_from_permutation (run_cmp ds) (run_total ds) (run_same ds) (flat_map (λ t. sort (run_cmp ds) (entries t)) tasks) (flat_map entries tasks)
          (IsPermutation-flat_map_each (λ t. sort (run_cmp ds) (entries t)) entries (λ t. IsPermutation-sym (entries t) (sort (run_cmp ds) (entries t)) (sort_permutes (run_cmp ds) (entries t))) tasks)
