-- Rows under themselves, in a run.
use Rattle.std.specs.Prelude.{◌≡◌, List, [], ◌∷◌, map, refl}
use Rattle.std.proofs.Common.{ap, ◌∙◌}
use Rattle.std.proofs.lemmas.List.Sorted.{IsPermutation-map, IsPermutation-sym}
use Rattle.pig_value.specs.Gathering.{Entry}
use Rattle.pig_value.specs.Orders.{row_cmp}
use Rattle.pig_value.specs.Sorts.{distinct, sort}
use Rattle.pig_value.specs.Trees.{Tree, fields_of, v_tuple}
use Rattle.pig_value.proofs.OrderLaws.{row_same, row_total}
use Rattle.pig_value.proofs.list_laws.Bags.{each-sort, sort_permutes}
use Rattle.pig_value.proofs.list_laws.Distinct.{distinct_permuted}
use Rattle.pig_runs.specs.Entries.{run_cmp, run_of}
use Rattle.pig_operators.specs.Given.{AreKeyedByRow, run_rows}
use Rattle.pig_operators.specs.Keying.{row_entry}

under_rows : (rows : List (List Tree)) → AreKeyedByRow (map row_entry rows)
under_rows [] = tt
under_rows (row ∷ rows) = (refl, under_rows rows)

rows_back : (rows : List (List Tree)) → map (λ e. e.row) (map row_entry rows) ≡ rows
rows_back [] = refl
rows_back (row ∷ rows) = ap (λ more. row ∷ more) (rows_back rows)

pub run_under_rows : (rows : List (List Tree)) → AreKeyedByRow (run_of [] (map row_entry rows)).entries
run_under_rows rows = each-sort (run_cmp []) (λ e. e.key ≡ v_tuple (fields_of e.row)) (map row_entry rows) (under_rows rows)

-- a run of rows has each of them
pub run_once : (rows : List (List Tree)) → distinct row_cmp (run_rows (run_of [] (map row_entry rows))) ≡ distinct row_cmp rows
run_once rows =
    let es : List Entry = map row_entry rows in
    distinct_permuted row_cmp row_total row_same (run_rows (run_of [] es)) (map (λ e. e.row) es)
    (IsPermutation-map (λ e. e.row) (sort (run_cmp []) es) es (IsPermutation-sym es (sort (run_cmp []) es) (sort_permutes (run_cmp []) es)))
    ∙ ap (distinct row_cmp) (rows_back rows)
