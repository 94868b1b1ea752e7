-- Rows under their fields to sort by: the order of these entries is ORDER's order of the rows.
use Rattle.std.proofs.Common.{◌≡◌, List, [], ◌∷◌, map, length, refl, sym, ◌∙◌, ap, subst}
use Rattle.std.specs.Prelude.{ℕ, Option, Some, None, slice_get}
use Rattle.std.specs.Cmp.Derive.{then_next}
use Rattle.std.specs.List.{AllByRecursion}
use Rattle.std.specs.Ordering.{is_gt, ordering_then}
use Rattle.std.specs.declared.cmp.Ordering.{Ordering}
use Rattle.std.specs.declared.cmp.Ordering.TheVariants.{Less, Equal, Greater}
use Rattle.std.proofs.lemmas.Cmp.{tied_itself}
use Rattle.std.proofs.lemmas.List.{length-map}
use Rattle.pig_value.specs.Gathering.{Entry}
use Rattle.pig_value.specs.declared.operators.Dir.{Dir}
use Rattle.pig_value.specs.Orders.{dir_cmp, dirs_cmp, row_cmp, tree_cmp}
use Rattle.pig_value.specs.Sorts.{Ascends}
use Rattle.pig_value.specs.Trees.{Tree, at, fields_list, fields_of, or_null, v_tuple}
use Rattle.pig_value.specs.Valid.{IsRow, IsValue}
use Rattle.pig_value.proofs.OrderLaws.{dirs_same, tree_total}
use Rattle.pig_value.proofs.TreeLaws.{fields_back}
use Rattle.pig_value.proofs.ValidLaws.{valid_field}
use Rattle.pig_value.proofs.list_laws.Bags.{sort_map, sorted_is}
use Rattle.pig_typed.specs.declared.blocks.SortKey.{SortKey}
use Rattle.pig_typed.specs.Blocks.{keys_cmp}
use Rattle.pig_keycode.specs.Keys.{IsKey}
use Rattle.pig_plan.specs.Operators.{key_fields, order_rows}
use Rattle.pig_runs.specs.Entries.{InDirections, run_cmp, run_of}
use Rattle.pig_plan.specs.Entries.{dirs_of, sort_entry}
use Rattle.pig_operators.specs.Given.{IsOrdering, run_rows}

-- a second order adds nothing where it ties whatever the first does
tied_too : (r s t : Ordering) → (r ≡ Equal → s ≡ Equal) → ordering_then (ordering_then r s) t ≡ ordering_then r t
tied_too Less s t h = refl
tied_too Equal s t h = ap (λ o. ordering_then o t) (h refl)
tied_too Greater s t h = refl

-- the fields in their directions, and then the rows
fields_then_rows : (keys : List SortKey) (x y : List Tree) → ordering_then (dirs_cmp (dirs_of keys) (key_fields keys x) (key_fields keys y)) (row_cmp x y) ≡ keys_cmp keys x y
fields_then_rows [] x y = refl
fields_then_rows (key ∷ keys) x y =
    let first = dir_cmp key.dir (at key.position x) (at key.position y) in
    let others = dirs_cmp (dirs_of keys) (key_fields keys x) (key_fields keys y) in
    sym (then_next first others (row_cmp x y) refl refl) ∙ ap (ordering_then first) (fields_then_rows keys x y)

-- the order of these entries is that of their rows
pub entry_order : (keys : List SortKey) (x y : List Tree) → run_cmp (dirs_of keys) (sort_entry keys x) (sort_entry keys y) ≡ keys_cmp keys x y
entry_order [] x y = refl
entry_order (key ∷ keys) x y =
    let ds : List Dir = dirs_of (key ∷ keys) in
    let vs : List Tree = key_fields (key ∷ keys) x in
    let ws : List Tree = key_fields (key ∷ keys) y in
    let fields : dirs_cmp ds (fields_list (fields_of vs)) (fields_list (fields_of ws)) ≡ dirs_cmp ds vs ws = λ i. dirs_cmp ds (fields_back vs i) (fields_back ws i) in
    tied_too (dirs_cmp ds (fields_list (fields_of vs)) (fields_list (fields_of ws))) (tree_cmp (v_tuple (fields_of vs)) (v_tuple (fields_of ws))) (row_cmp x y)
    (λ e. ap (λ us. tree_cmp (v_tuple (fields_of us)) (v_tuple (fields_of ws))) (dirs_same ds vs ws (sym fields ∙ e)) ∙ tied_itself tree_total (v_tuple (fields_of ws)))
    ∙ ap (λ r. ordering_then r (row_cmp x y)) fields
    ∙ fields_then_rows (key ∷ keys) x y

rows_back : (keys : List SortKey) (rows : List (List Tree)) → map (λ e. e.row) (map (sort_entry keys) rows) ≡ rows
rows_back keys [] = refl
rows_back keys (row ∷ rows) = ap (λ more. row ∷ more) (rows_back keys rows)

-- a run of rows under their fields to sort by has them in ORDER's order
pub ordering_rows : (keys : List SortKey) (rows : List (List Tree)) → run_rows (run_of (dirs_of keys) (map (sort_entry keys) rows)) ≡ order_rows keys rows
ordering_rows keys rows =
    ap (map (λ e. e.row)) (sort_map (keys_cmp keys) (run_cmp (dirs_of keys)) (sort_entry keys) (entry_order keys) rows)
    ∙ rows_back keys (order_rows keys rows)

entries_are : (keys : List SortKey) (es : List Entry) → AllByRecursion (λ e. e ≡ sort_entry keys e.row) es → es ≡ map (sort_entry keys) (map (λ e. e.row) es)
entries_are keys [] h = refl
entries_are keys (e ∷ es) h = let rest = entries_are keys es h.1 in λ i. h.0 i ∷ rest i

rows_ascend : (keys : List SortKey) (rows : List (List Tree)) → Ascends (run_cmp (dirs_of keys)) (map (sort_entry keys) rows) → Ascends (keys_cmp keys) rows
rows_ascend keys [] h = tt
rows_ascend keys (x ∷ []) h = (tt, tt)
rows_ascend keys (x ∷ y ∷ rows) h = (sym (ap is_gt (entry_order keys x y)) ∙ h.0, rows_ascend keys (y ∷ rows) h.1)

-- the rows of a sorted run of such entries stand in ORDER's order
pub ordered_is : (keys : List SortKey) (run : InDirections) → IsOrdering keys run → Ascends (run_cmp run.dirs) run.entries → run_rows run ≡ order_rows keys (run_rows run)
ordered_is keys run is up =
    let here : Ascends (run_cmp (dirs_of keys)) run.entries = subst (λ ds. Ascends (run_cmp ds) run.entries) is.dirs up in
    let of_rows = subst (Ascends (run_cmp (dirs_of keys))) (entries_are keys run.entries is.entries) here in
    sym (sorted_is (keys_cmp keys) (run_rows run) (rows_ascend keys (run_rows run) of_rows))

valid_at : (row : List Tree) (i : ℕ) → IsRow row → IsValue (at i row)
valid_at row i h = of_found (slice_get row i) (λ v found. valid_field row i v found h)
  where
    of_found : (o : Option Tree) → ((v : Tree) → o ≡ Some v → IsValue v) → IsValue (or_null o)
    of_found None k = tt
    of_found (Some v) k = k v refl

fields_valid : (keys : List SortKey) (row : List Tree) → IsRow row → IsRow (key_fields keys row)
fields_valid [] row h = tt
fields_valid (key ∷ keys) row h = (valid_at row key.position h, fields_valid keys row h)

-- the fields to sort by are a key in their directions
pub is_key : (keys : List SortKey) (row : List Tree) → IsRow row → IsKey (dirs_of keys) (sort_entry keys row).key
is_key [] row h = tt
is_key (key ∷ keys) row h =
    let vs : List Tree = key_fields (key ∷ keys) row in (
      fields_valid (key ∷ keys) row h,
      ap (λ us. v_tuple (fields_of us)) (sym (fields_back vs)),
      ap length (fields_back vs) ∙ length-map (key ∷ keys) (λ k. at k.position row) ∙ sym (length-map (key ∷ keys) (λ k. k.dir)),
    )
