-- Rows, bags and fields that are added one after another.
use Rattle.std.proofs.Common.{◌≡◌, ◌<◌, ◌≤◌, ◌+◌, ℕ, List, [], ◌∷◌, ◌++◌, map, length, sym, ◌∙◌, ap, append_assoc, arith}
use Rattle.std.specs.Prelude.{Some, option_map, slice_get}
use Rattle.std.specs.List.{range_with_len}
use Rattle.std.proofs.lemmas.List.{map-append}
use Rattle.std.proofs.lemmas.List.FromFn.{map-range_with_len_more}
use Rattle.pig_value.specs.Gathering.{Entry}
use Rattle.pig_value.specs.declared.values.Value.{Value}
use Rattle.pig_value.specs.declared.values.Value.TheVariants as value
use Rattle.pig_value.specs.Trees.{Tree, tree, row_tree, rows_tree}
use Rattle.pig_value.specs.TreeViews.{tree-Bag}
use Rattle.pig_value.proofs.list_laws.Indexing.{some_at}
use Rattle.pig_plan.specs.ByKey.{as_bag, bags_of, nulls}
use Rattle.pig_operators.specs.Groups.{between}
use Rattle.pig_operators.proofs.Between.{between_more}

some_same : {X : Type 0} {x y : X} → Some x ≡ Some y → x ≡ y
some_same h = cc

pub rows_next : (es : List Entry) (from at : ℕ) (row : List Tree) → from ≤ at → at < length es → option_map (λ e. e.row) (slice_get es at) ≡ Some row
    → map (λ e. e.row) (between from (at + 1) es) ≡ map (λ e. e.row) (between from at es) ++ row ∷ []
rows_next es from at row low high here =
    let found = some_at es at high in
    let is : found.0.row ≡ row = some_same (sym (ap (option_map (λ e. e.row)) found.1) ∙ here) in
    ap (map (λ e. e.row)) (between_more from at es found.0 low high found.1)
    ∙ (map-append (λ e. e.row) (between from at es) (found.0 ∷ [])
    ∙ ap (λ r. map (λ e. e.row) (between from at es) ++ r ∷ []) is)

-- the row of one more entry
pub rows_more : (es : List Entry) (from at : ℕ) (rows new : List (List Value)) (row : List Value) → from ≤ at → at < length es → option_map (λ e. e.row) (slice_get es at) ≡ Some (row_tree row)
    → rows_tree rows ≡ map (λ e. e.row) (between from at es) → new ≡ rows ++ row ∷ [] → rows_tree new ≡ map (λ e. e.row) (between from (at + 1) es)
rows_more es from at rows new row low high here so_far is =
    ap rows_tree is ∙ (map-append row_tree rows (row ∷ []) ∙ (ap (λ l. l ++ row_tree row ∷ []) so_far ∙ sym (rows_next es from at (row_tree row) low high here)))

-- what is made of the row of one more entry
pub made_more : (f : List Tree → List Tree) (es : List Entry) (from at : ℕ) (old rows new : List (List Value)) (row : List Tree) (added : List Value) → from ≤ at → at < length es
    → option_map (λ e. e.row) (slice_get es at) ≡ Some row → row_tree added ≡ f row → rows_tree rows ≡ rows_tree old ++ map f (map (λ e. e.row) (between from at es)) → new ≡ rows ++ added ∷ []
    → rows_tree new ≡ rows_tree old ++ map f (map (λ e. e.row) (between from (at + 1) es))
made_more f es from at old rows new row added low high here made so_far is =
    let before = map f (map (λ e. e.row) (between from at es)) in
    ap rows_tree is
    ∙ (map-append row_tree rows (added ∷ [])
    ∙ ((λ i. so_far i ++ made i ∷ [])
    ∙ (append_assoc (rows_tree old) before (f row ∷ [])
    ∙ ap (λ l. rows_tree old ++ l) (sym (ap (map f) (rows_next es from at row low high here) ∙ map-append f (map (λ e. e.row) (between from at es)) (row ∷ []))))))

-- the bag of one more input
pub bags_more : (rows : ℕ → List (List Tree)) (i : ℕ) (bags new : List (List (List Value))) (bag : List (List Value)) → rows_tree bag ≡ rows i → map rows_tree bags ≡ map rows (range_with_len 0 i)
    → new ≡ bags ++ bag ∷ [] → map rows_tree new ≡ map rows (range_with_len 0 (i + 1))
bags_more rows i bags new bag here so_far is =
    ap (map rows_tree) is ∙ (map-append rows_tree bags (bag ∷ []) ∙ ((λ j. so_far j ++ here j ∷ []) ∙ sym (map-range_with_len_more rows 0 i i (omega arith))))

pub fields_more : (k : Tree) (rows : ℕ → List (List Tree)) (i : ℕ) (row new : List Value) (bag : List (List Value)) → rows_tree bag ≡ rows i → row_tree row ≡ bags_of i k rows
    → new ≡ row ++ value.Bag bag ∷ [] → row_tree new ≡ bags_of (i + 1) k rows
fields_more k rows i row new bag here so_far is =
    ap row_tree is
    ∙ (map-append tree row (value.Bag bag ∷ [])
    ∙ ((λ j. so_far j ++ (tree-Bag bag ∙ ap as_bag here) j ∷ []) ∙ ap (λ l. k ∷ l) (sym (map-range_with_len_more (λ j. as_bag (rows j)) 0 i i (omega arith)))))

-- a row behind nulls
pub behind_nulls : (width : ℕ) (none before more new : List Value) → none ≡ [] → row_tree before ≡ row_tree none ++ nulls width → new ≡ before ++ more → row_tree new ≡ nulls width ++ row_tree more
behind_nulls width none before more new empty filled is = ap row_tree is ∙ (map-append tree before more ∙ ap (λ l. l ++ row_tree more) (filled ∙ ap (λ l. row_tree l ++ nulls width) empty))
