-- The values of a column, row by row.
use Rattle.std.proofs.Common.{◌≡◌, ◌<◌, ◌+◌, ℕ, List, [], ◌∷◌, ◌++◌, length, map, take, get_or, sym, ap, ◌∙◌, add-one}
use Rattle.std.specs.Prelude.{Option}
use Rattle.std.specs.Borrow.{Bor}
use Rattle.std.proofs.Math.Seq.{take-suc}
use Rattle.std.proofs.lemmas.List.{map-append}
use Rattle.pig_value.specs.Functions.{column_found}
use Rattle.pig_value.specs.declared.functions.Function.{Function}
use Rattle.pig_builtins.specs.declared.folding.Fold.{Fold}
use Rattle.pig_builtins.specs.Folds.{fold_function, fold_found}
use Rattle.pig_value.specs.Trees.{Tree, field_tree, tree, rows_tree}
use Rattle.pig_value.specs.declared.values.Value.{Value}

-- up to the next row
pub next_row : (look : List Tree → Tree) (rows : List (List Value)) (i : ℕ) (row : List Value) → i < length rows → row ≡ get_or rows i row
    → map look (rows_tree (take (i + 1) rows)) ≡ map look (rows_tree (take i rows)) ++ look (map tree row) ∷ []
next_row look rows i row within is =
    ap (λ n. map look (rows_tree (take n rows))) (add-one i)
    ∙ ap (λ rs. map look (rows_tree rs)) (take-suc rows i row within ∙ ap (λ r. take i rows ++ r ∷ []) (sym is))
    ∙ ap (map look) (map-append (map tree) (take i rows) (row ∷ []))
    ∙ map-append look (rows_tree (take i rows)) (map tree row ∷ [])

-- a loop's step: the fold of the rows before takes the value of this row
pub next_value : (function : Function) (look : List Tree → Tree) (old new : Fold) (field : Option (Bor Value)) (rows : List (List Value)) (i : ℕ) (row : List Value)
    → i < length rows → row ≡ get_or rows i row → fold_function old ≡ function → fold_found old ≡ column_found function (map look (rows_tree (take i rows)))
    → field_tree field ≡ look (map tree row)
    → ((vs : List Tree) → fold_found old ≡ column_found (fold_function old) vs → fold_found new ≡ column_found (fold_function old) (vs ++ field_tree field ∷ []))
    → fold_found new ≡ column_found function (map look (rows_tree (take (i + 1) rows)))
next_value function look old new field rows i row within is of found value adds =
    let before = map look (rows_tree (take i rows)) in
    adds before (found ∙ ap (λ g. column_found g before) (sym of))
    ∙ ap (λ g. column_found g (before ++ field_tree field ∷ [])) of
    ∙ ap (column_found function) (ap (λ v. before ++ v ∷ []) value ∙ sym (next_row look rows i row within is))
