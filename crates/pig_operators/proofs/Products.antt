-- Joined rows, one part after another.
use Rattle.std.proofs.Common.{◌≡◌, ℕ, false, List, [], ◌∷◌, ◌++◌, map, refl, sym, ◌∙◌, ap, append_assoc}
use Rattle.std.proofs.lemmas.List.{map-append, map-id}
use Rattle.std.specs.List.{range_with_len}
use Rattle.std.specs.Prelude.{if◌then◌else◌}
use Rattle.pig_value.specs.declared.values.Value.{Value}
use Rattle.pig_value.specs.Trees.{Tree, tree, row_tree, rows_tree}
use Rattle.pig_plan.specs.ByKey.{holds_null, join_of}
use Rattle.pig_typed.specs.Products.{joined, product}

-- the joined rows of parts, each behind these fields
abbrev pub behind_fields : List Tree → List (List Tree) → List (List Tree)
behind_fields front rows = map (λ more. front ++ more) rows

further : (front row : List Tree) (rows : List (List Tree)) → behind_fields front (behind_fields row rows) ≡ behind_fields (front ++ row) rows
further front row [] = refl
further front row (more ∷ rows) = λ i. sym (append_assoc front row more) i ∷ further front row rows i

-- those of one row of the first part, and then those of the others
pub products_step : (front row : List Tree) (part rest : List (List Tree)) → behind_fields front (joined (row ∷ part) rest) ≡ behind_fields (front ++ row) rest ++ behind_fields front (joined part rest)
products_step front row part rest =
    map-append (λ more. front ++ more) (map (λ more. row ++ more) rest) (joined part rest) ∙ ap (λ l. l ++ behind_fields front (joined part rest)) (further front row rest)

-- behind no fields
pub behind_none : (rows : List (List Tree)) → behind_fields [] rows ≡ rows
behind_none rows = map-id rows

-- what is added behind no fields
pub products_added : (front : List Value) (parts : List (List (List Value))) (lists : List (List (List Tree))) (old new : List (List Tree)) → front ≡ [] → map rows_tree parts ≡ lists
    → new ≡ old ++ behind_fields (row_tree front) (product (map rows_tree parts)) → new ≡ old ++ product lists
products_added front parts lists old new none are is =
    is ∙ ((λ i. old ++ behind_fields (row_tree (none i)) (product (are i))) ∙ ap (λ l. old ++ l) (behind_none (product lists)))

pub join_is : (n : ℕ) (k : Tree) (rows : ℕ → List (List Tree)) → holds_null k ≡ false → join_of n k rows ≡ product (map rows (range_with_len 0 n))
join_is n k rows h = ap (λ b. if b then [] else product (map rows (range_with_len 0 n))) h

-- the rows of one row of the first part, and those that are to come
pub products_more : (front row made : List Value) (part : List (List Tree)) (rest rows new all : List (List Tree)) → made ≡ front ++ row
    → rows ++ behind_fields (row_tree front) (joined (row_tree row ∷ part) rest) ≡ all → new ≡ rows ++ behind_fields (row_tree made) rest → new ++ behind_fields (row_tree front) (joined part rest) ≡ all
products_more front row made part rest rows new all is so_far grown =
    let later = behind_fields (row_tree front) (joined part rest) in
    ap (λ l. l ++ later) grown
    ∙ (append_assoc rows (behind_fields (row_tree made) rest) later
    ∙ (ap (λ l. rows ++ l)
    (ap (λ l. behind_fields l rest ++ later) (ap row_tree is ∙ map-append tree front row)
    ∙ sym (products_step (row_tree front) (row_tree row) part rest))
    ∙ so_far))
