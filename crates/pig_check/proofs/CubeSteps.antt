-- The loops over the dimensions and the columns of a CUBE, one step each.
use Rattle.std.proofs.Common.{◌≡◌, ◌∙◌, ◌+◌, ◌++◌, ◌≤◌, ℕ, List, [], ◌∷◌, map, length, sym, ap, arith, append-nil}
use Rattle.std.specs.Prelude.{Some, slice_get}
use Rattle.std.specs.List.{cons_option, range_with_len}
use Rattle.std.specs.Option.{option_map}
use Rattle.std.proofs.lemmas.List.{map-append}
use Rattle.std.proofs.lemmas.List.FromFn.{map-range_with_len_more}
use Rattle.std.proofs.lemmas.Option.{slice_get-map, slice_get_past}
use Rattle.pig_schema.specs.FieldTrees.{named_tree, schema_tree}
use Rattle.pig_schema.specs.declared.schema.Field.{Field}
use Rattle.pig_typed.specs.Typed.{typed, x_field}
use Rattle.pig_typed.specs.declared.exprs.TExpr.{TExpr}
use Rattle.pig_check.specs.Cubes.{columns_at}

-- one field more
pub key_more : (keys next : List TExpr) (key : TExpr) (n : ℕ) → next ≡ keys ++ key ∷ [] → typed key ≡ x_field n → map typed keys ≡ map x_field (range_with_len 0 n)
    → map typed next ≡ map x_field (range_with_len 0 (n + 1))
key_more keys next key n pushed is h =
    let start : 0 + n ≡ n = omega (arith) in
    ap (map typed) pushed ∙ map-append typed keys (key ∷ []) ∙ (λ i. h i ++ is i ∷ []) ∙ sym (map-range_with_len_more x_field 0 n n start)

-- a copy of the column at a position
pub column_more : (columns made next : List Field) (n : ℕ) (c copy : Field) → slice_get columns n ≡ Some c → named_tree copy ≡ named_tree c → next ≡ made ++ copy ∷ []
    → schema_tree next ≡ schema_tree made ++ columns_at (schema_tree columns) (n ∷ [])
column_more columns made next n c copy e same pushed =
    ap schema_tree pushed ∙ map-append named_tree made (copy ∷ []) ∙ (λ i. schema_tree made ++ same i ∷ [])
    ∙ sym (ap (λ o. schema_tree made ++ cons_option o []) (slice_get-map named_tree columns n ∙ ap (option_map named_tree) e))

-- none stands there
pub no_column : (columns made : List Field) (n : ℕ) → length columns ≤ n → schema_tree made ≡ schema_tree made ++ columns_at (schema_tree columns) (n ∷ [])
no_column columns made n past =
    sym (append-nil (schema_tree made))
    ∙ sym (ap (λ o. schema_tree made ++ cons_option o []) (slice_get-map named_tree columns n ∙ ap (option_map named_tree) (slice_get_past columns n past)))
