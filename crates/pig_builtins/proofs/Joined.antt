-- CONCAT and TOBAG over all arguments.
use Rattle.std.proofs.Common.{◌≡◌, ◌<◌, ◌≤◌, ℕ, List, [], ◌∷◌, length, refl, sym, ap, ◌∙◌, arith}
use Rattle.std.specs.Prelude.{Option, Some, None}
use Rattle.std.specs.List.{concat}
use Rattle.std.specs.Option.{option_map, option_or}
use Rattle.pig_value.specs.FieldReader.{all_of}
use Rattle.pig_value.specs.Functions.{bag_tree, bytes_in, concat_tree, row_from, text_in, tobag_tree}
use Rattle.pig_value.specs.Orders.{bag_of}
use Rattle.pig_value.specs.Trees.{or_null, v_null, v_chars, v_bytes, row_tree, rows_tree, tree}
use Rattle.pig_value.specs.declared.values.Value.{Value}
use Rattle.pig_value.specs.declared.values.Value.TheVariants as value
use Rattle.pig_builtins.proofs.Trees.{bag_made}

pub concat_few : (args : List Value) → length args < 2 → concat_tree (row_tree args) ≡ v_null
concat_few [] h = refl
concat_few (v ∷ []) h = refl
concat_few (v ∷ w ∷ more) h = absurd (omega (arith, h))

fused : {A B C : Type 0} (f : A → B) (g : B → C) (o : Option A) → option_map (λ x. g (f x)) o ≡ option_map g (option_map f o)
fused f g None = refl
fused f g (Some x) = refl

concat_is : (args : List Value) → 2 ≤ length args
    → concat_tree (row_tree args) ≡ or_null (option_or (option_map v_chars (option_map concat (all_of text_in (row_tree args)))) (option_map v_bytes (option_map concat (all_of bytes_in (row_tree args)))))
concat_is [] h = absurd (omega (arith, h))
concat_is (v ∷ []) h = absurd (omega (arith, h))
concat_is (v ∷ w ∷ more) h =
    let args = row_tree (v ∷ w ∷ more) in
    λ i. or_null (option_or (fused concat v_chars (all_of text_in args) i) (fused concat v_bytes (all_of bytes_in args) i))

pub concat_texts : (args : List Value) (text : List ℕ) → 2 ≤ length args → Some text ≡ option_map concat (all_of text_in (row_tree args)) → concat_tree (row_tree args) ≡ v_chars text
concat_texts args text h is = concat_is args h ∙ ap (λ o. or_null (option_or (option_map v_chars o) (option_map v_bytes (option_map concat (all_of bytes_in (row_tree args)))))) (sym is)

pub concat_bytes : (args : List Value) (bytes : List ℕ) → 2 ≤ length args → None ≡ option_map concat (all_of text_in (row_tree args))
    → Some bytes ≡ option_map concat (all_of bytes_in (row_tree args)) → concat_tree (row_tree args) ≡ v_bytes bytes
concat_bytes args bytes h lost is = concat_is args h ∙ (λ i. or_null (option_or (option_map v_chars (sym lost i)) (option_map v_bytes (sym is i))))

pub concat_none : (args : List Value) → 2 ≤ length args → None ≡ option_map concat (all_of text_in (row_tree args))
    → None ≡ option_map concat (all_of bytes_in (row_tree args)) → concat_tree (row_tree args) ≡ v_null
concat_none args h lost is = concat_is args h ∙ (λ i. or_null (option_or (option_map v_chars (sym lost i)) (option_map v_bytes (sym is i))))

tobag_is : (width : Option ℕ) (args : List Value) → 0 < length args → tobag_tree width (row_tree args) ≡ or_null (option_map bag_tree (all_of (row_from width) (row_tree args)))
tobag_is width [] h = absurd (omega (arith, h))
tobag_is width (v ∷ vs) h = refl

pub tobag_some : (width : Option ℕ) (args : List Value) (rows made : List (List Value)) → 0 < length args → Some (rows_tree rows) ≡ all_of (row_from width) (row_tree args)
    → rows_tree made ≡ bag_of (rows_tree rows) → tree (value.Bag made) ≡ tobag_tree width (row_tree args)
tobag_some width args rows made h is sorted =
    bag_made made (rows_tree rows) sorted ∙ ap (λ o. or_null (option_map bag_tree o)) is ∙ sym (tobag_is width args h)

pub tobag_none : (width : Option ℕ) (args : List Value) → 0 < length args → None ≡ all_of (row_from width) (row_tree args) → tobag_tree width (row_tree args) ≡ v_null
tobag_none width args h is = tobag_is width args h ∙ ap (λ o. or_null (option_map bag_tree o)) (sym is)
