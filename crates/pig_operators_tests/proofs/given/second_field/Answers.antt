use Rattle.std.proofs.Common.{◌≡◌, List, [], ◌∷◌, map, refl, rules, sym, ap, subst, ◌∙◌}
use Rattle.pig_value.specs.declared.operators.Dir.TheVariants.{Desc}
use Rattle.pig_value.specs.declared.values.Value.{Value}
use Rattle.pig_value.specs.declared.values.Value.TheVariants as value
use Rattle.pig_value.specs.TreeViews.{tree-Tuple}
use Rattle.pig_value.specs.Trees.{fields_of, tree, v_tuple}
use Rattle.pig_value.specs.Valid.{IsValue}
use Rattle.pig_keycode.specs.Keys.{IsKey}
use Rattle.pig_operators_tests.proofs.given.second_field.Goals as goal

one_key : (fields : List Value) (v : Value) → fields ≡ v ∷ [] → IsValue (tree v) → IsKey (Desc ∷ []) (tree (value.Tuple fields))
one_key fields v is h = subst (IsKey (Desc ∷ [])) (sym (tree-Tuple fields ∙ ap (λ vs. v_tuple (fields_of (map tree vs))) is)) ((h, tt), refl, refl)

pub returns : goal.returns
returns c =
    let is : c.push.new.self ≡ c.in_ok-field.field-0 ∷ [] = search rules in
    one_key c.push.new.self c.in_ok-field.field-0 is c.in_ok-field.ensures
