-- Lists of items and of names that the code keeps, as the definitions see them.
use Rattle.std.proofs.Common.{◌≡◌, ◌∙◌, ◌+◌, ◌-◌, ◌<◌, Bool, true, false, ℕ, suc, List, [], ◌∷◌, ◌++◌, map, length, refl, ap, subst, arith}
use Rattle.std.specs.Bool.{Decides}
use Rattle.std.proofs.lemmas.List.{append_assoc}
use Rattle.pig_schema.specs.FieldTrees.{FieldTree}
use Rattle.pig_typed.specs.Typed.{TypedItem, x_field}
use Rattle.pig_typing.specs.Calls.{fields_from}
use Rattle.pig_items.specs.Items.{NameForm, as_many}
use Rattle.pig_typing.specs.Parts.{plain_item}

-- two lists of one length are as many names as fields
pub many_is : {A B : Type 0} (f : A → FieldTree) (g : B → NameForm) (cs : List A) (fs : List B) (b : Bool) → Decides b (length cs ≡ length fs) → b ≡ as_many (map f cs) (map g fs)
many_is f g [] [] b d = d.1 refl
many_is f g [] (x ∷ fs) true d = let e = d.0 refl in absurd (omega (arith, e))
many_is f g [] (x ∷ fs) false d = refl
many_is f g (c ∷ cs) [] true d = let e = d.0 refl in absurd (omega (arith, e))
many_is f g (c ∷ cs) [] false d = refl
many_is f g (c ∷ cs) (x ∷ fs) b d = many_is f g cs fs b (λ h. let e = d.0 h in omega (arith, e), λ e. d.1 (ap suc e))

-- one item of `*` more
pub items_step : (before : List TypedItem) (n count : ℕ) (all : List TypedItem)
    → n < count → before ++ map plain_item (fields_from n (count - n)) ≡ all
    → (before ++ plain_item (x_field n) ∷ []) ++ map plain_item (fields_from (n + 1) (count - (n + 1))) ≡ all
items_step before n count all w e =
    let one : count - n ≡ suc (count - (n + 1)) = omega arith in
    let front : before ++ map plain_item (fields_from n (suc (count - (n + 1)))) ≡ all = subst (λ m. before ++ map plain_item (fields_from n m) ≡ all) one e in
    append_assoc before (plain_item (x_field n) ∷ []) (map plain_item (fields_from (n + 1) (count - (n + 1)))) ∙ front
