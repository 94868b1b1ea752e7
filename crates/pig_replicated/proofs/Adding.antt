-- Joinings that are added one match after another.
use Rattle.std.specs.Prelude.{◌≡◌, ◌↔◌, ◌||◌, Bool, true, false, List, [], ◌∷◌, ◌++◌, map, refl}
use Rattle.std.proofs.Common.{ap, sym, ◌∙◌, append_assoc, true≢false}
use Rattle.std.specs.List.{list_any}
use Rattle.std.proofs.lemmas.List.{map-append}
use Rattle.pig_value.specs.declared.values.Value.{Value}
use Rattle.pig_value.specs.Trees.{Tree, row_tree, rows_tree, tree}
use Rattle.pig_value.proofs.list_laws.Bags.{either_way}
use Rattle.pig_typed.specs.Products.{joined, product}
use Rattle.pig_plan.specs.ByKey.{is_empty}

-- rows behind these fields
abbrev pub behind : List Tree → List (List Tree) → List (List Tree)
behind front rows = map (λ more. front ++ more) rows

behind_both : (front row : List Tree) (rows : List (List Tree)) → behind front (behind row rows) ≡ behind (front ++ row) rows
behind_both front row [] = refl
behind_both front row (more ∷ rows) = λ i. sym (append_assoc front row more) i ∷ behind_both front row rows i

-- those of one match, and then those of the matches behind it
pub behind_first : (front row : List Tree) (matches rest : List (List Tree)) → behind front (joined (row ∷ matches) rest) ≡ behind (front ++ row) rest ++ behind front (joined matches rest)
behind_first front row matches rest =
    map-append (λ more. front ++ more) (behind row rest) (joined matches rest) ∙ ap (λ rows. rows ++ behind front (joined matches rest)) (behind_both front row rest)

-- what was added of one match, and what is to come
pub added_one : (front row made : List Value) (matches rest old new all : List (List Tree)) → made ≡ front ++ row
    → old ++ behind (row_tree front) (joined (row_tree row ∷ matches) rest) ≡ all → new ≡ old ++ behind (row_tree made) rest
    → new ++ behind (row_tree front) (joined matches rest) ≡ all
added_one front row made matches rest old new all is so_far grown =
    let later = behind (row_tree front) (joined matches rest) in
    let here : behind (row_tree made) rest ++ later ≡ behind (row_tree front) (joined (row_tree row ∷ matches) rest) =
    ap (λ fields. behind fields rest ++ later) (ap row_tree is ∙ map-append tree front row) ∙ sym (behind_first (row_tree front) (row_tree row) matches rest)
    in
    ap (λ rows. rows ++ later) grown ∙ append_assoc old (behind (row_tree made) rest) later ∙ ap (λ rows. old ++ rows) here ∙ so_far

-- a part without rows leaves nothing to join
pub joined_none : {X : Type 0} (xs : List (List X)) → joined xs [] ≡ []
joined_none [] = refl
joined_none (x ∷ xs) = joined_none xs

none_joined : {X : Type 0} (part : List (List X)) (parts : List (List (List X))) → part ≡ [] → product (part ∷ parts) ≡ []
none_joined part parts h = ap (λ rows. joined rows (product parts)) h

empty_is : (rows : List (List Tree)) → is_empty rows ≡ true → rows ≡ []
empty_is [] h = refl
empty_is (x ∷ rows) h = absurd (true≢false (sym h))

module _ {X : Type 0} (f : X → List (List Tree)) where
  pub one_empty : (xs : List X) → list_any (λ x. is_empty (f x)) xs ≡ true → product (map f xs) ≡ []
  one_empty [] h = absurd (true≢false (sym h))
  one_empty (x ∷ xs) h = either_way (is_empty (f x))
      (λ e. none_joined (f x) (map f xs) (empty_is (f x) e))
      (λ e. ap (joined (f x)) (one_empty xs (sym (ap (λ b. b || list_any (λ y. is_empty (f y)) xs) e) ∙ h)) ∙ joined_none (f x))

-- what a test of rows for being none tells
pub none_are : (b : Bool) (xs : List (List Value)) (rows : List (List Tree)) → (b ≡ true) ↔ (xs ≡ []) → rows_tree xs ≡ rows → b ≡ is_empty rows
none_are true xs rows tells is = ap is_empty (sym (ap rows_tree (tells.0 refl)) ∙ is)
none_are false [] rows tells is = absurd (true≢false (sym (tells.1 refl)))
none_are false (x ∷ xs) rows tells is = ap is_empty is

-- nothing is joined where one has none
pub none_added : {X : Type 0} (f : X → List (List Tree)) (xs : List X) (row : List Tree) → list_any (λ x. is_empty (f x)) xs ≡ true → [] ≡ behind row (product (map f xs))
none_added f xs row h = sym (ap (behind row) (one_empty f xs h))
