-- Laws of joinings: they may be made from left to right, and lists of one in a row are one.
use Rattle.std.specs.Prelude.{◌≡◌, Bool, true, false, not, List, [], ◌∷◌, ◌++◌, map, refl, if◌then◌else◌, ◌&&◌}
use Rattle.std.proofs.Common.{ap, sym, ◌∙◌, true≢false}
use Rattle.std.proofs.lemmas.List.{append-nil, append_assoc, map-append}
use Rattle.std.proofs.lemmas.List.Concat.{flat_map-append}
use Rattle.pig_value.specs.Trees.{rows_tree, Tree}
use Rattle.pig_value.specs.declared.values.Value.{Value}
use Rattle.pig_typed.specs.Blocks.{flattened, item_lists}
use Rattle.pig_typed.specs.Evaluation.{ev}
use Rattle.pig_typed.specs.Products.{joined, product}
use Rattle.pig_typed.specs.Typed.{TypedItem}
use Rattle.pig_nested.specs.Joinings.{are_plain, joined_on, plain_fields}

module _ {X : Type 0} where
  -- behind the empty list, and before it
  pub joined_none : (xs : List (List X)) → joined xs ([] ∷ []) ≡ xs
  joined_none [] = refl
  joined_none (x ∷ xs) = λ i. append-nil x i ∷ joined_none xs i

  -- before all joinings of two lists, or all joinings behind it
  joined_behind : (x : List X) (ys zs : List (List X)) → joined (map (λ y. x ++ y) ys) zs ≡ map (λ y. x ++ y) (joined ys zs)
  joined_behind x [] zs = refl
  joined_behind x (y ∷ ys) zs =
      ap (λ l. l ++ joined (map (λ u. x ++ u) ys) zs) (each zs) ∙ ap (λ l. map (λ u. x ++ u) (map (λ z. y ++ z) zs) ++ l) (joined_behind x ys zs)
      ∙ sym (map-append (λ u. x ++ u) (map (λ z. y ++ z) zs) (joined ys zs))
    where
      each : (zs : List (List X)) → map (λ z. (x ++ y) ++ z) zs ≡ map (λ u. x ++ u) (map (λ z. y ++ z) zs)
      each [] = refl
      each (z ∷ zs) = λ i. append_assoc x y z i ∷ each zs i

  pub joined-joined : (xs ys zs : List (List X)) → joined (joined xs ys) zs ≡ joined xs (joined ys zs)
  joined-joined [] ys zs = refl
  joined-joined (x ∷ xs) ys zs =
      flat_map-append (λ u. map (λ z. u ++ z) zs) (map (λ y. x ++ y) ys) (joined xs ys)
      ∙ ap (λ l. l ++ joined (joined xs ys) zs) (joined_behind x ys zs)
      ∙ ap (λ l. map (λ y. x ++ y) (joined ys zs) ++ l) (joined-joined xs ys zs)

  -- from left to right
  pub joined_on_is : (rows : List (List X)) (parts : List (List (List X))) → joined_on rows parts ≡ joined rows (product parts)
  joined_on_is rows [] = sym (joined_none rows)
  joined_on_is rows (part ∷ parts) = joined_on_is (joined rows part) parts ∙ joined-joined rows part (product parts)

  before_none : (ys : List (List X)) → map (λ y. [] ++ y) ys ≡ ys
  before_none [] = refl
  before_none (y ∷ ys) = ap (λ l. y ∷ l) (before_none ys)

  pub none_joined : (ys : List (List X)) → joined ([] ∷ []) ys ≡ ys
  none_joined ys = append-nil (map (λ y. [] ++ y) ys) ∙ before_none ys

  -- rows that go on with the same fields, and with more
  pub tail_more : (rows : List (List X)) (tail more : List X) → joined rows ((tail ++ more) ∷ []) ≡ joined (joined rows (tail ∷ [])) (more ∷ [])
  tail_more rows tail more = sym (joined-joined rows (tail ∷ []) (more ∷ []))

-- the same of rows of values
pub fields_behind : (rows : List (List Value)) (tail made fields : List Tree) → made ≡ tail ++ fields
    → joined (rows_tree rows) (made ∷ []) ≡ joined (joined (rows_tree rows) (tail ∷ [])) (fields ∷ [])
fields_behind rows tail made fields is = ap (λ row. joined (rows_tree rows) (row ∷ [])) is ∙ tail_more (rows_tree rows) tail fields

-- the lists of the first item before those of the others
pub whole_product : (made begun first : List (List Tree)) (rest : List (List (List Tree))) → made ≡ joined_on begun rest → begun ≡ first
    → made ≡ product (first ∷ rest)
whole_product made begun first rest is starts = is ∙ joined_on_is begun rest ∙ ap (λ rows. joined rows (product rest)) starts

-- a block without FLATTEN makes one row
one_list : (flatten : Bool) (lists : List (List Tree)) (v : Tree) (vs : List Tree) → not flatten ≡ true
    → joined (if flatten then lists else (v ∷ []) ∷ []) (vs ∷ []) ≡ (v ∷ vs) ∷ []
one_list true lists v vs h = absurd (true≢false (sym h))
one_list false lists v vs h = refl

first_plain : (a b : Bool) → (a && b) ≡ true → a ≡ true
first_plain true b h = refl
first_plain false b h = h

rest_plain : (a b : Bool) → (a && b) ≡ true → b ≡ true
rest_plain true b h = h
rest_plain false b h = absurd (true≢false (sym h))

pub plain_product : (items : List TypedItem) (row locals : List Tree) → are_plain items ≡ true
    → product (map (λ item. item_lists item row locals) items) ≡ plain_fields items row locals ∷ []
plain_product [] row locals h = refl
plain_product (item ∷ items) row locals h =
    let v : Tree = ev item.value row locals in
    ap (joined (item_lists item row locals)) (plain_product items row locals (rest_plain (not item.flatten) (are_plain items) h))
    ∙ one_list item.flatten (flattened item.width v) v (plain_fields items row locals) (first_plain (not item.flatten) (are_plain items) h)
