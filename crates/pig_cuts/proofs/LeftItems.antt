-- A fitted block makes rows of the kinds that are left of those that the block makes.
use Rattle.std.specs.Prelude.{◌≡◌, ◌+◌, ◌==◌, ℕ, Bool, true, false, List, [], ◌∷◌, ◌++◌, map, length, Option, Some, None, slice_get, refl, if◌then◌else◌}
use Rattle.std.specs.List.{flat_map, list_all, range_with_len}
use Rattle.std.specs.Option.{option_and_then}
use Rattle.std.proofs.Common.{ap, sym, ◌∙◌, subst, arith}
use Rattle.std.proofs.lemmas.Bool.{and_parts, eqb-true}
use Rattle.std.proofs.lemmas.List.{map-append}
use Rattle.std.proofs.lemmas.Option.{none-some, slice_get_within}
use Rattle.pig_value.proofs.list_laws.Elementwise.{each_joined, get-behind}
use Rattle.pig_value.proofs.list_laws.Listing.{some_same}
use Rattle.pig_value.specs.Elementwise.{Each}
use Rattle.pig_value.specs.Trees.{KindTree}
use Rattle.pig_typed.specs.BlockKinds.{given_kinds, item_kinds, items_kinds, of_width, row_kinds, steps_kinds}
use Rattle.pig_typed.specs.ExprKinds.{expr_kind}
use Rattle.pig_typed.specs.Typed.{TypedBlock, TypedItem}
use Rattle.pig_plan.proofs.Unfolds.{get-front}
use Rattle.pig_plan.specs.NodeKinds.{RowKinds}
use Rattle.pig_cuts.specs.Cuts.{NodeCut}
use Rattle.pig_cuts.specs.Fits.{fit_item, fit_step, sees}
use Rattle.pig_cuts.specs.Plans.{all_stay, cut_unless, fit_block, items_kept, items_see, spans, staying, steps_see, whole_field}
use Rattle.pig_cuts.proofs.Gives.{all_whole, each_position}
use Rattle.pig_cuts.proofs.LeftKinds.{AreLeft, IsKindLeft, item_kinds_fit, steps_kinds_fit}
use Rattle.pig_cuts.proofs.Staying.{staying_all}

abbrev flat : List (List ℕ) → List ℕ
flat = flat_map (λ span. span)

width_in : (width : ℕ) (o : Option RowKinds) (kinds : RowKinds) → option_and_then (of_width width) o ≡ Some kinds → length kinds ≡ width
width_in width None kinds h = absurd (none-some kinds h)
width_in width (Some found) kinds h = by_test (length found == width) refl h
  where
    by_test : (b : Bool) → (length found == width) ≡ b → (if b then Some found else None) ≡ Some kinds → length kinds ≡ width
    by_test true e g = ap length (sym (some_same found kinds g)) ∙ eqb-true (length found) width e
    by_test false e g = absurd (none-some kinds g)

-- an item gives as many kinds as it is wide
pub item_width : (item : TypedItem) (ks locals kinds : RowKinds) → item_kinds item ks locals ≡ Some kinds → length kinds ≡ item.width
item_width item ks locals kinds h = by_kind (expr_kind item.value ks locals) h
  where
    by_kind : (o : Option KindTree) → option_and_then (λ k. option_and_then (of_width item.width) (given_kinds item.flatten k)) o ≡ Some kinds → length kinds ≡ item.width
    by_kind None g = absurd (none-some kinds g)
    by_kind (Some k) g = width_in item.width (given_kinds item.flatten k) kinds g

-- the kinds of the first item, and of the others
pub record AreItems (item : TypedItem) (items : List TypedItem) (ks locals given : RowKinds) : Type 0 where
  pub kinds : RowKinds
  pub more : RowKinds
  pub first : item_kinds item ks locals ≡ Some kinds
  pub others : items_kinds items ks locals ≡ Some more
  pub are : given ≡ kinds ++ more
  pub wide : length kinds ≡ item.width

pub items_are : (item : TypedItem) (items : List TypedItem) (ks locals given : RowKinds) → items_kinds (item ∷ items) ks locals ≡ Some given → AreItems item items ks locals given
items_are item items ks locals given h = by_parts (item_kinds item ks locals) refl (items_kinds items ks locals) refl h
  where
    by_parts : (o : Option RowKinds) → item_kinds item ks locals ≡ o → (r : Option RowKinds) → items_kinds items ks locals ≡ r
        → option_and_then (λ kinds. option_and_then (λ more. Some (kinds ++ more)) r) o ≡ Some given → AreItems item items ks locals given
    by_parts None e r f g = absurd (none-some given g)
    by_parts (Some kinds) e None f g = absurd (none-some given g)
    by_parts (Some kinds) e (Some more) f g = record { kinds = kinds; more = more; first = e; others = f; are = sym (some_same (kinds ++ more) given g); wide = item_width item ks locals kinds e }

module _ (cuts : ℕ → NodeCut) (own : NodeCut) (ks ls : RowKinds) (left : AreLeft cuts own ks ls) (locals : RowKinds) where
  -- ---- all items

  items_fit : (items : List TypedItem) → list_all (λ item. sees cuts own item.value) items ≡ true → items_kinds (map (fit_item cuts own) items) ls locals ≡ items_kinds items ks locals
  items_fit [] h = refl
  items_fit (item ∷ items) h =
      let both = and_parts (sees cuts own item.value) (list_all (λ item. sees cuts own item.value) items) h in
      λ i. option_and_then (λ kinds. option_and_then (λ more. Some (kinds ++ more)) (items_fit items both.1 i)) (item_kinds_fit cuts own ks ls left item locals both.0 i)

  -- ---- those that stay

  module _ (whole : RowKinds) where
    -- the kinds of the items stand among the whole from a place on
    abbrev StandAt : ℕ → RowKinds → Type 0
    StandAt first given = (j : ℕ) (k : KindTree) → slice_get given j ≡ Some k → slice_get whole (first + j) ≡ Some k

    record AreMade (items : List TypedItem) (positions : List ℕ) : Type 0 where
      made : RowKinds
      is : items_kinds (map (fit_item cuts own) items) ls locals ≡ Some made
      each : Each (IsKindLeft cuts whole) (map whole_field positions) made

    rest_at : (first width : ℕ) (kinds more given : RowKinds) → given ≡ kinds ++ more → length kinds ≡ width → StandAt first given → StandAt (first + width) more
    rest_at first width kinds more given are wide at j k h =
        let next : first + width + j ≡ first + (width + j) = omega arith in
        ap (slice_get whole) next
        ∙ at (width + j) k (ap (λ xs. slice_get xs (width + j)) are ∙ ap (λ n. slice_get (kinds ++ more) (n + j)) (sym wide) ∙ get-behind kinds more j ∙ h)

    stay : (marks : List Bool) (item : TypedItem) (items : List TypedItem) (first : ℕ) (given : RowKinds) (g : AreItems item items ks locals given) → sees cuts own item.value ≡ true → StandAt first given
        → AreMade (staying marks items) (flat (staying marks (spans (first + item.width) items)))
        → AreMade (item ∷ staying marks items) (range_with_len first item.width ++ flat (staying marks (spans (first + item.width) items)))
    stay marks item items first given g seen at rest = record {
      made = g.kinds ++ rest.made;
      is = (λ i. option_and_then (λ kinds. option_and_then (λ more. Some (kinds ++ more)) (rest.is i)) ((item_kinds_fit cuts own ks ls left item locals seen ∙ g.first) i));
      each = subst (λ fields. Each (IsKindLeft cuts whole) fields (g.kinds ++ rest.made)) (sym (map-append whole_field (range_with_len first item.width) (flat (staying marks (spans (first + item.width) items)))))
          (each_joined (IsKindLeft cuts whole) (map whole_field (range_with_len first item.width)) (map whole_field (flat (staying marks (spans (first + item.width) items)))) g.kinds rest.made
          (all_whole cuts whole (range_with_len first item.width) g.kinds
          (subst (λ n. Each (λ p k. slice_get whole p ≡ Some k) (range_with_len first n) g.kinds) g.wide
          (each_position whole first g.kinds (λ j k h. at j k (ap (λ xs. slice_get xs j) g.are ∙ get-front g.kinds g.more j (slice_get_within g.kinds j k h) ∙ h)))))
          rest.each);
    }

    items_left : (marks : List Bool) (items : List TypedItem) (first : ℕ) (given : RowKinds) → items_kinds items ks locals ≡ Some given → list_all (λ item. sees cuts own item.value) (staying marks items) ≡ true
        → StandAt first given → AreMade (staying marks items) (flat (staying marks (spans first items)))
    items_left [] [] first given h seen at = record { made = []; is = refl; each = tt }
    items_left (mark ∷ marks) [] first given h seen at = record { made = []; is = refl; each = tt }
    items_left [] (item ∷ items) first given h seen at =
        let g = items_are item items ks locals given h in
        let both = and_parts (sees cuts own item.value) (list_all (λ item. sees cuts own item.value) items) seen in
        stay [] item items first given g both.0 at (items_left [] items (first + item.width) g.more g.others both.1 (rest_at first item.width g.kinds g.more given g.are g.wide at))
    items_left (true ∷ marks) (item ∷ items) first given h seen at =
        let g = items_are item items ks locals given h in
        let both = and_parts (sees cuts own item.value) (list_all (λ item. sees cuts own item.value) (staying marks items)) seen in
        stay marks item items first given g both.0 at (items_left marks items (first + item.width) g.more g.others both.1 (rest_at first item.width g.kinds g.more given g.are g.wide at))
    items_left (false ∷ marks) (item ∷ items) first given h seen at =
        let g = items_are item items ks locals given h in
        items_left marks items (first + item.width) g.more g.others seen (rest_at first item.width g.kinds g.more given g.are g.wide at)

-- the kinds of a fitted block's rows
pub record IsBlockLeft (cuts : ℕ → NodeCut) (own left : NodeCut) (ls : RowKinds) (block : TypedBlock) (given : RowKinds) : Type 0 where
  pub made : RowKinds
  pub is : row_kinds block ls ≡ Some made
  pub are : AreLeft cuts left given made

pub block_left : (cuts : ℕ → NodeCut) (own : NodeCut) (ks ls : RowKinds) → AreLeft cuts own ks ls → (marks : List Bool) (block : TypedBlock) → steps_see cuts own block ≡ true → items_see cuts own marks block ≡ true
    → (given : RowKinds) → row_kinds block ks ≡ Some given
    → IsBlockLeft cuts own (cut_unless (all_stay marks) (items_kept marks block.items)) ls (fit_block cuts own marks block) given
block_left cuts own ks ls left marks block steps items given h = by_steps (steps_kinds block.steps ks []) refl h
  where
    by_steps : (o : Option RowKinds) → steps_kinds block.steps ks [] ≡ o → option_and_then (λ locals. items_kinds block.items ks locals) o ≡ Some given
        → IsBlockLeft cuts own (cut_unless (all_stay marks) (items_kept marks block.items)) ls (fit_block cuts own marks block) given
    by_steps None e g = absurd (none-some given g)
    by_steps (Some locals) e g = by_marks (all_stay marks) refl
      where
        found : steps_kinds (map (fit_step cuts own) block.steps) ls [] ≡ Some locals
        found = steps_kinds_fit cuts own ks ls left block.steps [] steps ∙ e

        by_marks : (b : Bool) → all_stay marks ≡ b → IsBlockLeft cuts own (cut_unless b (items_kept marks block.items)) ls (fit_block cuts own marks block) given
        by_marks true all = record {
          made = given;
          is = ap (option_and_then (items_kinds (map (fit_item cuts own) (staying marks block.items)) ls)) found
              ∙ items_fit cuts own ks ls left locals (staying marks block.items) items
              ∙ ap (λ xs. items_kinds xs ks locals) (staying_all marks block.items all) ∙ g;
          are = refl;
        }
        by_marks false all =
            let made = items_left cuts own ks ls left locals given marks block.items 0 given g items (λ j k at. let same : 0 + j ≡ j = omega arith in ap (slice_get given) same ∙ at) in
            record { made = made.made; is = ap (option_and_then (items_kinds (map (fit_item cuts own) (staying marks block.items)) ls)) found ∙ made.is; are = made.each }
