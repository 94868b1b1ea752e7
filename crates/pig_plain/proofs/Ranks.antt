-- The order of rows by keys alone, and that rows with the same keys have one rank.
use Rattle.std.specs.Prelude.{◌≡◌, ◌+◌, ℕ, pos, Bool, Option, Some, None, List, [], ◌∷◌, cond, length, map, slice_get, refl, if◌then◌else◌}
use Rattle.std.proofs.Common.{ap, sym, ◌∙◌, subst}
use Rattle.std.proofs.lemmas.Cmp.{alike_right}
use Rattle.std.proofs.lemmas.List.{append-nil}
use Rattle.std.proofs.lemmas.Option.{get_or_from_slice_get, slice_get-map}
use Rattle.std.proofs.lemmas.List.Sorted.{IsPermutation-sym}
use Rattle.std.specs.List.{HoldsAt}
use Rattle.std.specs.Option.{ForSome, option_map}
use Rattle.std.specs.Ordering.{is_lt, ordering_then}
use Rattle.std.specs.declared.cmp.Ordering.TheVariants.{Equal}
use Rattle.pig_value.proofs.list_laws.Bags.{sort_permutes}
use Rattle.pig_value.specs.Functions.{long_of}
use Rattle.pig_value.specs.Orders.{dir_cmp, row_cmp}
use Rattle.pig_value.specs.Sorts.{distinct}
use Rattle.pig_value.specs.Trees.{Tree, at, row_tree, rows_tree}
use Rattle.pig_value.specs.declared.values.Value.{Value}
use Rattle.pig_typed.specs.Blocks.{keys_cmp}
use Rattle.pig_typed.specs.declared.blocks.SortKey.{SortKey}
use Rattle.pig_nested.specs.SortedBy.{by_keys_cmp}
use Rattle.pig_plan.specs.Operators.{key_fields, order_rows, rank_of, rank_rows, sort_keys_cmp, stand_before}
use Rattle.pig_rank.proofs.Keys.{order_sorted, sort_total}
use Rattle.pig_rank.proofs.Ranked.{rank_sees_bags}
use Rattle.pig_rank.specs.Ranks.{AreRanked, AreSorted, ranked_among, start_behind}
use Rattle.pig_plain.specs.Known.{AreKnown}
use Rattle.pig_plain.specs.declared.ranking.Known.{Known}

pub same_order : (keys : List SortKey) (x y : List Tree) → by_keys_cmp keys x y ≡ sort_keys_cmp keys x y
same_order [] x y = refl
same_order (key ∷ keys) x y = ap (ordering_then (dir_cmp key.dir (at key.position x) (at key.position y))) (same_order keys x y)

-- the whole is behind no row
pub ranked_whole : (keys : List SortKey) (dense : Bool) (rows ranked : List (List Tree)) → AreRanked keys dense (start_behind keys []) (order_rows keys rows) ranked
    → ranked ≡ rank_rows keys dense (order_rows keys rows)
ranked_whole keys dense rows ranked are =
    let sorted = order_rows keys rows in
    are [] [] (subst (AreSorted keys) (sym (append-nil sorted)) (order_sorted keys rows)) refl ∙ ap (λ whole. ranked_among keys dense whole sorted) (append-nil sorted)

-- ---- rows with the same keys

module _ (keys : List SortKey) (x y : List Tree) (tie : sort_keys_cmp keys x y ≡ Equal) where
  same_before : (rows : List (List Tree)) → stand_before keys rows x ≡ stand_before keys rows y
  same_before [] = refl
  same_before (row ∷ rows) =
      ap (λ b. cond b (row ∷ stand_before keys rows x) (stand_before keys rows x)) (ap is_lt (alike_right (sort_total keys) x y row tie))
      ∙ ap (λ more. cond (is_lt (sort_keys_cmp keys row y)) (row ∷ more) more) (same_before rows)

  pub same_rank : (dense : Bool) (rows : List (List Tree)) → rank_of keys dense rows x ≡ rank_of keys dense rows y
  same_rank dense rows = ap (λ before. long_of (pos (length (if dense then distinct row_cmp (map (key_fields keys) before) else before) + 1))) (same_before rows)

-- what is found by the keys has them
pub found_ties : (keys : List SortKey) (rows : List (List Value)) (row : List Tree) (place : ℕ) → HoldsAt (λ other. sort_keys_cmp keys (row_tree other) row ≡ Equal) rows place
    → ForSome (slice_get (rows_tree rows) place) (λ other. sort_keys_cmp keys other row ≡ Equal)
found_ties keys rows row place holds x there = by_place (slice_get rows place) refl
  where
    some_same : {x y : List Tree} → Some x ≡ Some y → x ≡ y
    some_same h = cc

    by_place : (o : Option (List Value)) → slice_get rows place ≡ o → sort_keys_cmp keys x row ≡ Equal
    by_place None is = absurd (let none : ◌≡◌ {A = Option (List Tree)} None (Some x) = ap (option_map row_tree) (sym is) ∙ sym (slice_get-map row_tree rows place) ∙ there in cc)
    by_place (Some other) is =
        subst (λ r. sort_keys_cmp keys r row ≡ Equal) (some_same (ap (option_map row_tree) (sym is) ∙ sym (slice_get-map row_tree rows place) ∙ there))
        (subst (λ r. sort_keys_cmp keys (row_tree r) row ≡ Equal) (get_or_from_slice_get rows place other other is) (holds other))

first_field : (v : Tree) (vs row : List Tree) → row ≡ v ∷ vs → at 0 row ≡ v
first_field v vs row is = ap (at 0) is

-- of the row that is found, which has the keys of a row
pub rank_found : (keys : List SortKey) (dense : Bool) (rows : List (List Tree)) (known : Known) → AreKnown keys dense rows known → (row found : List Tree) (place : ℕ)
    → slice_get (rows_tree known.ranked) place ≡ Some found → ForSome (slice_get (rows_tree known.sorted) place) (λ other. sort_keys_cmp keys other row ≡ Equal)
    → at 0 found ≡ rank_of keys dense rows row
rank_found keys dense rows known are row found place there tie =
    by_place (slice_get (order_rows keys rows) place) refl
  where
    sorted : List (List Tree)
    sorted = order_rows keys rows

    behind : List Tree → List Tree
    behind other = rank_of keys dense sorted other ∷ other

    ranked_there : option_map behind (slice_get sorted place) ≡ Some found
    ranked_there = sym (slice_get-map behind sorted place) ∙ ap (λ rows. slice_get rows place) (sym are.ranked) ∙ there

    by_place : (o : Option (List Tree)) → slice_get sorted place ≡ o → at 0 found ≡ rank_of keys dense rows row
    by_place None is = absurd (let none : ◌≡◌ {A = Option (List Tree)} None (Some found) = ap (option_map behind) (sym is) ∙ ranked_there in cc)
    by_place (Some other) is =
        let found_is : behind other ≡ found = some_same (ap (option_map behind) (sym is) ∙ ranked_there) in
        let tied = tie other (ap (λ rows. slice_get rows place) are.sorted ∙ is) in
        first_field (rank_of keys dense sorted other) other found (sym found_is)
        ∙ same_rank keys other row tied dense sorted
        ∙ rank_sees_bags keys dense sorted rows row (IsPermutation-sym rows sorted (sort_permutes (keys_cmp keys) rows))
      where
        some_same : {x y : List Tree} → Some x ≡ Some y → x ≡ y
        some_same h = cc
