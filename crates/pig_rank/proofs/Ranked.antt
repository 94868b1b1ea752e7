-- The ranks that the rows of a partition get behind its start are those in the whole, and ranked partitions are in turn the ranked whole.
use Rattle.std.specs.Prelude.{◌≡◌, ◌+◌, ℕ, zero, suc, pos, Bool, true, false, Option, None, Some, List, [], ◌∷◌, ◌++◌, length, map, slice_get, zip, refl}
use Rattle.std.proofs.Common.{ap, sym, ◌∙◌, subst, arith}
use Rattle.std.specs.List.{AllByRecursion}
use Rattle.std.specs.List.Sorted.{IsPermutation}
use Rattle.std.specs.Option.{option_map_or}
use Rattle.std.specs.Ordering.{is_lt}
use Rattle.std.proofs.lemmas.List.{append_assoc, append-nil, map-append}
use Rattle.std.proofs.lemmas.List.Folds.{flat_map-map}
use Rattle.std.proofs.lemmas.List.Sorted.{IsPermutation-map, length_permutation}
use Rattle.pig_value.specs.Elementwise.{Each}
use Rattle.pig_value.specs.Functions.{long_of}
use Rattle.pig_value.specs.Orders.{bag_of, row_cmp}
use Rattle.pig_value.specs.Sorts.{times}
use Rattle.pig_value.specs.Trees.{Tree}
use Rattle.pig_value.proofs.OrderLaws.{row_same, row_total}
use Rattle.pig_value.proofs.list_laws.Bags.{bag_from_permutation, sort_permutes}
use Rattle.pig_value.proofs.list_laws.Distinct.{distinct_permuted}
use Rattle.pig_value.proofs.list_laws.Listing.{map-flat_map, some_same}
use Rattle.pig_value.proofs.list_laws.Permutations.{IsPermutation-filter}
use Rattle.pig_typed.specs.declared.blocks.SortKey.{SortKey}
use Rattle.pig_typed.specs.Blocks.{keys_cmp}
use Rattle.pig_plan.specs.Operators.{Setting, key_fields, order_rows, rank_of, rank_rows, sort_keys_cmp, stand_before}
use Rattle.pig_plan.specs.Plans.{p_rank}
use Rattle.pig_plan.proofs.Seen.{seen}
use Rattle.pig_rank.specs.Ranks.{AreBehindLongs, AreRanked, AreSorted, EachIsRanked, PartStart, Rows, distinct_keys, joined, ranked_among, start_behind, tail_of}
use Rattle.pig_rank.specs.Walks.{and_row, rank_told, ranked_on}
use Rattle.pig_rank.proofs.Keys.{order_sorted, sort_total, ties_are}
use Rattle.pig_rank.proofs.Sorted.{back_ascends, front_ascends, keys_up_to_it, last_behind, up_to_it}
use Rattle.pig_rank.proofs.Words.{long_word, ranks_on}
use Rattle.pig_rank.proofs.Steps.{further, one_row, starts_behind, up_to_row}

module _ (keys : List SortKey) where
  -- ---- a row

  pub rank_is : (dense : Bool) (earlier : Rows) (row : List Tree) (later : Rows) → AreSorted keys (earlier ++ row ∷ later)
      → long_of (pos (rank_told dense (start_behind keys (earlier ++ row ∷ [])))) ≡ rank_of keys dense (earlier ++ row ∷ later) row
  rank_is true earlier row later h =
      let before = stand_before keys (earlier ++ row ∷ later) row in
      let one_more : length (distinct_keys keys (earlier ++ row ∷ [])) ≡ suc (length (distinct_keys keys before)) =
      keys_up_to_it (sort_keys_cmp keys) (sort_total keys) row_cmp row_total row_same (key_fields keys) (ties_are keys) earlier row later h in
      let is : length (distinct_keys keys (earlier ++ row ∷ [])) ≡ length (distinct_keys keys before) + 1 = omega (arith, one_more) in
      long_word (length (distinct_keys keys (earlier ++ row ∷ []))) ∙ ap (λ n. long_of (pos n)) is
  rank_is false earlier row later h =
      let before = stand_before keys (earlier ++ row ∷ later) row in
      let ends : tail_of keys (earlier ++ row ∷ []) ≡ times (sort_keys_cmp keys) row (earlier ++ row ∷ []) =
      ap (λ o. tail_by o) (last_behind None earlier row []) in
      let is : length before + tail_of keys (earlier ++ row ∷ []) ≡ length (earlier ++ row ∷ []) =
      ap (λ n. length before + n) ends ∙ up_to_it (sort_keys_cmp keys) (sort_total keys) earlier row later h in
      ap (λ n. long_of (pos n)) (ranks_on (length before) (tail_of keys (earlier ++ row ∷ [])) (length (earlier ++ row ∷ [])) is)
      ∙ long_word (length before + 1)
    where
      tail_by : Option (List Tree) → ℕ
      tail_by o = option_map_or (λ m. times (sort_keys_cmp keys) m (earlier ++ row ∷ [])) o 0

  -- ---- a partition

  pub ranked_is : (dense : Bool) (whole earlier rows later : Rows) → whole ≡ earlier ++ (rows ++ later) → AreSorted keys whole
      → ranked_on keys dense (start_behind keys earlier) rows ≡ ranked_among keys dense whole rows
  ranked_is dense whole earlier [] later is h = refl
  ranked_is dense whole earlier (row ∷ rows) later is h =
      let sorted : AreSorted keys (earlier ++ row ∷ (rows ++ later)) = subst (AreSorted keys) is h in
      let regrouped : whole ≡ (earlier ++ row ∷ []) ++ (rows ++ later) = is ∙ sym (append_assoc earlier (row ∷ []) (rows ++ later)) in
      ap (λ s. (long_of (pos (rank_told dense s)) ∷ row) ∷ ranked_on keys dense s rows) (one_row keys earlier row (up_to_row keys earlier row (rows ++ later) sorted))
      ∙ (λ i. ((rank_is dense earlier row (rows ++ later) sorted ∙ ap (λ w. rank_of keys dense w row) (sym is)) i ∷ row)
      ∷ ranked_is dense whole (earlier ++ row ∷ []) rows later regrouped h i)

  pub are_ranked : (dense : Bool) (start : PartStart) (rows ranked : Rows) → ranked ≡ ranked_on keys dense start rows → AreRanked keys dense start rows ranked
  are_ranked dense start rows ranked is earlier later sorted begins =
      is ∙ ap (λ s. ranked_on keys dense s rows) begins
      ∙ ranked_is dense (earlier ++ rows ++ later) earlier rows later (append_assoc earlier rows later) sorted

  pub behind_longs : (dense : Bool) (start : PartStart) (rows : Rows) → AreBehindLongs rows (ranked_on keys dense start rows)
  behind_longs dense start [] = tt
  behind_longs dense start (row ∷ rows) =
      (record { long = pos (rank_told dense (and_row keys start row)); is = refl }, behind_longs dense (and_row keys start row) rows)

  -- ---- partitions

  pub parts_sorted : (parts : List Rows) → AreSorted keys (joined parts) → AllByRecursion (AreSorted keys) parts
  parts_sorted [] h = tt
  parts_sorted (part ∷ parts) h =
      (front_ascends (sort_keys_cmp keys) (sort_total keys) part (joined parts) h, parts_sorted parts (back_ascends (sort_keys_cmp keys) (sort_total keys) part (joined parts) h))

  each_ranked : (dense : Bool) (whole earlier : Rows) (parts ranked : List Rows) → whole ≡ earlier ++ joined parts → AreSorted keys whole
      → Each (λ part made. AreRanked keys dense part.0 part.1 made) (zip (starts_behind keys earlier parts) parts) ranked → joined ranked ≡ ranked_among keys dense whole (joined parts)
  each_ranked dense whole earlier [] [] is h each = refl
  each_ranked dense whole earlier [] (made ∷ ranked) is h each = absurd each
  each_ranked dense whole earlier (part ∷ parts) [] is h each = absurd each
  each_ranked dense whole earlier (part ∷ parts) (made ∷ ranked) is h each =
      let both = subst (λ starts. Each (λ p m. AreRanked keys dense p.0 p.1 m) (zip starts (part ∷ parts)) (made ∷ ranked)) (further keys earlier part parts) each in
      let grouped : whole ≡ (earlier ++ part) ++ joined parts = is ∙ sym (append_assoc earlier part (joined parts)) in
      (λ i. (both.0 earlier (joined parts) (subst (AreSorted keys) grouped h) refl ∙ ap (λ w. ranked_among keys dense w part) (sym grouped)) i
      ++ each_ranked dense whole (earlier ++ part) parts ranked grouped h both.1 i)
      ∙ sym (map-append (λ row. rank_of keys dense whole row ∷ row) part (joined parts))

  pub by_partitions : (dense : Bool) (parts ranked : List Rows) → AreSorted keys (joined parts) → EachIsRanked keys dense parts ranked → joined ranked ≡ rank_rows keys dense (joined parts)
  by_partitions dense parts ranked h each = each_ranked dense (joined parts) [] parts ranked refl h each

  -- the partition at a place
  ranked_at : (dense : Bool) (whole earlier : Rows) (parts : List Rows) (i : ℕ) (start : PartStart) (part ranked : Rows) → whole ≡ earlier ++ joined parts → AreSorted keys whole
      → slice_get (starts_behind keys earlier parts) i ≡ Some start → slice_get parts i ≡ Some part → AreRanked keys dense start part ranked → ranked ≡ ranked_among keys dense whole part
  ranked_at dense whole earlier [] i start part ranked is h begins at made = absurd (cc)
  ranked_at dense whole earlier (first ∷ parts) zero start part ranked is h begins at made =
      let same : first ≡ part = some_same first part at in
      let starts : start ≡ start_behind keys earlier = sym (some_same (start_behind keys (earlier ++ [])) start begins) ∙ ap (start_behind keys) (append-nil earlier) in
      let grouped : whole ≡ (earlier ++ part) ++ joined parts = is ∙ sym (append_assoc earlier first (joined parts)) ∙ ap (λ p. (earlier ++ p) ++ joined parts) same in
      made earlier (joined parts) (subst (AreSorted keys) grouped h) starts ∙ ap (λ w. ranked_among keys dense w part) (sym grouped)
  ranked_at dense whole earlier (first ∷ parts) (suc i) start part ranked is h begins at made =
      ranked_at dense whole (earlier ++ first) parts i start part ranked (is ∙ sym (append_assoc earlier first (joined parts))) h
      (ap (λ starts. slice_get starts (suc i)) (sym (further keys earlier first parts)) ∙ begins) at made

  pub in_the_whole : (dense : Bool) (parts : List Rows) (i : ℕ) (start : PartStart) (part ranked : Rows) → AreSorted keys (joined parts)
      → slice_get (starts_behind keys [] parts) i ≡ Some start → slice_get parts i ≡ Some part → AreRanked keys dense start part ranked → ranked ≡ ranked_among keys dense (joined parts) part
  in_the_whole dense parts i start part ranked h begins at made = ranked_at dense (joined parts) [] parts i start part ranked refl h begins at made

  pub ranked_in_turn : (dense : Bool) (parts : List Rows) → joined (map (ranked_among keys dense (joined parts)) parts) ≡ rank_rows keys dense (joined parts)
  ranked_in_turn dense parts =
      flat_map-map (λ part. part) (ranked_among keys dense (joined parts)) parts ∙ sym (map-flat_map (λ row. rank_of keys dense (joined parts) row ∷ row) (λ part. part) parts)

  -- ---- bags

  pub rank_sees_bags : (dense : Bool) (rows others : Rows) (row : List Tree) → IsPermutation rows others → rank_of keys dense rows row ≡ rank_of keys dense others row
  rank_sees_bags dense rows others row h = counted dense (IsPermutation-filter (λ other. is_lt (sort_keys_cmp keys other row)) rows others h)
    where
      counted : (dense : Bool) → IsPermutation (stand_before keys rows row) (stand_before keys others row) → rank_of keys dense rows row ≡ rank_of keys dense others row
      counted true before =
          ap (λ ks. long_of (pos (length ks + 1)))
          (distinct_permuted row_cmp row_total row_same (map (key_fields keys) (stand_before keys rows row)) (map (key_fields keys) (stand_before keys others row))
          (IsPermutation-map (key_fields keys) (stand_before keys rows row) (stand_before keys others row) before))
      counted false before = ap (λ n. long_of (pos (n + 1))) (sym (length_permutation (stand_before keys rows row) (stand_before keys others row) before))

  abbrev setting : Setting
  setting = record { inputs = []; kept = λ statement. []; width = λ input. 0; sorted = λ input. false }

  pub ranks_see_bags : (dense : Bool) (rows others : Rows) → IsPermutation rows others → bag_of (rank_rows keys dense rows) ≡ bag_of (rank_rows keys dense others)
  ranks_see_bags dense rows others h =
      seen (λ input. rows) (λ input. others) setting 0 (p_rank 0 keys dense) refl (bag_from_permutation row_cmp row_total row_same rows others h, tt)

  pub partitions_give_the_bag : (dense : Bool) (rows : Rows) (parts ranked : List Rows) → joined parts ≡ order_rows keys rows → EachIsRanked keys dense parts ranked
      → bag_of (joined ranked) ≡ bag_of (rank_rows keys dense rows)
  partitions_give_the_bag dense rows parts ranked is each =
      ap bag_of (by_partitions dense parts ranked (subst (AreSorted keys) (sym is) (order_sorted keys rows)) each ∙ ap (rank_rows keys dense) is)
      ∙ sym (ranks_see_bags dense rows (order_rows keys rows) (sort_permutes (keys_cmp keys) rows))
