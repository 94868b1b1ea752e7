-- What stands before a place of a sorted list, with one more row, with one more partition, and up to each partition.
use Rattle.std.specs.Prelude.{◌≡◌, ◌<◌, ◌≤◌, ◌+◌, ◌^◌, ℕ, suc, Bool, not, Option, Some, None, List, [], ◌∷◌, ◌++◌, length, map, take, refl}
use Rattle.std.proofs.Common.{ap, sym, ◌∙◌, subst, arith, cond}
use Rattle.std.specs.List.{filter, fold, range_with_len}
use Rattle.std.specs.Option.{option_map_or}
use Rattle.std.specs.Ordering.{is_eq}
use Rattle.std.proofs.lemmas.List.{length-map}
use Rattle.std.proofs.lemmas.List.Filters.{length-filter_both}
use Rattle.std.proofs.lemmas.List.Sorted.{length_permutation}
use Rattle.pig_value.specs.Sorts.{distinct, put}
use Rattle.pig_value.proofs.list_laws.Bags.{put_permutes}
use Rattle.std.proofs.lemmas.List.{append_assoc, append-nil, length-append}
use Rattle.pig_value.specs.Orders.{row_cmp}
use Rattle.pig_value.specs.Trees.{Tree}
use Rattle.pig_value.proofs.OrderLaws.{row_same, row_total}
use Rattle.pig_value.proofs.list_laws.Elementwise.{range_up}
use Rattle.pig_typed.specs.declared.blocks.SortKey.{SortKey}
use Rattle.pig_plan.specs.Operators.{key_fields, sort_keys_cmp}
use Rattle.pig_rank.specs.declared.parts.Summary.{Summary}
use Rattle.pig_rank.specs.Ranks.{AreSummariesOf, AreSorted, PartStart, PartSummary, Rows, distinct_keys, first_row, joined, last_row, start_behind, starts_of, summary_of, summary_tree, tail_of, with_key_of}
use Rattle.pig_rank.specs.Walks.{and_part, and_row, and_rows, behind_part, goes_on, nothing, starts_on}
use Rattle.pig_rank.proofs.Keys.{sort_total, ties_are}
use Rattle.pig_rank.proofs.Words.{counts_on, fits, keys_on, more_keys, more_tail, tail_on}
use Rattle.pig_rank.proofs.Sorted.{front_ascends, keys_joined, last_behind, last_some, some_key, tail_joined, times_alone}

module _ (keys : List SortKey) where
  -- ---- rows

  pub one_row : (earlier : Rows) (row : List Tree) → AreSorted keys (earlier ++ row ∷ []) → and_row keys (start_behind keys earlier) row ≡ start_behind keys (earlier ++ row ∷ [])
  one_row earlier row h =
      let R = sort_keys_cmp keys in
      let tie = goes_on keys (last_row earlier) row in
      let ends : last_row (earlier ++ row ∷ []) ≡ Some row = last_behind None earlier row [] in
      let size : length (earlier ++ row ∷ []) ≡ length earlier + 1 = length-append earlier (row ∷ []) in
      let keys_are : length (distinct_keys keys (earlier ++ row ∷ [])) + cond tie 1 0 ≡ length (distinct_keys keys earlier) + 1 =
      keys_joined R (sort_total keys) row_cmp row_total row_same (key_fields keys) (ties_are keys) earlier (row ∷ []) h in
      let tail_is : tail_of keys (earlier ++ row ∷ []) ≡ cond tie (tail_of keys earlier) 0 + 1 =
      tail_joined R (sort_total keys) earlier (row ∷ []) row refl ends h ∙ ap (λ n. cond tie (tail_of keys earlier) 0 + n) (times_alone R (sort_total keys) row) in
      λ i. record {
        rank = counts_on (length earlier) 1 (length (earlier ++ row ∷ [])) size i;
        dense = keys_on tie (length (distinct_keys keys earlier)) (length (distinct_keys keys (earlier ++ row ∷ []))) keys_are i;
        last = sym ends i;
        tail = tail_on tie (tail_of keys earlier) (tail_of keys (earlier ++ row ∷ [])) tail_is i;
      }

  regroup : (earlier : Rows) (row : List Tree) (rows : Rows) → (earlier ++ row ∷ []) ++ rows ≡ earlier ++ row ∷ rows
  regroup earlier row rows = append_assoc earlier (row ∷ []) rows

  pub up_to_row : (earlier : Rows) (row : List Tree) (rows : Rows) → AreSorted keys (earlier ++ row ∷ rows) → AreSorted keys (earlier ++ row ∷ [])
  up_to_row earlier row rows h = front_ascends (sort_keys_cmp keys) (sort_total keys) (earlier ++ row ∷ []) rows (subst (AreSorted keys) (sym (regroup earlier row rows)) h)

  pub all_rows : (earlier rows : Rows) → AreSorted keys (earlier ++ rows) → and_rows keys (start_behind keys earlier) rows ≡ start_behind keys (earlier ++ rows)
  all_rows earlier [] h = ap (start_behind keys) (sym (append-nil earlier))
  all_rows earlier (row ∷ rows) h =
      ap (λ s. fold (and_row keys) s rows) (one_row earlier row (up_to_row earlier row rows h))
      ∙ all_rows (earlier ++ row ∷ []) rows (subst (AreSorted keys) (sym (regroup earlier row rows)) h)
      ∙ ap (start_behind keys) (regroup earlier row rows)

  pub begins : start_behind keys [] ≡ nothing
  begins = refl

  pub from_nothing : (rows : Rows) → AreSorted keys rows → and_rows keys nothing rows ≡ start_behind keys rows
  from_nothing rows h = all_rows [] rows h

  -- ---- partitions

  pub one_part : (earlier part : Rows) → AreSorted keys (earlier ++ part) → and_part keys (start_behind keys earlier) (summary_of keys part) ≡ start_behind keys (earlier ++ part)
  one_part earlier [] h = ap (start_behind keys) (sym (append-nil earlier))
  one_part earlier (row ∷ rows) h =
      let R = sort_keys_cmp keys in
      let part = row ∷ rows in
      let found = last_some row rows in
      let first_ties = goes_on keys (last_row earlier) row in
      let last_ties = goes_on keys (last_row earlier) found.0 in
      let ends : last_row (earlier ++ part) ≡ Some found.0 = last_behind None earlier row rows ∙ found.1 in
      let size : length (earlier ++ part) ≡ length earlier + length part = length-append earlier part in
      let keys_are : length (distinct_keys keys (earlier ++ part)) + cond first_ties 1 0 ≡ length (distinct_keys keys earlier) + length (distinct_keys keys part) =
      keys_joined R (sort_total keys) row_cmp row_total row_same (key_fields keys) (ties_are keys) earlier part h in
      let some : 1 ≤ length (distinct_keys keys part) = some_key R (sort_total keys) row_cmp row_total row_same (key_fields keys) (ties_are keys) row rows in
      let tail_is : tail_of keys (earlier ++ part) ≡ cond last_ties (tail_of keys earlier) 0 + tail_of keys part = tail_joined R (sort_total keys) earlier part found.0 found.1 ends h in
      ap (behind_part keys (start_behind keys earlier) (summary_of keys part) (Some row)) found.1
      ∙ (λ i. record {
        rank = counts_on (length earlier) (length part) (length (earlier ++ part)) size i;
        dense = more_keys first_ties (length (distinct_keys keys earlier)) (length (distinct_keys keys part)) (length (distinct_keys keys (earlier ++ part))) some keys_are i;
        last = sym ends i;
        tail = more_tail last_ties (tail_of keys earlier) (tail_of keys part) (tail_of keys (earlier ++ part)) tail_is i;
      })

  -- the starts of partitions that stand behind earlier rows
  abbrev pub starts_behind : Rows → List Rows → List PartStart
  starts_behind earlier parts = map (λ i. start_behind keys (earlier ++ joined (take i parts))) (range_with_len 0 (length parts))

  pub further : (earlier part : Rows) (parts : List Rows)
      → starts_behind earlier (part ∷ parts) ≡ start_behind keys earlier ∷ starts_behind (earlier ++ part) parts
  further earlier part parts =
      (λ i. start_behind keys (append-nil earlier i) ∷ range_up (λ n. start_behind keys (earlier ++ joined (take n (part ∷ parts)))) 0 (length parts) i)
      ∙ (λ i. start_behind keys earlier ∷ map (λ n. start_behind keys (sym (append_assoc earlier part (joined (take n parts))) i)) (range_with_len 0 (length parts)))

  pub starts_are : (earlier : Rows) (parts : List Rows) → AreSorted keys (earlier ++ joined parts) → starts_on keys (start_behind keys earlier) (map (summary_of keys) parts) ≡ starts_behind earlier parts
  starts_are earlier [] h = refl
  starts_are earlier (part ∷ parts) h =
      let grouped : (earlier ++ part) ++ joined parts ≡ earlier ++ (part ++ joined parts) = append_assoc earlier part (joined parts) in
      let sorted : AreSorted keys ((earlier ++ part) ++ joined parts) = subst (AreSorted keys) (sym grouped) h in
      ap (λ s. start_behind keys earlier ∷ starts_on keys s (map (summary_of keys) parts)) (one_part earlier part (front_ascends (sort_keys_cmp keys) (sort_total keys) (earlier ++ part) (joined parts) sorted))
      ∙ ap (λ starts. start_behind keys earlier ∷ starts) (starts_are (earlier ++ part) parts sorted)
      ∙ sym (further earlier part parts)

  pub starts_size : (s : PartStart) (parts : List PartSummary) → length (starts_on keys s parts) ≡ length parts
  starts_size s [] = refl
  starts_size s (part ∷ parts) = ap suc (starts_size (and_part keys s part) parts)

  -- what the summaries of partitions give
  pub starts_found : (parts : List Rows) (summaries : List Summary) → AreSummariesOf keys parts summaries → starts_on keys nothing (map summary_tree summaries) ≡ starts_of keys parts
  starts_found parts summaries h = ap (starts_on keys nothing) h.0 ∙ starts_are [] parts h.1

  -- ---- a summary

  none_more : {X : Type 0} (p : X → Bool) (xs : List X) → length (filter p xs) ≤ length xs
  none_more p xs = let both = length-filter_both p (λ x. not (p x)) (λ x. refl) xs in omega (arith, both)

  fewer_keys : (ks : List (List Tree)) → length (distinct row_cmp ks) ≤ length ks
  fewer_keys [] = omega arith
  fewer_keys (k ∷ ks) =
      let others = filter (λ l. not (is_eq (row_cmp k l))) (distinct row_cmp ks) in
      let size : length (put row_cmp k others) ≡ suc (length others) = length_permutation (k ∷ others) (put row_cmp k others) (put_permutes row_cmp k others) in
      let kept : length others ≤ length (distinct row_cmp ks) = none_more (λ l. not (is_eq (row_cmp k l))) (distinct row_cmp ks) in
      let rest : length (distinct row_cmp ks) ≤ length ks = fewer_keys ks in
      omega (arith, size, kept, rest)

  keys_fit : (rows : Rows) → length (distinct_keys keys rows) ≤ length rows
  keys_fit rows = let size = length-map rows (key_fields keys) in let fewer = fewer_keys (map (key_fields keys) rows) in omega (arith, size, fewer)

  tail_fits : (rows : Rows) → tail_of keys rows ≤ length rows
  tail_fits rows = of_last (last_row rows)
    where
      of_last : (o : Option (List Tree)) → option_map_or (λ row. length (with_key_of keys row rows)) o 0 ≤ length rows
      of_last None = omega arith
      of_last (Some row) = none_more (λ other. is_eq (sort_keys_cmp keys row other)) rows

  -- what was passed from the first row on
  pub summed : (rows : Rows) (passed : PartStart) (n : ℕ) (first last : Option (List Tree)) → AreSorted keys rows → n < 2 ^ 64 → n ≡ length rows → passed ≡ and_rows keys nothing rows
      → first ≡ first_row rows → last ≡ passed.last → record { rows = n; keys = passed.dense; first = first; last = last; tail = passed.tail } ≡ summary_of keys rows
  summed rows passed n first last sorted fits_word size is first_is last_is =
      let all : passed ≡ start_behind keys rows = is ∙ from_nothing rows sorted in
      let below : length rows < 2 ^ 64 = subst (λ m. m < 2 ^ 64) size fits_word in
      (λ i. record { rows = size i; keys = (all i).dense; first = first_is i; last = (last_is ∙ (λ j. (all j).last)) i; tail = (all i).tail })
      ∙ (λ i. record {
        rows = length rows;
        keys = fits (length (distinct_keys keys rows)) (length rows) (keys_fit rows) below i;
        first = first_row rows;
        last = last_row rows;
        tail = fits (tail_of keys rows) (length rows) (tail_fits rows) below i;
      })
