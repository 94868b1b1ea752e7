-- Operators that go row by row make of cut rows what they make of the rows, cut.
use Rattle.std.specs.Prelude.{◌≡◌, ℕ, Bool, true, false, ◌&&◌, List, [], ◌∷◌, ◌++◌, map, length, Some, None, refl}
use Rattle.std.specs.List.{AllByRecursion, filter, flat_map, list_all, range_with_len}
use Rattle.std.specs.List.Sorted.{IsPermutation}
use Rattle.std.proofs.Common.{ap, sym, ◌∙◌, cond, true≢false}
use Rattle.std.proofs.lemmas.Bool.{and_parts}
use Rattle.std.proofs.lemmas.List.{length-map}
use Rattle.std.proofs.lemmas.List.Folds.{flat_map-map}
use Rattle.std.proofs.lemmas.List.Sorted.{IsPermutation-sym}
use Rattle.pig_value.proofs.OrderLaws.{row_same, row_total}
use Rattle.pig_value.proofs.list_laws.Bags.{bag_from_permutation, sort_permutes}
use Rattle.pig_value.proofs.list_laws.Listing.{each_weaker, flat_map_each, map-flat_map}
use Rattle.pig_value.proofs.list_laws.Permutations.{IsPermutation-flat_map, IsPermutation-same, along_permutation}
use Rattle.pig_value.specs.FieldRows.{row_of}
use Rattle.pig_value.specs.Lines.{lines}
use Rattle.pig_value.specs.Orders.{bag_of, row_cmp}
use Rattle.pig_value.specs.Trees.{Tree, at}
use Rattle.pig_value.specs.declared.inputs.Column.{Column}
use Rattle.pig_value.specs.declared.inputs.Input.{Input}
use Rattle.pig_typed.specs.Blocks.{foreach_all, foreach_rows, item_lists, steps_values}
use Rattle.pig_typed.specs.Evaluation.{passes}
use Rattle.pig_typed.specs.Operators.{pick}
use Rattle.pig_typed.specs.Products.{product}
use Rattle.pig_typed.specs.Typed.{Typed, TypedBlock}
use Rattle.pig_plan.proofs.Meanings.{each_both}
use Rattle.pig_plan.specs.Operators.{filter_rows, load_rows, pieces_of}
use Rattle.pig_cuts.specs.Cuts.{NodeCut, cut_row}
use Rattle.pig_cuts.specs.Fits.{fit, fit_item, sees}
use Rattle.pig_cuts.specs.Plans.{all_stay, cut_unless, fit_block, flattens_stay, items_kept, items_see, load_kept, staying, steps_see}
use Rattle.pig_cuts.proofs.Fields.{Rows, bag_under, maps_in_turn}
use Rattle.pig_cuts.proofs.Fitted.{Suits, items_fit, passes_fit, steps_fit}
use Rattle.pig_cuts.proofs.Staying.{IsWide, pick_all, product_left, staying_all, staying_map, whole_is_pick}

pub map_itself : {X : Type 0} (xs : List X) → map (λ x. x) xs ≡ xs
map_itself [] = refl
map_itself (x ∷ xs) = ap (λ more. x ∷ more) (map_itself xs)

filter_is_flat : {X : Type 0} (p : X → Bool) (xs : List X) → filter p xs ≡ flat_map (λ x. cond (p x) (x ∷ []) []) xs
filter_is_flat p [] = refl
filter_is_flat p (x ∷ xs) = by_test (p x) (filter_is_flat p xs)
  where
    by_test : (b : Bool) → filter p xs ≡ flat_map (λ x. cond (p x) (x ∷ []) []) xs → cond b (x ∷ filter p xs) (filter p xs) ≡ cond b (x ∷ []) [] ++ flat_map (λ x. cond (p x) (x ∷ []) []) xs
    by_test true h = ap (λ more. x ∷ more) h
    by_test false h = h

module _ (cutter : ℕ → List Tree → List Tree) where
  -- rows cut, as a bag where they are
  abbrev pub cut_all : NodeCut → Rows → Rows
  cut_all None rows = rows
  cut_all (Some kept) rows = bag_of (map (cut_row cutter (Some kept)) rows)

  pub cut_all_is : (own : NodeCut) (rows : Rows) → IsPermutation (map (cut_row cutter own) rows) (cut_all own rows)
  cut_all_is None rows = IsPermutation-same (map (λ row. row) rows) rows (map_itself rows)
  cut_all_is (Some kept) rows = sort_permutes row_cmp (map (cut_row cutter (Some kept)) rows)

  pub cut_of_bag : (own : NodeCut) (rows : Rows) → cut_all own (bag_of rows) ≡ bag_of (map (cut_row cutter own) rows)
  cut_of_bag None rows = ap bag_of (sym (map_itself rows))
  cut_of_bag (Some kept) rows = bag_under (cut_row cutter (Some kept)) rows

  -- what is made of each row
  pub flat_cut : (own left : NodeCut) (new old : List Tree → Rows) (rows : Rows) → AllByRecursion (λ row. new (cut_row cutter own row) ≡ map (cut_row cutter left) (old row)) rows
      → bag_of (flat_map new (cut_all own rows)) ≡ cut_all left (bag_of (flat_map old rows))
  flat_cut own left new old rows h =
      sym (bag_from_permutation row_cmp row_total row_same (flat_map new (map (cut_row cutter own) rows)) (flat_map new (cut_all own rows))
      (IsPermutation-flat_map new (map (cut_row cutter own) rows) (cut_all own rows) (cut_all_is own rows)))
      ∙ ap bag_of (flat_map-map new (cut_row cutter own) rows
      ∙ flat_map_each (λ row. new (cut_row cutter own row)) (λ row. map (cut_row cutter left) (old row)) rows h
      ∙ sym (map-flat_map (cut_row cutter left) old rows))
      ∙ sym (cut_of_bag left (flat_map old rows))

  module _ (cuts : ℕ → NodeCut) (own : NodeCut) where
    abbrev pub AllSuit : Rows → Type 0
    AllSuit rows = AllByRecursion (Suits cuts cutter own) rows

    -- ---- FILTER and ASSERT

    kept_or_not : (b c : Bool) (row : List Tree) → b ≡ c → cond b (cut_row cutter own row ∷ []) [] ≡ map (cut_row cutter own) (cond c (row ∷ []) [])
    kept_or_not true true row e = refl
    kept_or_not false false row e = refl
    kept_or_not true false row e = absurd (true≢false e)
    kept_or_not false true row e = absurd (true≢false (sym e))

    pub filter_cut : (test : Typed) (rows : Rows) → sees cuts own test ≡ true → AllSuit rows
        → bag_of (filter_rows (fit cuts own test) (cut_all own rows)) ≡ cut_all own (bag_of (filter_rows test rows))
    filter_cut test rows h suit =
        ap bag_of (filter_is_flat (passes (fit cuts own test)) (cut_all own rows))
        ∙ flat_cut own own (λ row. cond (passes (fit cuts own test) row) (row ∷ []) []) (λ row. cond (passes test row) (row ∷ []) []) rows
        (each_weaker (Suits cuts cutter own) _ (λ row s. kept_or_not (passes (fit cuts own test) (cut_row cutter own row)) (passes test row) row (passes_fit cuts cutter own row s test h)) rows suit)
        ∙ ap (λ found. cut_all own (bag_of found)) (sym (filter_is_flat (passes test) rows))

    all_mapped : (test : Typed) (rows : Rows) → sees cuts own test ≡ true → AllSuit rows → list_all (passes (fit cuts own test)) (map (cut_row cutter own) rows) ≡ list_all (passes test) rows
    all_mapped test [] h suit = refl
    all_mapped test (row ∷ rows) h suit = λ i. passes_fit cuts cutter own row suit.0 test h i && all_mapped test rows h suit.1 i

    pub met_cut : (test : Typed) (rows : Rows) → sees cuts own test ≡ true → AllSuit rows → list_all (passes (fit cuts own test)) (cut_all own rows) ≡ list_all (passes test) rows
    met_cut test rows h suit =
        along_permutation (list_all (passes (fit cuts own test))) (λ x xs ys e. ap (λ b. passes (fit cuts own test) x && b) e) (λ x y zs. swapped (passes (fit cuts own test) x) (passes (fit cuts own test) y) (list_all (passes (fit cuts own test)) zs))
        (cut_all own rows) (map (cut_row cutter own) rows) (IsPermutation-sym (map (cut_row cutter own) rows) (cut_all own rows) (cut_all_is own rows))
        ∙ all_mapped test rows h suit
      where
        swapped : (a b c : Bool) → (a && (b && c)) ≡ (b && (a && c))
        swapped true true c = refl
        swapped true false c = refl
        swapped false true c = refl
        swapped false false c = refl

    -- ---- FOREACH

    module _ (marks : List Bool) (block : TypedBlock) where
      abbrev pub IsWideOn : List Tree → Type 0
      IsWideOn row = AllByRecursion (IsWide (λ item. item_lists item row (steps_values block.steps row []))) block.items

      abbrev left : NodeCut
      left = cut_unless (all_stay marks) (items_kept marks block.items)

      made_left : (b : Bool) → all_stay marks ≡ b → flattens_stay marks block ≡ true → (row : List Tree) → IsWideOn row
          → product (map (λ item. item_lists item row (steps_values block.steps row [])) (staying marks block.items)) ≡ map (cut_row cutter (cut_unless b (items_kept marks block.items))) (foreach_rows block row)
      made_left true e stay row wide = ap (λ items. product (map (λ item. item_lists item row (steps_values block.steps row [])) items)) (staying_all marks block.items e) ∙ sym (map_itself (foreach_rows block row))
      made_left false e stay row wide = product_left (λ item. item_lists item row (steps_values block.steps row [])) cutter marks block.items wide stay

      row_made : (steps_see cuts own block && (items_see cuts own marks block && flattens_stay marks block)) ≡ true → (row : List Tree) → Suits cuts cutter own row → IsWideOn row
          → foreach_rows (fit_block cuts own marks block) (cut_row cutter own row) ≡ map (cut_row cutter left) (foreach_rows block row)
      row_made h row suit wide =
          let both = and_parts (steps_see cuts own block) (items_see cuts own marks block && flattens_stay marks block) h in
          let two = and_parts (items_see cuts own marks block) (flattens_stay marks block) both.1 in
          ap (λ locals. product (map (λ item. item_lists item (cut_row cutter own row) locals) (map (fit_item cuts own) (staying marks block.items)))) (steps_fit cuts cutter own row suit block.steps [] both.0)
          ∙ ap product (items_fit cuts cutter own row suit (staying marks block.items) (steps_values block.steps row []) two.0)
          ∙ made_left (all_stay marks) refl two.1 row wide

      pub foreach_cut : (rows : Rows) → (steps_see cuts own block && (items_see cuts own marks block && flattens_stay marks block)) ≡ true → AllSuit rows → AllByRecursion IsWideOn rows
          → bag_of (foreach_all (fit_block cuts own marks block) (cut_all own rows)) ≡ cut_all left (bag_of (foreach_all block rows))
      foreach_cut rows h suit wide =
          flat_cut own left (foreach_rows (fit_block cuts own marks block)) (foreach_rows block) rows
          (each_both (Suits cuts cutter own) IsWideOn _ (λ row s w. row_made h row s w) rows suit wide)

  -- ---- LOAD

  row_left : (marks : List Bool) (columns : List Column) (delim : ℕ) (line : List ℕ)
      → row_of (staying marks columns) delim line ≡ cut_row cutter (Some (load_kept marks (length columns))) (row_of columns delim line)
  row_left marks columns delim line =
      let row = row_of columns delim line in
      let as_many : length row ≡ length columns = length-map columns _ in
      sym (staying_map _ marks columns)
      ∙ ap (staying marks) (sym (pick_all row) ∙ ap (λ n. pick (range_with_len 0 n) row) as_many)
      ∙ staying_map (λ n. at n row) marks (range_with_len 0 (length columns))
      ∙ sym (whole_is_pick cutter (staying marks (range_with_len 0 (length columns))) row)

  pub load_cut : (inputs : List Input) (path : List ℕ) (delim : ℕ) (marks : List Bool) (columns : List Column) (b : Bool) → all_stay marks ≡ b
      → bag_of (load_rows inputs path delim (staying marks columns)) ≡ cut_all (cut_unless b (load_kept marks (length columns))) (bag_of (load_rows inputs path delim columns))
  load_cut inputs path delim marks columns true e = ap (λ cs. bag_of (load_rows inputs path delim cs)) (staying_all marks columns e)
  load_cut inputs path delim marks columns false e =
      let cut = cut_row cutter (Some (load_kept marks (length columns))) in
      ap bag_of ((λ i. flat_map (λ piece. sym (maps_in_turn cut (row_of columns delim) (row_of (staying marks columns) delim) (λ line. sym (row_left marks columns delim line)) (lines piece)) i) (pieces_of inputs path))
      ∙ sym (map-flat_map cut (λ piece. map (row_of columns delim) (lines piece)) (pieces_of inputs path)))
      ∙ sym (cut_of_bag (Some (load_kept marks (length columns))) (load_rows inputs path delim columns))
