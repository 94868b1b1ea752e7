-- GROUP and COGROUP make of cut bags their rows, cut: each bag has the rows of its input, cut.
use Rattle.std.specs.Prelude.{◌≡◌, ◌+◌, ℕ, suc, Bool, true, false, not, ◌&&◌, List, [], ◌∷◌, ◌++◌, map, length, Some, None, refl, if◌then◌else◌}
use Rattle.std.specs.List.{AllByRecursion, flat_map, range_with_len}
use Rattle.std.specs.Option.{option_map}
use Rattle.std.proofs.Common.{ap, sym, ◌∙◌, arith, append_assoc}
use Rattle.std.proofs.lemmas.List.{length-append}
use Rattle.pig_value.proofs.TreeLaws.{tuples_back}
use Rattle.pig_value.proofs.list_laws.Listing.{each_of_all, flat_map_each, map-flat_map}
use Rattle.pig_value.specs.Functions.{bag_tree}
use Rattle.pig_value.specs.Orders.{bag_of}
use Rattle.pig_value.specs.Trees.{Tree, at}
use Rattle.pig_plan.specs.ByKey.{all_there, alone, as_bag, bags_of, cogroup_of, group_of, holds_null, is_empty, kept_where}
use Rattle.pig_cuts.specs.Cuts.{NodeCut, cut_field, cut_row}
use Rattle.pig_cuts.specs.Plans.{bags_kept, group_kept}
use Rattle.pig_cuts.proofs.Entries.{AreBags, Placed, all_placed, alone_bags, alone_cut, cut_bags, cut_empty, owned, owns, there_cut}
use Rattle.pig_cuts.proofs.Fields.{Rows, Unfolds}
use Rattle.pig_cuts.proofs.Rowwise.{map_itself}
use Rattle.pig_cuts.proofs.Staying.{at_behind}

module _ (cutter : ℕ → List Tree → List Tree) (cuts : ℕ → NodeCut) (ins : List ℕ) (unfolds : AllByRecursion (Unfolds cuts cutter) ins) where
  abbrev cut : (ℕ → Rows) → ℕ → Rows
  cut bags = cut_bags cutter cuts ins bags

  -- the field of a bag
  bag_left : (i : ℕ) → Unfolds cuts cutter i → (rows : Rows) → bag_of rows ≡ rows → (o : NodeCut) → cuts i ≡ o
      → cut_field cutter (option_map (λ kept. i) o) (as_bag rows) ≡ as_bag (bag_of (map (cut_row cutter o) rows))
  bag_left i u rows once None e = ap as_bag (sym (ap bag_of (map_itself rows) ∙ once))
  bag_left i u rows once (Some kept) e =
      ap (λ found. bag_tree (map (cutter i) found)) (tuples_back rows)
      ∙ (λ d. as_bag (bag_of (map (λ row. (u row ∙ ap (λ own. cut_row cutter own row) e) d) rows)))

  abbrev left_fields : ℕ → List ℕ → List Tree → List Tree
  left_fields n more row = map (λ f. cut_field cutter f.like (at f.position row)) (bags_kept cuts n more)

  bags_left : (bags : ℕ → Rows) → AreBags cutter cuts ins bags → (m : ℕ) (more : List ℕ) → Placed cutter cuts ins m more → AllByRecursion (Unfolds cuts cutter) more → (front : List Tree) (n : ℕ) → length front ≡ n
      → left_fields n more (front ++ map (λ j. as_bag (bags j)) (range_with_len m (length more))) ≡ map (λ j. as_bag (cut bags j)) (range_with_len m (length more))
  bags_left bags are m [] placed u front n h = refl
  bags_left bags are m (i ∷ more) placed u front n h =
      let rest = map (λ j. as_bag (bags j)) (range_with_len (m + 1) (length more)) in
      let zero_more : n ≡ n + 0 = omega arith in
      let longer : length (front ++ as_bag (bags m) ∷ []) ≡ suc n = length-append front (as_bag (bags m) ∷ []) ∙ ap (λ k. k + 1) h ∙ (let e : n + 1 ≡ suc n = omega arith in e) in
      λ d. (ap (λ k. cut_field cutter (option_map (λ kept. i) (cuts i)) (at k (front ++ as_bag (bags m) ∷ rest))) zero_more
      ∙ ap (cut_field cutter (option_map (λ kept. i) (cuts i))) (at_behind front (as_bag (bags m) ∷ rest) n 0 h)
      ∙ bag_left i u.0 (bags m) (are m) (cuts i) refl
      ∙ ap (λ own. as_bag (bag_of (map (cut_row cutter own) (bags m)))) (sym (owned cutter cuts ins m i placed.0))) d
      ∷ (ap (left_fields (suc n) more) (sym (append_assoc front (as_bag (bags m) ∷ []) rest)) ∙ bags_left bags are (m + 1) more placed.1 u.1 (front ++ as_bag (bags m) ∷ []) (suc n) longer) d

  abbrev left_row : List Tree → List Tree
  left_row = cut_row cutter (Some (group_kept cuts ins))

  row_left : (k : Tree) (bags : ℕ → Rows) → AreBags cutter cuts ins bags → bags_of (length ins) k (cut bags) ≡ left_row (bags_of (length ins) k bags)
  row_left k bags are = ap (λ fields. k ∷ fields) (sym (bags_left bags are 0 ins (all_placed cutter cuts ins) unfolds (k ∷ []) 1 refl))

  kept_left : (b c : Bool) (x y : List Tree) → b ≡ c → x ≡ left_row y → kept_where b x ≡ map left_row (kept_where c y)
  kept_left b c x y e h = (λ d. kept_where (e d) (h d)) ∙ by_test c
    where
      by_test : (b : Bool) → kept_where b (left_row y) ≡ map left_row (kept_where b y)
      by_test true = refl
      by_test false = refl

  chosen_left : (b : Bool) (us vs xs ys : Rows) → us ≡ map left_row xs → vs ≡ map left_row ys → (if b then us else vs) ≡ map left_row (if b then xs else ys)
  chosen_left true us vs xs ys h g = h
  chosen_left false us vs xs ys h g = g

  pub group_cut : (i : ℕ) → ins ≡ i ∷ [] → (k : Tree) (bags : ℕ → Rows) → AreBags cutter cuts ins bags → group_of k (cut bags) ≡ map left_row (group_of k bags)
  group_cut i one k bags are =
      ap (λ row. row ∷ []) (ap (λ n. bags_of n k (cut bags)) (sym (ap length one)) ∙ row_left k bags are ∙ ap (λ n. left_row (bags_of n k bags)) (ap length one))

  pub cogroup_cut : (inner : List Bool) (k : Tree) (bags : ℕ → Rows) → AreBags cutter cuts ins bags → cogroup_of inner (length ins) k (cut bags) ≡ map left_row (cogroup_of inner (length ins) k bags)
  cogroup_cut inner k bags are =
      let n = length ins in
      let numbers = range_with_len 0 n in
      let apart = λ (bs : ℕ → Rows) (i : ℕ). kept_where (not (is_empty (bs i)) && all_there inner 0 (alone i bs)) (bags_of n k (alone i bs)) in
      chosen_left (holds_null k) (flat_map (apart (cut bags)) numbers) (kept_where (all_there inner 0 (cut bags)) (bags_of n k (cut bags)))
      (flat_map (apart bags) numbers) (kept_where (all_there inner 0 bags) (bags_of n k bags))
      (flat_map_each (apart (cut bags)) (λ i. map left_row (apart bags i)) numbers
      (each_of_all _ (λ i. kept_left (not (is_empty (cut bags i)) && all_there inner 0 (alone i (cut bags))) (not (is_empty (bags i)) && all_there inner 0 (alone i bags))
      (bags_of n k (alone i (cut bags))) (bags_of n k (alone i bags))
      (λ d. not (cut_empty (cut_row cutter (owns cutter cuts ins i)) (bags i) d) && (ap (all_there inner 0) (alone_cut cutter cuts ins i bags) ∙ there_cut cutter cuts ins inner 0 (alone i bags)) d)
      (ap (bags_of n k) (alone_cut cutter cuts ins i bags) ∙ row_left k (alone i bags) (alone_bags cutter cuts ins i bags are))) numbers)
      ∙ sym (map-flat_map left_row (apart bags) numbers))
      (kept_left (all_there inner 0 (cut bags)) (all_there inner 0 bags) (bags_of n k (cut bags)) (bags_of n k bags) (there_cut cutter cuts ins inner 0 bags) (row_left k bags are))
