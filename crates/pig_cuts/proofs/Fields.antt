-- A field of cut rows at its new position, and what counts or picks from a bag whose rows are cut.
use Rattle.std.specs.Prelude.{⊤, ◌≡◌, ◌==◌, ◌+◌, ℕ, pos, suc, Bool, true, false, not, List, [], ◌∷◌, map, length, Option, Some, None, refl}
use Rattle.std.specs.List.{filter, find, list_all, position_or_len}
use Rattle.std.specs.List.Sorted.{IsPermutation}
use Rattle.std.specs.Option.{option_map}
use Rattle.std.proofs.Common.{ap, sym, ◌∙◌, arith, cond, true≢false}
use Rattle.std.proofs.lemmas.Bool.{and_parts, eqb-true}
use Rattle.std.proofs.lemmas.List.{length-map}
use Rattle.std.proofs.lemmas.List.Sorted.{IsPermutation-map, length_permutation}
use Rattle.std.proofs.lemmas.Option.{none-some}
use Rattle.pig_value.proofs.OrderLaws.{row_same, row_total}
use Rattle.pig_value.proofs.TreeLaws.{tuples_back}
use Rattle.pig_value.proofs.list_laws.Bags.{bag_from_permutation, sort_permutes}
use Rattle.pig_value.proofs.list_laws.Listing.{some_same}
use Rattle.pig_value.proofs.list_laws.Permutations.{IsPermutation-filter}
use Rattle.pig_value.specs.Functions.{apply_tree, bag_tree, is_present, length_of, long_of}
use Rattle.pig_value.specs.Kinds.{IsOf}
use Rattle.pig_value.specs.Orders.{bag_of, row_cmp}
use Rattle.pig_value.specs.Trees.{Tree, Tuples, KindTrees, at, k_bag, v_null, v_bool, v_bag, v_listed, tuples_list, tuples_of}
use Rattle.pig_value.specs.declared.functions.Function.TheVariants as f
use Rattle.pig_typed.specs.Operators.{pick, project_tree}
use Rattle.pig_cuts.specs.declared.kept.KeptField.{KeptField}
use Rattle.pig_cuts.specs.Cuts.{Left, NodeCut, cut_bag, cut_field, cut_row, is_whole, left_of, place_of}
use Rattle.pig_cuts.specs.Fits.{leads}

abbrev pub Rows : Type 0
Rows = List (List Tree)

pub whole_is : (left : Left) → is_whole left ≡ true → left ≡ Some None
whole_is (Some None) h = refl
whole_is (Some (Some n)) h = absurd (true≢false (sym h))
whole_is None h = absurd (true≢false (sym h))

pub maps_in_turn : {X Y Z : Type 0} (g : Y → Z) (f : X → Y) (h : X → Z) → ((x : X) → g (f x) ≡ h x) → (xs : List X) → map g (map f xs) ≡ map h xs
maps_in_turn g f h same [] = refl
maps_in_turn g f h same (x ∷ xs) = λ i. same x i ∷ maps_in_turn g f h same xs i

-- sorting before a map changes nothing
pub bag_under : (g : List Tree → List Tree) (rows : Rows) → bag_of (map g (bag_of rows)) ≡ bag_of (map g rows)
bag_under g rows =
    sym (bag_from_permutation row_cmp row_total row_same (map g rows) (map g (bag_of rows)) (IsPermutation-map g rows (bag_of rows) (sort_permutes row_cmp rows)))

-- a null or a bag
abbrev pub IsRows : Tree → Type 0
IsRows v_null = ⊤
IsRows (v_bag rows) = ⊤
IsRows (v_listed rows) = ⊤
IsRows v = ⊥

pub rows_of_kind : (v : Tree) (ks : KindTrees) → IsOf v (k_bag ks) → IsRows v
rows_of_kind v_null ks h = tt
rows_of_kind (v_bag rows) ks h = tt
rows_of_kind (v_listed rows) ks h = tt
rows_of_kind v ks h = absurd h

module _ (cuts : ℕ → NodeCut) (cutter : ℕ → List Tree → List Tree) where
  -- the rows of a node are cut by its cut
  abbrev pub Unfolds : ℕ → Type 0
  Unfolds n = (row : List Tree) → cutter n row ≡ cut_row cutter (cuts n) row

  -- ---- fields

  field_step : (f : KeptField) (kept : List KeptField) (row : List Tree) (p : ℕ) (l : Option ℕ) (b : Bool) → (f.position == p) ≡ b
      → (option_map (λ f. f.like) (find (λ f. f.position == p) kept) ≡ Some l → at (position_or_len (λ f. f.position == p) kept) (cut_row cutter (Some kept) row) ≡ cut_field cutter l (at p row))
      → option_map (λ f. f.like) (cond b (Some f) (find (λ f. f.position == p) kept)) ≡ Some l
      → at (cond (not b) (1 + position_or_len (λ f. f.position == p) kept) 0) (cut_field cutter f.like (at f.position row) ∷ cut_row cutter (Some kept) row) ≡ cut_field cutter l (at p row)
  field_step f kept row p l true e rest h = λ i. cut_field cutter (some_same f.like l h i) (at (eqb-true f.position p e i) row)
  field_step f kept row p l false e rest h =
      let next : 1 + position_or_len (λ f. f.position == p) kept ≡ suc (position_or_len (λ f. f.position == p) kept) = omega arith in
      ap (λ n. at n (cut_field cutter f.like (at f.position row) ∷ cut_row cutter (Some kept) row)) next ∙ rest h

  field_in : (kept : List KeptField) (row : List Tree) (p : ℕ) (l : Option ℕ) → left_of (Some kept) p ≡ Some l
      → at (place_of (Some kept) p) (cut_row cutter (Some kept) row) ≡ cut_field cutter l (at p row)
  field_in [] row p l h = absurd (none-some l h)
  field_in (f ∷ kept) row p l h = field_step f kept row p l (f.position == p) refl (field_in kept row p l) h

  -- a field that is left stands at its place, cut as it is left
  pub field_cut : (own : NodeCut) (row : List Tree) (p : ℕ) (l : Option ℕ) → left_of own p ≡ Some l → at (place_of own p) (cut_row cutter own row) ≡ cut_field cutter l (at p row)
  field_cut None row p l h = ap (λ m. cut_field cutter m (at p row)) (some_same None l h)
  field_cut (Some kept) row p l h = field_in kept row p l h

  pub whole_cut : (own : NodeCut) (row : List Tree) (p : ℕ) → is_whole (left_of own p) ≡ true → at (place_of own p) (cut_row cutter own row) ≡ at p row
  whole_cut own row p h = field_cut own row p None (whole_is (left_of own p) h)

  pub picked_cut : (own : NodeCut) (row : List Tree) (columns : List ℕ) → list_all (λ q. is_whole (left_of own q)) columns ≡ true
      → pick (map (place_of own) columns) (cut_row cutter own row) ≡ pick columns row
  picked_cut own row [] h = refl
  picked_cut own row (q ∷ columns) h =
      let both = and_parts (is_whole (left_of own q)) (list_all (λ q. is_whole (left_of own q)) columns) h in
      λ i. whole_cut own row q both.0 i ∷ picked_cut own row columns both.1 i

  -- ---- bags

  module _ (n : ℕ) (unfolds : Unfolds n) where
    pub columns_cut : (columns : List ℕ) (single : Bool) (v : Tree) → IsRows v → list_all (λ q. is_whole (left_of (cuts n) q)) columns ≡ true
        → project_tree (map (place_of (cuts n)) columns) single (cut_bag (cutter n) v) ≡ project_tree columns single v
    columns_cut columns single v_null is h = refl
    columns_cut columns single (v_bag rs) is h =
        ap (λ rows. bag_tree (map (pick (map (place_of (cuts n)) columns)) rows)) (tuples_back (bag_of (map (cutter n) (tuples_list rs))))
        ∙ ap (λ rows. v_bag (tuples_of rows)) (bag_under (pick (map (place_of (cuts n)) columns)) (map (cutter n) (tuples_list rs)))
        ∙ ap bag_tree (maps_in_turn (pick (map (place_of (cuts n)) columns)) (cutter n) (pick columns)
        (λ row. ap (pick (map (place_of (cuts n)) columns)) (unfolds row) ∙ picked_cut (cuts n) row columns h) (tuples_list rs))
    columns_cut columns single (v_listed rs) is h =
        ap (λ rows. v_listed (tuples_of (map (pick (map (place_of (cuts n)) columns)) rows))) (tuples_back (map (cutter n) (tuples_list rs)))
        ∙ ap (λ rows. v_listed (tuples_of rows)) (maps_in_turn (pick (map (place_of (cuts n)) columns)) (cutter n) (pick columns)
        (λ row. ap (pick (map (place_of (cuts n)) columns)) (unfolds row) ∙ picked_cut (cuts n) row columns h) (tuples_list rs))
    columns_cut columns single v is h = absurd is

    -- what goes by the rows of a bag, in any order, and not by what is cut of them
    module _ (call : Tree → Tree) (from : Rows → Tree) (of_bag : (rs : Tuples) → call (v_bag rs) ≡ from (tuples_list rs)) (of_listed : (rs : Tuples) → call (v_listed rs) ≡ from (tuples_list rs))
        (permuted : (xs ys : Rows) → IsPermutation xs ys → from xs ≡ from ys) (cut : (rows : Rows) → from (map (cutter n) rows) ≡ from rows) where
      pub call_cut : (v : Tree) → IsRows v → call (cut_bag (cutter n) v) ≡ call v
      call_cut v_null is = refl
      call_cut (v_bag rs) is =
          let cut_rs = map (cutter n) (tuples_list rs) in
          of_bag (tuples_of (bag_of cut_rs)) ∙ ap from (tuples_back (bag_of cut_rs))
          ∙ sym (permuted cut_rs (bag_of cut_rs) (sort_permutes row_cmp cut_rs))
          ∙ cut (tuples_list rs) ∙ sym (of_bag rs)
      call_cut (v_listed rs) is = of_listed (tuples_of (map (cutter n) (tuples_list rs))) ∙ ap from (tuples_back (map (cutter n) (tuples_list rs))) ∙ cut (tuples_list rs) ∙ sym (of_listed rs)
      call_cut v is = absurd is

    first_cut : leads (cuts n) ≡ true → (row : List Tree) → at 0 (cutter n row) ≡ at 0 row
    first_cut h row =
        let both = and_parts (place_of (cuts n) 0 == 0) (is_whole (left_of (cuts n) 0)) h in
        ap (at 0) (unfolds row) ∙ ap (λ m. at m (cut_row cutter (cuts n) row)) (sym (eqb-true (place_of (cuts n) 0) 0 both.0)) ∙ whole_cut (cuts n) row 0 both.1

    -- ---- COUNT, and what counts rows

    length_same : {X : Type 0} (xs ys : List X) → IsPermutation xs ys → length_of xs ≡ length_of ys
    length_same xs ys h = ap (λ m. long_of (pos m)) (sym (length_permutation xs ys h))

    pub count_cut : leads (cuts n) ≡ true → (v : Tree) → IsRows v → apply_tree f.Count (cut_bag (cutter n) v ∷ []) ≡ apply_tree f.Count (v ∷ [])
    count_cut h =
        call_cut (λ v. apply_tree f.Count (v ∷ [])) (λ rows. length_of (filter is_present (map (at 0) rows))) (λ rs. refl) (λ rs. refl)
        (λ xs ys same. length_same (filter is_present (map (at 0) xs)) (filter is_present (map (at 0) ys))
        (IsPermutation-filter is_present (map (at 0) xs) (map (at 0) ys) (IsPermutation-map (at 0) xs ys same)))
        (λ rows. ap (λ vs. length_of (filter is_present vs)) (maps_in_turn (at 0) (cutter n) (at 0) (first_cut h) rows))

    pub count_star_cut : (v : Tree) → IsRows v → apply_tree f.CountStar (cut_bag (cutter n) v ∷ []) ≡ apply_tree f.CountStar (v ∷ [])
    count_star_cut =
        call_cut (λ v. apply_tree f.CountStar (v ∷ [])) (λ rows. length_of (map (at 0) rows)) (λ rs. refl) (λ rs. refl)
        (λ xs ys same. length_same (map (at 0) xs) (map (at 0) ys) (IsPermutation-map (at 0) xs ys same))
        (λ rows. ap (λ m. long_of (pos m)) (length-map (map (cutter n) rows) (at 0) ∙ length-map rows (cutter n) ∙ sym (length-map rows (at 0))))

    pub size_cut : (v : Tree) → IsRows v → apply_tree f.Size (cut_bag (cutter n) v ∷ []) ≡ apply_tree f.Size (v ∷ [])
    size_cut =
        call_cut (λ v. apply_tree f.Size (v ∷ [])) length_of (λ rs. refl) (λ rs. refl) length_same (λ rows. ap (λ m. long_of (pos m)) (length-map rows (cutter n)))

    pub isempty_cut : (v : Tree) → IsRows v → apply_tree f.IsEmpty (cut_bag (cutter n) v ∷ []) ≡ apply_tree f.IsEmpty (v ∷ [])
    isempty_cut =
        call_cut (λ v. apply_tree f.IsEmpty (v ∷ [])) (λ rows. v_bool (length rows == 0)) (λ rs. refl) (λ rs. refl)
        (λ xs ys same. ap (λ m. v_bool (m == 0)) (sym (length_permutation xs ys same))) (λ rows. ap (λ m. v_bool (m == 0)) (length-map rows (cutter n)))
