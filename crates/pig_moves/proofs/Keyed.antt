-- A FILTER on a GROUP by one key, whose condition names the key alone, keeps the groups of the rows that a FILTER below it keeps.
use Rattle.std.specs.Prelude.{◌≡◌, ◌<◌, ◌==◌, ◌&&◌, ◌||◌, not, ℕ, Bool, true, false, List, [], ◌∷◌, map, refl}
use Rattle.std.proofs.Common.{ap, arith, sym, ◌∙◌, true≢false, append-nil}
use Rattle.std.specs.List.{AllByRecursion, filter, flat_map}
use Rattle.std.specs.Ordering.{is_eq}
use Rattle.std.proofs.lemmas.Bool.{eqb-false}
use Rattle.pig_value.proofs.OrderLaws.{row_total, tree_same, tree_total}
use Rattle.pig_value.proofs.list_laws.Bags.{bag_once, eq_is}
use Rattle.pig_value.proofs.list_laws.Distinct.{filter-distinct}
use Rattle.pig_value.proofs.list_laws.Listing.{filter-filter, filter-map, flat_map_where}
use Rattle.pig_value.specs.Gathering.{Entry, with_key}
use Rattle.pig_value.specs.Orders.{bag_of, row_cmp, tree_cmp}
use Rattle.pig_value.specs.Sorts.{distinct}
use Rattle.pig_value.specs.Trees.{Tree, at}
use Rattle.pig_typed.specs.Evaluation.{ev, passes}
use Rattle.pig_typed.specs.Operators.{is_true}
use Rattle.pig_typed.specs.Typed.{Typed, x_field}
use Rattle.pig_plan.proofs.Moved.{puts}
use Rattle.pig_plan.proofs.Seen.{seen}
use Rattle.pig_plan.specs.ByKey.{as_bag, rows_of}
use Rattle.pig_plan.specs.Moves.{fields_in, put}
use Rattle.pig_plan.specs.Operators.{Setting, filter_rows, group_rows}
use Rattle.pig_plan.specs.Plans.{Keyed, p_group}
use Rattle.pig_moves.specs.Pushed.{from_key, hands_key, names_bag}
use Rattle.pig_moves.proofs.Passing.{Rows, filter_goes_in, filter_sorted}

and_same : (a b : Bool) → (b ≡ true → a ≡ true) → (a && b) ≡ b
and_same true b h = refl
and_same false true h = absurd (true≢false (sym (h refl)))
and_same false false h = refl

-- of the two columns of a GROUP's rows, those that are no bags are its key
all_keys : (fields : List ℕ) → AllByRecursion (λ n. n < 2) fields → names_bag fields ≡ false → AllByRecursion (λ n. n ≡ 0) fields
all_keys [] there none = tt
all_keys (n ∷ fields) there none = by_test (n == 1) refl none (λ h. all_keys fields there.1 h)
  where
    by_test : (b : Bool) → (n == 1) ≡ b → (b || names_bag fields) ≡ false → (names_bag fields ≡ false → AllByRecursion (λ k. k ≡ 0) fields) → AllByRecursion (λ k. k ≡ 0) (n ∷ fields)
    by_test true is h rest = absurd (true≢false h)
    by_test false is h rest = let here = there.0 in let other = eqb-false n 1 is in (omega (arith, here, other), rest h)

-- a condition that names the key alone
module _ (c : Typed) (names_it : AllByRecursion (λ n. n ≡ 0) (fields_in c)) where
  module _ (e : Typed) (row made : List Tree) (key : ev e row [] ≡ at 0 made) where
    all_given : (fields : List ℕ) → AllByRecursion (λ n. n ≡ 0) fields → AllByRecursion (λ n. ev e row [] ≡ at n made) fields
    all_given [] h = tt
    all_given (n ∷ fields) h = (key ∙ ap (λ k. at k made) (sym h.0), all_given fields h.1)

    goes_by_key : passes (put (λ n. e) c) row ≡ passes c made
    goes_by_key = ap is_true (puts (λ n. e) row made [] c (all_given (fields_in c) names_it))

  -- what the condition says of a key
  abbrev tells : Tree → Bool
  tells k = passes c (k ∷ [])

  made_tells : (k bag : Tree) → passes c (k ∷ bag ∷ []) ≡ tells k
  made_tells k bag =
      sym (goes_by_key (x_field 0) (k ∷ []) (k ∷ bag ∷ []) refl) ∙ goes_by_key (x_field 0) (k ∷ []) (k ∷ []) refl

module _ (e c : Typed) (names_it : AllByRecursion (λ n. n ≡ 0) (fields_in c)) where
  abbrev below : Typed
  below = put (λ n. e) c

  abbrev told : Tree → Bool
  told k = tells c names_it k

  row_tells : (row : List Tree) → told (ev e row []) ≡ passes below row
  row_tells row = sym (goes_by_key c names_it e row (ev e row [] ∷ []) refl)

  abbrev entry : List Tree → Entry
  entry row = record { key = ev e row []; input = 0; row = row }

  abbrev group : List Entry → Tree → Rows
  group es k = (k ∷ as_bag (rows_of (with_key tree_cmp (λ x. x.key) k es) 0) ∷ []) ∷ []

  abbrev groups : List Entry → Rows
  groups es = flat_map (group es) (distinct tree_cmp (map (λ x. x.key) es))

  abbrev kept : List Entry → List Entry
  kept es = filter (λ x. told x.key) es

  same_group : (es : List Entry) (k : Tree) → told k ≡ true → group es k ≡ group (kept es) k
  same_group es k h =
      ap (λ xs. (k ∷ as_bag (rows_of xs 0) ∷ []) ∷ [])
      (sym (filter-filter (λ x. is_eq (tree_cmp x.key k)) (λ x. told x.key) es
      ∙ (λ i. filter (λ x. and_same (told x.key) (is_eq (tree_cmp x.key k)) (λ t. ap told (tree_same x.key k (eq_is (tree_cmp x.key k) t)) ∙ h) i) es)))

  groups_kept : (es : List Entry) → filter (passes c) (groups es) ≡ groups (kept es)
  groups_kept es =
      filter_goes_in (group es) (passes c) told (λ k. (made_tells c names_it k (as_bag (rows_of (with_key tree_cmp (λ x. x.key) k es) 0)), tt)) (distinct tree_cmp (map (λ x. x.key) es))
      ∙ flat_map_where told (group es) (group (kept es)) (same_group es) (distinct tree_cmp (map (λ x. x.key) es))
      ∙ ap (flat_map (group (kept es)))
      (filter-distinct tree_cmp tree_total tree_same told (map (λ x. x.key) es) ∙ ap (distinct tree_cmp) (filter-map told (λ x. x.key) es))

  kept_entries : (rows : Rows) → kept (map entry rows) ≡ map entry (filter (passes below) rows)
  kept_entries rows =
      filter-map (λ x. told x.key) entry rows ∙ ap (map entry) (λ i. filter (λ row. row_tells row i) rows)

  abbrev setting : Setting
  setting = record { inputs = []; kept = λ n. []; width = λ n. 0; sorted = λ n. false }

  grouped_is : (k : Keyed) → k.keys ≡ e ∷ [] → (f : ℕ → Rows) → group_rows (k ∷ []) f ≡ groups (map entry (f k.input))
  grouped_is k is f =
      (λ i. group_rows (record { input = k.input; keys = is i; inner = k.inner } ∷ []) f) ∙ ap groups (append-nil (map entry (f k.input)))

  passes_groups : (k : Keyed) (i : ℕ) → k.keys ≡ e ∷ [] → (rows : Rows)
      → bag_of (group_rows (record { input = i; keys = k.keys; inner = k.inner } ∷ []) (λ n. bag_of (filter_rows below rows))) ≡ bag_of (filter_rows c (bag_of (group_rows (k ∷ []) (λ n. rows))))
  passes_groups k i is rows =
      let over : Keyed = record { input = i; keys = k.keys; inner = k.inner } in
      seen (λ n. bag_of (filter (passes below) rows)) (λ n. filter (passes below) rows) setting 0 (p_group (record { input = i; keys = k.keys; inner = k.inner } ∷ [])) refl
      (bag_once row_cmp row_total (filter (passes below) rows), tt)
      ∙ ap bag_of (grouped_is (record { input = i; keys = k.keys; inner = k.inner }) is (λ n. filter (passes below) rows)
      ∙ ap groups (sym (kept_entries rows)) ∙ sym (groups_kept (map entry rows)) ∙ ap (filter (passes c)) (sym (grouped_is k is (λ n. rows))))
      ∙ sym (filter_sorted (passes c) (group_rows (k ∷ []) (λ n. rows)))

module _ (k : Keyed) (i : ℕ) (c : Typed) (there : AllByRecursion (λ n. n < 2) (fields_in c)) (rows : Rows) where
  abbrev Goal : List Typed → Type 0
  Goal keys = bag_of (group_rows (record { input = i; keys = keys; inner = k.inner } ∷ []) (λ n. bag_of (filter_rows (put (from_key keys) c) rows)))
      ≡ bag_of (filter_rows c (bag_of (group_rows (record { input = k.input; keys = keys; inner = k.inner } ∷ []) (λ n. rows))))

  no_bag : (b : Bool) → not b ≡ true → b ≡ false
  no_bag false h = refl
  no_bag true h = absurd (true≢false (sym h))

  by_keys : (keys : List Typed) → hands_key keys c ≡ true → Goal keys
  by_keys [] g = absurd (true≢false (sym g))
  by_keys (e ∷ []) g =
      passes_groups e c (all_keys (fields_in c) there (no_bag (names_bag (fields_in c)) g)) (record { input = k.input; keys = e ∷ []; inner = k.inner }) i refl rows
  by_keys (e ∷ d ∷ es) g = absurd (true≢false (sym g))

  pub filter_below_group : hands_key k.keys c ≡ true
      → bag_of (group_rows (record { input = i; keys = k.keys; inner = k.inner } ∷ []) (λ n. bag_of (filter_rows (put (from_key k.keys) c) rows))) ≡ bag_of (filter_rows c (bag_of (group_rows (k ∷ []) (λ n. rows))))
  filter_below_group h = by_keys k.keys h
