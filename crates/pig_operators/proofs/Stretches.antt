-- A group of a sorted run: its entries have one key, and what stands behind it has greater ones.
use Rattle.std.proofs.Common.{◌≡◌, ◌+◌, ℕ, false, List, [], ◌∷◌, ◌++◌, length, map, take, drop, refl, sym, ◌∙◌, ap, subst, arith, rules}
use Rattle.std.specs.Prelude.{⊤, min, Some, option_map, slice_get}
use Rattle.std.specs.Cmp.{IsTotalOrder}
use Rattle.std.specs.List.{AllByRecursion, flat_map}
use Rattle.std.specs.Ordering.{is_gt}
use Rattle.std.specs.declared.cmp.Ordering.{Ordering}
use Rattle.std.specs.declared.cmp.Ordering.TheVariants.{Less}
use Rattle.std.proofs.Math.Logic.{∥∥₁_elim}
use Rattle.std.proofs.lemmas.Cmp.{on_total}
use Rattle.std.proofs.lemmas.List.{take-map, take_all, take_min}
use Rattle.pig_value.specs.declared.operators.Dir.{Dir}
use Rattle.pig_value.specs.Gathering.{Entry, HaveKey, HaveGreater}
use Rattle.pig_value.specs.Orders.{row_cmp, tree_cmp}
use Rattle.pig_value.specs.Sorts.{Ascends, distinct}
use Rattle.pig_value.specs.Trees.{Tree, v_tuple, fields_of}
use Rattle.pig_value.proofs.OrderLaws.{fields_are, row_total, tree_total}
use Rattle.pig_value.proofs.TreeLaws.{fields_back}
use Rattle.pig_value.proofs.list_laws.Bags.{ascends_prop, drop_ascends, rises_all}
use Rattle.pig_value.proofs.list_laws.Indexing.{some_at}
use Rattle.pig_value.proofs.list_laws.Listing.{each-drop, each_at, each_of_all, each_weaker}
use Rattle.pig_value.proofs.list_laws.Runs.{front}
use Rattle.pig_keycode.specs.Keys.{fields_of_key, key_cmp}
use Rattle.pig_keycode.proofs.KeyOrder.{key_total, key_same}
use Rattle.pig_plan.specs.ByKey.{gathered, rows_of}
use Rattle.pig_runs.specs.Entries.{InDirections, key_at, run_cmp}
use Rattle.pig_runs.proofs.Order.{run_total}
use Rattle.pig_operators.specs.Given.{AreKeyedByRow, run_rows}
use Rattle.pig_operators.specs.Groups.{IsGroup, between, first_key, group_entries}
use Rattle.pig_operators.proofs.Between.{ascends_before, ascends_behind, between_more, between_none, between_parts, between_rest, each_behind, each_between, first_behind}
use Rattle.pig_operators.proofs.Sorted.{all_above, ascends_where, behind_key, first_not_greater, less_is, same_key_order}

some_same : {X : Type 0} {x y : X} → Some x ≡ Some y → x ≡ y
some_same h = cc

each_alone : {X : Type 0} (xs : List X) → flat_map (λ x. x ∷ []) xs ≡ xs
each_alone [] = refl
each_alone (x ∷ xs) = ap (λ l. x ∷ l) (each_alone xs)

each_both : {X : Type 0} (P Q : X → Type 0) (xs : List X) → AllByRecursion P xs → AllByRecursion Q xs → AllByRecursion (λ x. P x × Q x) xs
each_both P Q [] h k = tt
each_both P Q (x ∷ xs) h k = ((h.0, k.0), each_both P Q xs h.1 k.1)

abbrev by_keys : List Dir → Entry → Entry → Ordering
by_keys ds e f = key_cmp ds e.key f.key

keys_total : (ds : List Dir) → IsTotalOrder (by_keys ds)
keys_total ds = on_total (λ e. e.key) (key_total ds)

across : {X : Type 0} (R : X → X → Ordering) (total : IsTotalOrder R) (x : X) (us : List X) (y : X) (ys : List X) → Ascends R (x ∷ us ++ y ∷ ys) → is_gt (R x y) ≡ false
across R total x us y ys h = (each_behind (λ z. is_gt (R x z) ≡ false) us (y ∷ ys) (rises_all R total x (us ++ y ∷ ys) h.0 h.1)).0

module _ (run : InDirections) (from end : ℕ) (group : IsGroup run from end) (up : Ascends (run_cmp run.dirs) run.entries) where
  abbrev first : (x : Entry) × (slice_get run.entries from ≡ Some x)
  first = let low = group.some in let high = group.within in some_at run.entries from (omega (arith, low, high))

  key_is : key_at run from ≡ Some first.0.key
  key_is = ap (option_map (λ e. e.key)) first.1

  pub first_key_is : first_key run from ≡ first.0.key
  first_key_is = search rules

  abbrev has_key : Entry → Type 0
  has_key e = e.key ≡ first.0.key

  keys_here : AllByRecursion has_key (between from end run.entries)
  keys_here = each_between has_key from end run.entries (λ k x low high is. some_same (sym (ap (option_map (λ e. e.key)) is) ∙ (group.same k low high ∙ key_is)))

  group_up : Ascends (run_cmp run.dirs) (between from end run.entries ++ drop end run.entries)
  group_up = subst (Ascends (run_cmp run.dirs)) (between_rest from end run.entries (let low = group.some in omega (arith, low))) (drop_ascends (run_cmp run.dirs) from run.entries up)

  -- the first, and then the others
  starts : between from end run.entries ≡ first.0 ∷ between (from + 1) end run.entries
  starts =
      between_parts from (from + 1) end run.entries (omega arith) (let low = group.some in omega (arith, low))
      ∙ ap (λ l. l ++ between (from + 1) end run.entries)
      (between_more from from run.entries first.0 (omega arith) (let low = group.some in let high = group.within in omega (arith, low, high)) first.1 ∙ ap (λ l. l ++ first.0 ∷ []) (between_none from run.entries))

  abbrev above_key : Entry → Type 0
  above_key e = key_cmp run.dirs first.0.key e.key ≡ Less

  keys_behind : (l : List Entry) → drop end run.entries ≡ l → AllByRecursion above_key l
  keys_behind [] is = tt
  keys_behind (y ∷ ys) is =
      let found = first_behind end run.entries y ys is in
      let whole : Ascends (run_cmp run.dirs) (first.0 ∷ between (from + 1) end run.entries ++ y ∷ ys) = subst (Ascends (run_cmp run.dirs)) (λ i. starts i ++ is i) group_up in
      let low : is_gt (run_cmp run.dirs first.0 y) ≡ false = across (run_cmp run.dirs) (run_total run.dirs) first.0 (between (from + 1) end run.entries) y ys whole in
      let less : above_key y = less_is (key_cmp run.dirs first.0.key y.key) (first_not_greater (key_cmp run.dirs first.0.key y.key) (behind_key first.0 y) low)
      (λ e. group.other found.0 (ap (option_map (λ f. f.key)) found.1 ∙ (ap Some (sym (key_same run.dirs first.0.key y.key e)) ∙ sym key_is))) in
      let rest : Ascends (by_keys run.dirs) (y ∷ ys) =
      ascends_where (run_cmp run.dirs) (by_keys run.dirs) above_none (λ e f _ _ h. first_not_greater (key_cmp run.dirs e.key f.key) (behind_key e f) h) (y ∷ ys) (each_of_all above_none (λ e. tt) (y ∷ ys))
      (ascends_behind (run_cmp run.dirs) (first.0 ∷ between (from + 1) end run.entries) (y ∷ ys) whole) in
      all_above (by_keys run.dirs) (keys_total run.dirs) first.0 y ys less rest
    where
      above_none : Entry → Type 0
      above_none e = ⊤

  -- the entries of a group stand by input, and then by row
  pub group_ascends : Ascends behind_key (between from end run.entries)
  group_ascends = ascends_where (run_cmp run.dirs) behind_key has_key (λ e f a b h. same_key_order run.dirs e f (a ∙ sym b) h) (between from end run.entries) keys_here
      (ascends_before (run_cmp run.dirs) (between from end run.entries) (drop end run.entries) group_up)

  -- the rows of the group, and then those of the rest
  pub gathered_group : (make : Tree → (ℕ → List (List Tree)) → List (List Tree)) → run.dirs ≡ []
      → gathered make (drop from run.entries) ≡ make (first_key run from) (rows_of (group_entries run from end)) ++ gathered make (drop end run.entries)
  gathered_group make none =
      let rest = drop end run.entries in
      let others = between (from + 1) end run.entries in
      let cut : drop from run.entries ≡ first.0 ∷ others ++ rest = between_rest from end run.entries (let low = group.some in omega (arith, low)) ∙ ap (λ l. l ++ rest) starts in
      let same : HaveKey (λ e. e.key) first.0.key (first.0 ∷ others) = subst (AllByRecursion has_key) starts keys_here in
      let above : HaveGreater tree_cmp (λ e. e.key) first.0.key rest =
      each_weaker above_key (λ e. tree_cmp first.0.key e.key ≡ Less) (λ e h. ap (λ d. key_cmp d first.0.key e.key) (sym none) ∙ h) rest (keys_behind rest refl) in
      ap (gathered make) cut
      ∙ (front tree_cmp tree_total (λ e. e.key) (λ l entries. make l (rows_of entries)) first.0.key first.0 others rest same above
      ∙ (λ i. make (sym first_key_is i) (rows_of (sym starts i)) ++ gathered make rest))

  -- ---- DISTINCT

  abbrev keyed_by_row : Entry → Type 0
  keyed_by_row e = e.key ≡ v_tuple (fields_of e.row)

  row_is : (e : Entry) → keyed_by_row e → e.row ≡ fields_of_key e.key
  row_is e h = sym (ap fields_of_key h ∙ fields_back e.row)

  -- the row of the group, and then those of the rest
  pub distinct_group : run.dirs ≡ [] → AreKeyedByRow run.entries → distinct row_cmp (map (λ e. e.row) (drop from run.entries)) ≡ first.0.row ∷ distinct row_cmp (map (λ e. e.row) (drop end run.entries))
  distinct_group none keyed =
      let rest = drop end run.entries in
      let others = between (from + 1) end run.entries in
      let here : keyed_by_row first.0 = each_at keyed_by_row run.entries from first.0 first.1 keyed in
      let cut : drop from run.entries ≡ first.0 ∷ others ++ rest = between_rest from end run.entries (let low = group.some in omega (arith, low)) ∙ ap (λ l. l ++ rest) starts in
      let same : HaveKey (λ e. e.row) first.0.row (between from end run.entries) =
      each_between (λ e. e.row ≡ first.0.row) from end run.entries
      (λ k x low high is.
      let key : x.key ≡ first.0.key = some_same (sym (ap (option_map (λ e. e.key)) is) ∙ (group.same k low high ∙ key_is)) in
      row_is x (each_at keyed_by_row run.entries k x is keyed) ∙ (ap fields_of_key key ∙ sym (row_is first.0 here)))
      in
      let above : HaveGreater row_cmp (λ e. e.row) first.0.row rest =
      each_weaker (λ e. above_key e × keyed_by_row e) (λ e. row_cmp first.0.row e.row ≡ Less)
      (λ e h. sym (fields_are first.0.row e.row) ∙ ((λ i. tree_cmp (sym here i) (sym h.1 i)) ∙ (ap (λ d. key_cmp d first.0.key e.key) (sym none) ∙ h.0))) rest
      (each_both above_key keyed_by_row rest (keys_behind rest refl) (each-drop keyed_by_row end run.entries keyed))
      in
      ap (λ l. distinct row_cmp (map (λ e. e.row) l)) cut
      ∙ (sym (each_alone (distinct row_cmp (map (λ e. e.row) (first.0 ∷ others ++ rest))))
      ∙ (front row_cmp row_total (λ e. e.row) (λ k _. k ∷ []) first.0.row first.0 others rest (subst (HaveKey (λ e. e.row) first.0.row) starts same) above
      ∙ ap (λ l. first.0.row ∷ l) (each_alone (distinct row_cmp (map (λ e. e.row) rest)))))

  pub row_first : (row : List Tree) → option_map (λ e. e.row) (slice_get run.entries from) ≡ Some row → first.0.row ≡ row
  row_first row is = some_same (sym (ap (option_map (λ e. e.row)) first.1) ∙ is)

-- sorted entries are sorted
pub sorted_out : (ds : List Dir) (es : List Entry) → ∥ Ascends (run_cmp ds) es ∥₁ → Ascends (run_cmp ds) es
sorted_out ds es h = ∥∥₁_elim h (ascends_prop (run_cmp ds) es) (λ s. s)

-- the entries of a group stand by input, and then by row
pub group_sorted : (run : InDirections) (from end : ℕ) → IsGroup run from end → ∥ Ascends (run_cmp run.dirs) run.entries ∥₁ → Ascends behind_key (between from end run.entries)
group_sorted run from end group up = group_ascends run from end group (sorted_out run.dirs run.entries up)

-- all rows, and the first so many of them
pub all_rows : (run : InDirections) (n : ℕ) → n ≡ length run.entries → map (λ e. e.row) (take n run.entries) ≡ run_rows run
all_rows run n all = ap (map (λ e. e.row)) (take_all n run.entries (omega (arith, all)))

pub first_rows : (run : InDirections) (count size end : ℕ) → size ≡ length run.entries → end ≡ min size count → map (λ e. e.row) (take end run.entries) ≡ take count (run_rows run)
first_rows run count size end all least =
    let least_of : end ≡ min count (length run.entries) = omega (arith, all, least) in
    ap (λ n. map (λ e. e.row) (take n run.entries)) least_of ∙ (ap (map (λ e. e.row)) (take_min count run.entries) ∙ sym (take-map (λ e. e.row) count run.entries))
