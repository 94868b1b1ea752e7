-- An operator over inputs at other numbers gives what it gave, where these inputs are what its own were.
use Rattle.std.specs.Prelude.{◌≡◌, ℕ, ◌+◌, Bool, true, false, ◌&&◌, not, List, [], ◌∷◌, ◌++◌, map, length, Option, Some, refl}
use Rattle.std.proofs.Common.{ap, sym, suc, ◌∙◌}
use Rattle.std.specs.List.{AllByRecursion, flat_map, list_all}
use Rattle.std.specs.Option.{option_and_then, option_map}
use Rattle.pig_value.specs.declared.inputs.Input.{Input}
use Rattle.pig_value.specs.declared.operators.Side.{Side}
use Rattle.pig_value.specs.declared.operators.Side.TheVariants as side
use Rattle.pig_value.specs.FieldReader.{all_of}
use Rattle.pig_value.specs.Orders.{bag_of, row_cmp}
use Rattle.pig_value.specs.Sorts.{distinct}
use Rattle.pig_value.specs.Trees.{Tree}
use Rattle.pig_typed.specs.Blocks.{foreach_all}
use Rattle.pig_plan.specs.ByKey.{cogroup_of, entries_of_input, gathered, group_of, join_of, key_of, outer_of}
use Rattle.pig_plan.specs.NodeKinds.{Before, KeyedKinds, NodeGives, RowKinds, all_keyed, foreach_gives, group_all_gives, group_kinds, is_join, keyed_kinds, keys_agree, node_gives, only_if, order_gives, rank_gives, same_gives, store_gives, tested_gives, union_kinds}
use Rattle.pig_plan.specs.Nodes.{inputs_of, is_bare, lists, sorts}
use Rattle.pig_plan.specs.Operators.{Setting, filter_rows, group_all, group_rows, join_rows, keyed_entries, keys_of, limit_rows, operator_rows, order_rows, rank_rows}
use Rattle.pig_plan.specs.Plans.{Keyed, PlanOp, p_load, p_filter, p_foreach, p_group_all, p_group, p_join, p_union, p_distinct, p_order, p_limit, p_store, p_assert, p_rank}
use Rattle.pig_plan.specs.Renumbered.{rename, rename_keyed}

module _ (at : ℕ → ℕ) where
  keyed_renamed : (inputs : List Keyed) → map (λ k. k.input) (map (rename_keyed at) inputs) ≡ map at (map (λ k. k.input) inputs)
  keyed_renamed [] = refl
  keyed_renamed (k ∷ inputs) = ap (λ ns. at k.input ∷ ns) (keyed_renamed inputs)

  pub inputs_renamed : (o : PlanOp) → inputs_of (rename at o) ≡ map at (inputs_of o)
  inputs_renamed (p_load path delim columns) = refl
  inputs_renamed (p_filter input cond) = refl
  inputs_renamed (p_foreach input block) = refl
  inputs_renamed (p_group_all input) = refl
  inputs_renamed (p_group inputs) = keyed_renamed inputs
  inputs_renamed (p_join inputs side replicated) = keyed_renamed inputs
  inputs_renamed (p_union inputs) = refl
  inputs_renamed (p_distinct input) = refl
  inputs_renamed (p_order input keys) = refl
  inputs_renamed (p_limit input count) = refl
  inputs_renamed (p_store input path delim) = refl
  inputs_renamed (p_assert input cond message) = refl
  inputs_renamed (p_rank input keys dense) = refl

  inner_renamed : (inputs : List Keyed) → map (λ k. k.inner) (map (rename_keyed at) inputs) ≡ map (λ k. k.inner) inputs
  inner_renamed [] = refl
  inner_renamed (k ∷ inputs) = ap (λ bs. k.inner ∷ bs) (inner_renamed inputs)

  none_renamed : (inputs : List Keyed) → list_all (λ k. not k.inner) (map (rename_keyed at) inputs) ≡ list_all (λ k. not k.inner) inputs
  none_renamed [] = refl
  none_renamed (k ∷ inputs) = ap (λ b. not k.inner && b) (none_renamed inputs)

  size_renamed : (inputs : List Keyed) → length (map (rename_keyed at) inputs) ≡ length inputs
  size_renamed [] = refl
  size_renamed (k ∷ inputs) = ap (λ n. suc n) (size_renamed inputs)

  -- ---- whether it is sorted, or a list

  module _ (f g : ℕ → Bool) where
    pub sorts_moved : (o : PlanOp) → AllByRecursion (λ i. f (at i) ≡ g i) (inputs_of o) → sorts (rename at o) f ≡ sorts o g
    sorts_moved (p_order input keys) h = refl
    sorts_moved (p_assert input cond message) h = h.0
    sorts_moved (p_load path delim columns) h = refl
    sorts_moved (p_filter input cond) h = refl
    sorts_moved (p_foreach input block) h = refl
    sorts_moved (p_group_all input) h = refl
    sorts_moved (p_group inputs) h = refl
    sorts_moved (p_join inputs side replicated) h = refl
    sorts_moved (p_union inputs) h = refl
    sorts_moved (p_distinct input) h = refl
    sorts_moved (p_limit input count) h = refl
    sorts_moved (p_store input path delim) h = refl
    sorts_moved (p_rank input keys dense) h = refl

    pub lists_moved : (sq sp : ℕ → Bool) (o : PlanOp) → AllByRecursion (λ i. sq (at i) ≡ sp i) (inputs_of o) → AllByRecursion (λ i. f (at i) ≡ g i) (inputs_of o) → lists sq (rename at o) f ≡ lists sp o g
    lists_moved sq sp (p_order input keys) s h = refl
    lists_moved sq sp (p_assert input cond message) s h = h.0
    lists_moved sq sp (p_load path delim columns) s h = refl
    lists_moved sq sp (p_filter input cond) s h = refl
    lists_moved sq sp (p_foreach input block) s h = refl
    lists_moved sq sp (p_group_all input) s h = refl
    lists_moved sq sp (p_group inputs) s h = refl
    lists_moved sq sp (p_join inputs side replicated) s h = refl
    lists_moved sq sp (p_union inputs) s h = refl
    lists_moved sq sp (p_distinct input) s h = refl
    lists_moved sq sp (p_limit input count) s h = s.0
    lists_moved sq sp (p_store input path delim) s h = refl
    lists_moved sq sp (p_rank input keys dense) s h = refl

  -- ---- the kinds of its rows

  module _ (f g : Before) where
    abbrev pub SameKinds : List ℕ → Type 0
    SameKinds inputs = AllByRecursion (λ i. f (at i) ≡ g i) inputs

    keyed_one : (k : Keyed) → f (at k.input) ≡ g k.input → keyed_kinds f (rename_keyed at k) ≡ keyed_kinds g k
    keyed_one k h = ap (λ o. keyed_kinds (λ i. o) k) h

    keyed_each : (inputs : List Keyed) → SameKinds (map (λ k. k.input) inputs) → all_of (keyed_kinds f) (map (rename_keyed at) inputs) ≡ all_of (keyed_kinds g) inputs
    keyed_each [] h = refl
    keyed_each (k ∷ inputs) h = λ j. option_and_then (λ y. option_map (λ ys. y ∷ ys) (keyed_each inputs h.1 j)) (keyed_one k h.0 j)

    keyed_moved : (inputs : List Keyed) → SameKinds (map (λ k. k.input) inputs) → all_keyed f (map (rename_keyed at) inputs) ≡ all_keyed g inputs
    keyed_moved inputs h = ap (λ r. option_and_then (λ found. only_if (keys_agree found) (Some found)) r) (keyed_each inputs h)

    each_moved : (inputs : List ℕ) → SameKinds inputs → all_of f (map at inputs) ≡ all_of g inputs
    each_moved [] h = refl
    each_moved (i ∷ inputs) h = λ j. option_and_then (λ y. option_map (λ ys. y ∷ ys) (each_moved inputs h.1 j)) (h.0 j)

    abbrev grouped_of : Option (List KeyedKinds) → NodeGives
    grouped_of r = option_and_then (λ found. Some (Some (group_kinds found))) r

    abbrev united : Option (List RowKinds) → NodeGives
    united r = option_and_then (λ found. option_and_then (λ given. Some (Some given)) (union_kinds found)) r

    abbrev joined : Side → Bool → Bool → Option (List KeyedKinds) → NodeGives
    joined s replicated none r = option_and_then (λ found. only_if (is_join s replicated (length found) && none) (Some (Some (flat_map (λ input. input.row) found)))) r

    pub gives_moved : (o : PlanOp) → SameKinds (inputs_of o) → node_gives f (rename at o) ≡ node_gives g o
    gives_moved (p_load path delim columns) h = refl
    gives_moved (p_filter input cond) h = ap (λ o. tested_gives (λ i. o) input cond) h.0
    gives_moved (p_foreach input block) h = ap (λ o. foreach_gives (λ i. o) input block) h.0
    gives_moved (p_group_all input) h = ap (λ o. group_all_gives (λ i. o) input) h.0
    gives_moved (p_group inputs) h = ap grouped_of (keyed_moved inputs h)
    gives_moved (p_join inputs s replicated) h = λ j. joined s replicated (none_renamed inputs j) (keyed_moved inputs h j)
    gives_moved (p_union inputs) h = ap united (each_moved inputs h)
    gives_moved (p_distinct input) h = ap (λ o. same_gives (λ i. o) input) h.0
    gives_moved (p_order input keys) h = ap (λ o. order_gives (λ i. o) input keys) h.0
    gives_moved (p_limit input count) h = ap (λ o. same_gives (λ i. o) input) h.0
    gives_moved (p_store input path delim) h = ap (λ o. store_gives (λ i. o) input) h.0
    gives_moved (p_assert input cond message) h = ap (λ o. tested_gives (λ i. o) input cond) h.0
    gives_moved (p_rank input keys dense) h = ap (λ o. rank_gives (λ i. o) input keys) h.0

  -- ---- its rows

  module _ (inputs : List Input) (kept : ℕ → List (List Tree)) (wq wp : ℕ → ℕ) (sq sp : ℕ → Bool) (f g : ℕ → List (List Tree)) where
    abbrev pub There : Setting
    There = record { inputs = inputs; kept = kept; width = wq; sorted = sq }

    abbrev pub Here : Setting
    Here = record { inputs = inputs; kept = kept; width = wp; sorted = sp }

    pub record Alike (i : ℕ) : Type 0 where
      pub width : wq (at i) ≡ wp i
      pub sorted : sq (at i) ≡ sp i
      pub rows : f (at i) ≡ g i

    abbrev AreAlike : List ℕ → Type 0
    AreAlike numbers = AllByRecursion Alike numbers

    entries_moved : (i : ℕ) (keyed : List Keyed) → AreAlike (map (λ k. k.input) keyed) → keyed_entries i (map (rename_keyed at) keyed) f ≡ keyed_entries i keyed g
    entries_moved i [] h = refl
    entries_moved i (k ∷ keyed) h = λ j. entries_of_input (λ row. key_of (keys_of k.keys row)) i (h.0.rows j) ++ entries_moved (i + 1) keyed h.1 j

    group_moved : (keyed : List Keyed) → AreAlike (map (λ k. k.input) keyed) → group_rows (map (rename_keyed at) keyed) f ≡ group_rows keyed g
    group_moved [] h = refl
    group_moved (a ∷ []) h = ap (gathered group_of) (entries_moved 0 (a ∷ []) h)
    group_moved (a ∷ b ∷ more) h =
        λ j. gathered (cogroup_of (inner_renamed (a ∷ b ∷ more) j) (size_renamed (a ∷ b ∷ more) j)) (entries_moved 0 (a ∷ b ∷ more) h j)

    outer_moved : (s : Side) (a b : Keyed) (more : List Keyed) → AreAlike (map (λ k. k.input) (a ∷ b ∷ more))
        → gathered (outer_of s (wq (at a.input)) (wq (at b.input))) (keyed_entries 0 (map (rename_keyed at) (a ∷ b ∷ more)) f) ≡ gathered (outer_of s (wp a.input) (wp b.input)) (keyed_entries 0 (a ∷ b ∷ more) g)
    outer_moved s a b more h = λ j. gathered (outer_of s (h.0.width j) (h.1.0.width j)) (entries_moved 0 (a ∷ b ∷ more) h j)

    join_moved : (s : Side) (keyed : List Keyed) → AreAlike (map (λ k. k.input) keyed) → join_rows s wq (map (rename_keyed at) keyed) f ≡ join_rows s wp keyed g
    join_moved side.Inner keyed h = λ j. gathered (join_of (size_renamed keyed j)) (entries_moved 0 keyed h j)
    join_moved side.Left [] h = refl
    join_moved side.Right [] h = refl
    join_moved side.Full [] h = refl
    join_moved side.Left (a ∷ []) h = refl
    join_moved side.Right (a ∷ []) h = refl
    join_moved side.Full (a ∷ []) h = refl
    join_moved side.Left (a ∷ b ∷ more) h = outer_moved side.Left a b more h
    join_moved side.Right (a ∷ b ∷ more) h = outer_moved side.Right a b more h
    join_moved side.Full (a ∷ b ∷ more) h = outer_moved side.Full a b more h

    union_moved : (numbers : List ℕ) → AreAlike numbers → flat_map f (map at numbers) ≡ flat_map g numbers
    union_moved [] h = refl
    union_moved (i ∷ numbers) h = λ j. h.0.rows j ++ union_moved numbers h.1 j

    limit_kept : (sorted : Bool) (count m n : ℕ) (rows : List (List Tree)) → (not sorted ≡ true → m ≡ n) → limit_rows sorted count (kept m) rows ≡ limit_rows sorted count (kept n) rows
    limit_kept true count m n rows h = refl
    limit_kept false count m n rows h = ap (λ s. bag_of (kept s)) (h refl)

    pub rows_moved : (m n : ℕ) (o : PlanOp) → (is_bare sp o ≡ true → m ≡ n) → AreAlike (inputs_of o) → operator_rows There m (rename at o) f ≡ operator_rows Here n o g
    rows_moved m n (p_load path delim columns) b h = refl
    rows_moved m n (p_filter input cond) b h = ap (λ rows. bag_of (filter_rows cond rows)) h.0.rows
    rows_moved m n (p_foreach input block) b h = ap (λ rows. bag_of (foreach_all block rows)) h.0.rows
    rows_moved m n (p_group_all input) b h = ap (λ rows. bag_of (group_all rows)) h.0.rows
    rows_moved m n (p_group keyed) b h = ap bag_of (group_moved keyed h)
    rows_moved m n (p_join keyed side replicated) b h = ap bag_of (join_moved side keyed h)
    rows_moved m n (p_union numbers) b h = ap bag_of (union_moved numbers h)
    rows_moved m n (p_distinct input) b h = ap (distinct row_cmp) h.0.rows
    rows_moved m n (p_order input keys) b h = ap (order_rows keys) h.0.rows
    rows_moved m n (p_limit input count) b h =
        ap (λ s. limit_rows s count (kept m) (f (at input))) h.0.sorted ∙ ap (limit_rows (sp input) count (kept m)) h.0.rows ∙ limit_kept (sp input) count m n (g input) b
    rows_moved m n (p_store input path delim) b h = h.0.rows
    rows_moved m n (p_assert input cond message) b h = h.0.rows
    rows_moved m n (p_rank input keys dense) b h = ap (λ rows. bag_of (rank_rows keys dense rows)) h.0.rows

-- ---- inputs at their own numbers

keyed_itself : (inputs : List Keyed) → map (rename_keyed (λ n. n)) inputs ≡ inputs
keyed_itself [] = refl
keyed_itself (k ∷ inputs) = ap (λ ks. k ∷ ks) (keyed_itself inputs)

numbers_itself : (ns : List ℕ) → map (λ n. n) ns ≡ ns
numbers_itself [] = refl
numbers_itself (n ∷ ns) = ap (λ ms. n ∷ ms) (numbers_itself ns)

pub renamed_itself : (o : PlanOp) → rename (λ n. n) o ≡ o
renamed_itself (p_load path delim columns) = refl
renamed_itself (p_filter input c) = refl
renamed_itself (p_foreach input block) = refl
renamed_itself (p_group_all input) = refl
renamed_itself (p_group inputs) = ap p_group (keyed_itself inputs)
renamed_itself (p_join inputs side replicated) = ap (λ ks. p_join ks side replicated) (keyed_itself inputs)
renamed_itself (p_union inputs) = ap p_union (numbers_itself inputs)
renamed_itself (p_distinct input) = refl
renamed_itself (p_order input keys) = refl
renamed_itself (p_limit input count) = refl
renamed_itself (p_store input path delim) = refl
renamed_itself (p_assert input c message) = refl
renamed_itself (p_rank input keys dense) = refl

-- what an operator gives goes by its inputs alone
pub gives_agree : (f g : Before) (o : PlanOp) → AllByRecursion (λ i. f i ≡ g i) (inputs_of o) → node_gives f o ≡ node_gives g o
gives_agree f g o h = ap (node_gives f) (sym (renamed_itself o)) ∙ gives_moved (λ n. n) f g o h
