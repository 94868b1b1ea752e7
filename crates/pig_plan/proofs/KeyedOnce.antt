-- GROUP ALL, GROUP, COGROUP and JOIN in one word: what is made of each key and the bags of the rows that have it.
use Rattle.std.specs.Prelude.{◌≡◌, ◌+◌, ℕ, Bool, true, List, [], ◌∷◌, ◌++◌, map, Some, slice_get, refl}
use Rattle.std.proofs.Common.{ap, sym, ◌∙◌, arith, append-nil, suc, true≢false}
use Rattle.std.specs.List.{flat_map}
use Rattle.std.specs.Option.{option_map_or}
use Rattle.pig_value.specs.declared.operators.Side.{Side}
use Rattle.pig_value.specs.declared.operators.Side.TheVariants as side
use Rattle.pig_value.specs.Gathering.{Entry}
use Rattle.pig_value.specs.Orders.{bag_of, tree_cmp}
use Rattle.pig_value.specs.Sorts.{distinct}
use Rattle.pig_value.specs.Trees.{Tree, v_null}
use Rattle.pig_plan.specs.ByKey.{entries_of_input, gathered, key_of, outer_of}
use Rattle.pig_plan.specs.Entries.{entries_of, from_inputs, is_by_key, key_entries, made_by}
use Rattle.pig_plan.specs.Operators.{Setting, join_rows, keyed_entries, keys_of, operator_rows}
use Rattle.pig_plan.specs.Plans.{Keyed, PlanOp, p_load, p_filter, p_foreach, p_group_all, p_group, p_join, p_union, p_distinct, p_order, p_limit, p_store, p_assert, p_rank}

module _ (rows : ℕ → List (List Tree)) (whole : List Keyed) where
  abbrev keyed_of_place : ℕ → List (List Tree) → List Entry
  keyed_of_place i found = entries_of_input (λ row. option_map_or (λ input. key_of (keys_of input.keys row)) (slice_get whole i) v_null) i found

  -- inputs from a place on
  from_place : (i : ℕ) (inputs : List Keyed) → ((j : ℕ) → slice_get whole (i + j) ≡ slice_get inputs j)
      → keyed_entries i inputs rows ≡ from_inputs keyed_of_place i (map (λ input. input.input) inputs) rows
  from_place i [] at = refl
  from_place i (input ∷ inputs) at =
      let here : slice_get whole i ≡ Some input = (let e : i ≡ i + 0 = omega arith in ap (slice_get whole) e) ∙ at 0 in
      ap (λ o. entries_of_input (λ row. option_map_or (λ found. key_of (keys_of found.keys row)) o v_null) i (rows input.input) ++ keyed_entries (i + 1) inputs rows) (sym here)
      ∙ ap (λ more. keyed_of_place i (rows input.input) ++ more)
      (from_place (i + 1) inputs (λ j. (let e : i + 1 + j ≡ i + suc j = omega arith in ap (slice_get whole) e) ∙ at (suc j)))

  all_keyed_entries : keyed_entries 0 whole rows ≡ from_inputs keyed_of_place 0 (map (λ input. input.input) whole) rows
  all_keyed_entries = from_place 0 whole (λ j. let e : 0 + j ≡ j = omega arith in ap (slice_get whole) e)

-- where nothing is made of any key, nothing is made
abbrev nothing : Tree → List (List Tree)
nothing k = []

nothing_made : (keys : List Tree) → flat_map nothing keys ≡ []
nothing_made [] = refl
nothing_made (k ∷ keys) = nothing_made keys

module _ (width : ℕ → ℕ) (rows : ℕ → List (List Tree)) where
  abbrev Is : PlanOp → List (List Tree) → Type 0
  Is o found = found ≡ gathered (made_by width o) (key_entries o rows)

  join_is : (s : Side) (inputs : List Keyed) (replicated : Bool) → Is (p_join inputs s replicated) (join_rows s width inputs rows)
  join_is side.Inner inputs replicated = ap (gathered (made_by width (p_join inputs side.Inner replicated))) (all_keyed_entries rows inputs)
  join_is side.Left [] replicated = refl
  join_is side.Right [] replicated = refl
  join_is side.Full [] replicated = refl
  join_is side.Left (a ∷ []) replicated = sym (nothing_made (distinct tree_cmp (map (λ e. e.key) (key_entries (p_join (a ∷ []) side.Left replicated) rows))))
  join_is side.Right (a ∷ []) replicated = sym (nothing_made (distinct tree_cmp (map (λ e. e.key) (key_entries (p_join (a ∷ []) side.Right replicated) rows))))
  join_is side.Full (a ∷ []) replicated = sym (nothing_made (distinct tree_cmp (map (λ e. e.key) (key_entries (p_join (a ∷ []) side.Full replicated) rows))))
  join_is side.Left (a ∷ b ∷ inputs) replicated = ap (gathered (outer_of side.Left (width a.input) (width b.input))) (all_keyed_entries rows (a ∷ b ∷ inputs))
  join_is side.Right (a ∷ b ∷ inputs) replicated = ap (gathered (outer_of side.Right (width a.input) (width b.input))) (all_keyed_entries rows (a ∷ b ∷ inputs))
  join_is side.Full (a ∷ b ∷ inputs) replicated = ap (gathered (outer_of side.Full (width a.input) (width b.input))) (all_keyed_entries rows (a ∷ b ∷ inputs))

pub by_key_is : (s : Setting) (statement : ℕ) (o : PlanOp) (rows : ℕ → List (List Tree)) → is_by_key o ≡ true
    → operator_rows s statement o rows ≡ bag_of (gathered (made_by s.width o) (key_entries o rows))
by_key_is s statement (p_group_all input) rows h = ap (λ es. bag_of (gathered (made_by s.width (p_group_all input)) es)) (sym (append-nil (entries_of (p_group_all input) 0 (rows input))))
by_key_is s statement (p_group []) rows h = refl
by_key_is s statement (p_group (a ∷ [])) rows h = ap (λ es. bag_of (gathered (made_by s.width (p_group (a ∷ []))) es)) (all_keyed_entries rows (a ∷ []))
by_key_is s statement (p_group (a ∷ b ∷ inputs)) rows h = ap (λ es. bag_of (gathered (made_by s.width (p_group (a ∷ b ∷ inputs))) es)) (all_keyed_entries rows (a ∷ b ∷ inputs))
by_key_is s statement (p_join inputs sd replicated) rows h = ap bag_of (join_is s.width rows sd inputs replicated)
by_key_is s statement (p_load path delim columns) rows h = absurd (true≢false (sym h))
by_key_is s statement (p_filter input test) rows h = absurd (true≢false (sym h))
by_key_is s statement (p_foreach input block) rows h = absurd (true≢false (sym h))
by_key_is s statement (p_union numbers) rows h = absurd (true≢false (sym h))
by_key_is s statement (p_distinct input) rows h = absurd (true≢false (sym h))
by_key_is s statement (p_order input keys) rows h = absurd (true≢false (sym h))
by_key_is s statement (p_limit input count) rows h = absurd (true≢false (sym h))
by_key_is s statement (p_store input path delim) rows h = absurd (true≢false (sym h))
by_key_is s statement (p_assert input test message) rows h = absurd (true≢false (sym h))
by_key_is s statement (p_rank input keys dense) rows h = absurd (true≢false (sym h))
