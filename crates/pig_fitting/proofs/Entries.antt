-- The entries of rows of an input's kinds fit their node.
use Rattle.std.specs.Prelude.{◌≡◌, ℕ, zero, suc, Bool, true, false, not, List, [], ◌∷◌, length, map, Option, Some, None, slice_get, nat_lt, refl}
use Rattle.std.proofs.Common.{ap, sym, ◌∙◌, subst, cond, true≢false}
use Rattle.std.specs.List.{AllByRecursion, cons_option, filter_map}
use Rattle.std.specs.Option.{is_some, option_and_then, option_map, option_map_or}
use Rattle.std.proofs.lemmas.Option.{slice_get_within}
use Rattle.pig_value.specs.Gathering.{Entry}
use Rattle.pig_value.specs.Kinds.{IsOf, IsRowOf, has_bag_or_map}
use Rattle.pig_value.specs.Trees.{KindTree, Tree, at, fields_of, k_tuple, kinds_of, v_tuple}
use Rattle.pig_value.proofs.OfRead.{OfRead, of_made}
use Rattle.pig_value.proofs.list_laws.Indexing.{get_map}
use Rattle.pig_value.proofs.list_laws.Listing.{each-map, each_weaker, some_same}
use Rattle.pig_typed.specs.declared.blocks.SortKey.{SortKey}
use Rattle.pig_typed.specs.BlockKinds.{are_keys, is_key}
use Rattle.pig_typed.specs.Premises.{FunctionsKeepKinds}
use Rattle.pig_typed.proofs.Found.{found_is, of_found}
use Rattle.pig_typed.proofs.KindsKept.{at_kept}
use Rattle.pig_algebra.specs.Combining.{parts_of_rows}
use Rattle.pig_plan.proofs.OfKinds.{Agree, Each, all_are, keyed_entries_are}
use Rattle.pig_plan.specs.ByKey.{key_of}
use Rattle.pig_plan.specs.Entries.{entries_of, key_at, keyed_at, sort_key_of}
use Rattle.pig_plan.specs.NodeKinds.{Before, KeyedKinds, RowKinds, group_kind, is_sorting, keyed_kinds, keys_agree, kinds_at, node_gives, only_if}
use Rattle.pig_plan.specs.Nodes.{inputs_of}
use Rattle.pig_plan.specs.Operators.{key_fields, keys_of}
use Rattle.pig_plan.specs.Plans.{Keyed, Plan, PlanOp, p_load, p_filter, p_foreach, p_group_all, p_group, p_join, p_union, p_distinct, p_order, p_limit}
use Rattle.pig_plan.specs.Plans.{p_store, p_assert, p_rank}
use Rattle.pig_physical.specs.Combining.{combining, folds}
use Rattle.pig_physical.specs.Fitting.{EntryFits, FinishesTo, GivesAlone, IsEntryRow, IsFoldedRow, IsInputRow, key_kind_at, keyed_kind, sorted_by_kind}
use Rattle.pig_fitting.proofs.Going.{both_hold}

-- ---- the fields that are sorted by

sorted_kinds : (keys : List SortKey) (row : List Tree) (ks : RowKinds) → are_keys ks keys ≡ true → IsRowOf row ks
    → IsRowOf (key_fields keys row) (filter_map (λ key. slice_get ks key.position) keys)
sorted_kinds [] row ks t h = tt
sorted_kinds (key ∷ keys) row ks t h =
    let both = both_hold (is_key ks key.position) (are_keys ks keys) t in
    by_kind (sorted_kinds keys row ks both.1 h) (slice_get ks key.position) both.0 (at_kept row ks key.position h)
  where
    by_kind : IsRowOf (key_fields keys row) (filter_map (λ other. slice_get ks other.position) keys) → (found : Option KindTree)
        → option_map_or (λ k. not (has_bag_or_map k)) found false ≡ true → OfRead (IsOf (at key.position row)) found
        → IsRowOf (at key.position row ∷ key_fields keys row) (cons_option found (filter_map (λ other. slice_get ks other.position) keys))
    by_kind rest None g is = absurd (true≢false (sym g))
    by_kind rest (Some k) g is = (is, rest)

-- ---- keys

-- the keys of an input by key
module _ (functions : FunctionsKeepKinds) (before : Before) (input : Keyed) (row : List Tree) where
  abbrev width : ℕ → ℕ
  width i = option_map_or length (before i) 0

  abbrev IsKey : KeyedKinds → Type 0
  IsKey found = IsOf (key_of (keys_of input.keys row)) (group_kind found.keys)

  abbrev Agrees : List Keyed → List KeyedKinds → Type 0
  Agrees inputs found = Agree functions before width (λ i. row ∷ []) inputs found

  by_agreed : (found : Option KeyedKinds)
      → OfRead (Agrees (input ∷ [])) (option_and_then (λ all. only_if (keys_agree all) (Some all))
      (option_and_then (λ y. option_map (λ ys. y ∷ ys) (Some [])) found)) → OfRead IsKey found
  by_agreed None h = tt
  by_agreed (Some found) h =
      (keyed_entries_are functions before width (λ i. row ∷ []) found.keys (input ∷ []) (found ∷ []) h.0 (refl, tt) 0 (row ∷ []) (h.0.0).rows_are).0.0

  pub key_is : OfRead (IsRowOf row) (before input.input) → OfRead IsKey (keyed_kinds before input)
  key_is is =
      by_agreed (keyed_kinds before input)
      (all_are functions before width (λ i. row ∷ []) (input ∷ []) (
        of_found (λ ks. Each ks (row ∷ []) × (width input.input ≡ length ks)) (before input.input)
            (λ ks found. ((found_is (IsRowOf row) (before input.input) ks found is, tt), ap (λ o. option_map_or length o 0) found)),
        tt,
      ))

module _ (functions : FunctionsKeepKinds) (plan : Plan) (row : List Tree) where
  keyed_is : (inputs : List Keyed) (i from : ℕ) → slice_get (map (λ k. k.input) inputs) i ≡ Some from → OfRead (IsRowOf row) (kinds_at plan from)
      → OfRead (IsOf (keyed_at inputs i row)) (keyed_kind plan inputs i)
  keyed_is inputs i from at is = by_input (slice_get inputs i) (sym (get_map (λ k. k.input) inputs i) ∙ at)
    where
      by_input : (found : Option Keyed) → option_map (λ k. k.input) found ≡ Some from
          → OfRead (IsOf (option_map_or (λ input. key_of (keys_of input.keys row)) found Rattle.pig_value.specs.Trees.v_null))
          (option_map (λ f. group_kind f.keys) (option_and_then (keyed_kinds (kinds_at plan)) found))
      by_input None e = tt
      by_input (Some input) e =
          of_made (λ found. IsOf (key_of (keys_of input.keys row)) (group_kind found.keys)) (IsOf (key_of (keys_of input.keys row))) (λ f. group_kind f.keys)
          (λ f h. h)
          (keyed_kinds (kinds_at plan) input)
          (key_is functions (kinds_at plan) input row (subst (λ n. OfRead (IsRowOf row) (kinds_at plan n)) (sym (some_same input.input from e)) is))

  the_first : (n i from : ℕ) → slice_get (n ∷ []) i ≡ Some from → OfRead (IsRowOf row) (kinds_at plan from) → OfRead (IsRowOf row) (kinds_at plan n)
  the_first n zero from e is = subst (λ m. OfRead (IsRowOf row) (kinds_at plan m)) (sym (some_same n from e)) is
  the_first n (suc i) from e is = absurd (cc)

  -- the fields that are sorted by are there
  sorts : (found : Option RowKinds) (keys : List SortKey) → is_some (option_and_then (λ ks. only_if (is_sorting ks keys) (Some (Some ks))) found) ≡ true
      → OfRead (IsRowOf row) found → OfRead (IsOf (sort_key_of keys row)) (option_map (sorted_by_kind keys) found)
  sorts None keys h is = tt
  sorts (Some ks) keys h is = by_test (is_sorting ks keys) refl h
    where
      by_test : (b : Bool) → is_sorting ks keys ≡ b → is_some {T = Option RowKinds} (cond b (Some (Some ks)) None) ≡ true
          → IsOf (sort_key_of keys row) (sorted_by_kind keys ks)
      by_test true e g = sorted_kinds keys row ks (both_hold (nat_lt 0 (length keys)) (are_keys ks keys) e).1 is
      by_test false e g = absurd (true≢false (sym g))

  ranks : (found : Option RowKinds) (keys : List SortKey)
      → is_some (option_and_then (λ ks. only_if (is_sorting ks keys) (Some (Some (Rattle.pig_value.specs.Trees.k_long ∷ ks)))) found) ≡ true
      → OfRead (IsRowOf row) found → OfRead (IsOf (sort_key_of keys row)) (option_map (sorted_by_kind keys) found)
  ranks None keys h is = tt
  ranks (Some ks) keys h is = by_test (is_sorting ks keys) refl h
    where
      by_test : (b : Bool) → is_sorting ks keys ≡ b
          → is_some {T = Option RowKinds} (cond b (Some (Some (Rattle.pig_value.specs.Trees.k_long ∷ ks))) None) ≡ true
          → IsOf (sort_key_of keys row) (sorted_by_kind keys ks)
      by_test true e g = sorted_kinds keys row ks (both_hold (nat_lt 0 (length keys)) (are_keys ks keys) e).1 is
      by_test false e g = absurd (true≢false (sym g))

  pub key_fits : (o : PlanOp) → is_some (node_gives (kinds_at plan) o) ≡ true → (i from : ℕ) → slice_get (inputs_of o) i ≡ Some from
      → OfRead (IsRowOf row) (kinds_at plan from)
      → OfRead (IsOf (key_at o i row)) (key_kind_at plan o i)
  key_fits (p_group_all input) some i from e is = tt
  key_fits (p_group inputs) some i from e is = keyed_is inputs i from e is
  key_fits (p_join inputs side replicated) some i from e is = keyed_is inputs i from e is
  key_fits (p_distinct input) some i from e is =
      of_made (IsRowOf row) (IsOf (v_tuple (fields_of row))) (λ ks. k_tuple (kinds_of ks)) (λ ks h. h) (kinds_at plan input) (the_first input i from e is)
  key_fits (p_order input keys) some i from e is = sorts (kinds_at plan input) keys some (the_first input i from e is)
  key_fits (p_rank input keys dense) some i from e is = ranks (kinds_at plan input) keys some (the_first input i from e is)
  key_fits (p_load path delim columns) some i from e is = tt
  key_fits (p_filter input test) some i from e is = tt
  key_fits (p_foreach input block) some i from e is = tt
  key_fits (p_union inputs) some i from e is = tt
  key_fits (p_limit input count) some i from e is = tt
  key_fits (p_store input path delim) some i from e is = tt
  key_fits (p_assert input test message) some i from e is = tt

-- ---- the entry of a row

not_made : {X Y : Type 0} (f : X → Y) (found : Option X) → option_map f found ≡ None → found ≡ None
not_made f None h = refl
not_made f (Some x) h = absurd (cc)

module _ (functions : FunctionsKeepKinds) (plan : Plan) (k : ℕ) (row : List Tree) (i from : ℕ) (is : OfRead (IsRowOf row) (kinds_at plan from)) where
  abbrev entry : PlanOp → Entry
  entry o = record { key = key_at o i row; input = i; row = row }

  input_row : (o : PlanOp) → slice_get (inputs_of o) i ≡ Some from → IsInputRow plan o (entry o)
  input_row o e = λ other ks place found.
      found_is (IsRowOf row) (kinds_at plan other) ks found (subst (λ n. OfRead (IsRowOf row) (kinds_at plan n)) (some_same from other (sym e ∙ place)) is)

  open_row : (o : PlanOp) → folds plan k ≡ None → slice_get (inputs_of o) i ≡ Some from → IsFoldedRow (folds plan k) plan o (entry o)
  open_row o none e = subst (λ found. IsFoldedRow found plan o (entry o)) (sym none) (input_row o e)

  entry_row : (o : PlanOp) → combining plan k o ≡ None → slice_get (inputs_of o) i ≡ Some from → IsEntryRow plan k o (entry o)
  entry_row (p_distinct input) none e = absurd (cc)
  entry_row (p_order input keys) none e = (refl, input_row (p_order input keys) e)
  entry_row (p_rank input keys dense) none e = (refl, input_row (p_rank input keys dense) e)
  entry_row (p_group_all input) none e = open_row (p_group_all input) (not_made parts_of_rows (folds plan k) none) e
  entry_row (p_group inputs) none e = open_row (p_group inputs) (not_made parts_of_rows (folds plan k) none) e
  entry_row (p_join inputs side replicated) none e = open_row (p_join inputs side replicated) (not_made parts_of_rows (folds plan k) none) e
  entry_row (p_load path delim columns) none e = open_row (p_load path delim columns) (not_made parts_of_rows (folds plan k) none) e
  entry_row (p_filter input test) none e = open_row (p_filter input test) (not_made parts_of_rows (folds plan k) none) e
  entry_row (p_foreach input block) none e = open_row (p_foreach input block) (not_made parts_of_rows (folds plan k) none) e
  entry_row (p_union inputs) none e = open_row (p_union inputs) (not_made parts_of_rows (folds plan k) none) e
  entry_row (p_limit input count) none e = open_row (p_limit input count) (not_made parts_of_rows (folds plan k) none) e
  entry_row (p_store input path delim) none e = open_row (p_store input path delim) (not_made parts_of_rows (folds plan k) none) e
  entry_row (p_assert input test message) none e = open_row (p_assert input test message) (not_made parts_of_rows (folds plan k) none) e

  open_gives : (o : PlanOp) (ks : RowKinds) → folds plan k ≡ None → FinishesTo (folds plan k) ks (entry o)
  open_gives o ks none = subst (λ found. FinishesTo found ks (entry o)) (sym none) tt

  entry_gives : (o : PlanOp) (ks : RowKinds) → combining plan k o ≡ None → GivesAlone plan k o ks (entry o)
  entry_gives (p_distinct input) ks none = absurd (cc)
  entry_gives (p_order input keys) ks none = open_gives (p_order input keys) ks (not_made parts_of_rows (folds plan k) none)
  entry_gives (p_rank input keys dense) ks none = open_gives (p_rank input keys dense) ks (not_made parts_of_rows (folds plan k) none)
  entry_gives (p_group_all input) ks none = open_gives (p_group_all input) ks (not_made parts_of_rows (folds plan k) none)
  entry_gives (p_group inputs) ks none = open_gives (p_group inputs) ks (not_made parts_of_rows (folds plan k) none)
  entry_gives (p_join inputs side replicated) ks none = open_gives (p_join inputs side replicated) ks (not_made parts_of_rows (folds plan k) none)
  entry_gives (p_load path delim columns) ks none = open_gives (p_load path delim columns) ks (not_made parts_of_rows (folds plan k) none)
  entry_gives (p_filter input test) ks none = open_gives (p_filter input test) ks (not_made parts_of_rows (folds plan k) none)
  entry_gives (p_foreach input block) ks none = open_gives (p_foreach input block) ks (not_made parts_of_rows (folds plan k) none)
  entry_gives (p_union inputs) ks none = open_gives (p_union inputs) ks (not_made parts_of_rows (folds plan k) none)
  entry_gives (p_limit input count) ks none = open_gives (p_limit input count) ks (not_made parts_of_rows (folds plan k) none)
  entry_gives (p_store input path delim) ks none = open_gives (p_store input path delim) ks (not_made parts_of_rows (folds plan k) none)
  entry_gives (p_assert input test message) ks none = open_gives (p_assert input test message) ks (not_made parts_of_rows (folds plan k) none)

  -- of a node that does not combine
  pub entry_fits : (o : PlanOp) → is_some (node_gives (kinds_at plan) o) ≡ true → combining plan k o ≡ None → slice_get (inputs_of o) i ≡ Some from
      → EntryFits plan k o (entry o)
  entry_fits o some none e = record {
    input = slice_get_within (inputs_of o) i from e;
    key = λ kind found. found_is (IsOf (key_at o i row)) (key_kind_at plan o i) kind found (key_fits functions plan row o some i from e is);
    row = entry_row o none e;
    gives = λ ks found. entry_gives o ks none;
  }

-- the entries of all rows of an input
pub entries_fit : (functions : FunctionsKeepKinds) (plan : Plan) (k i from : ℕ) (rows : List (List Tree))
    → AllByRecursion (λ row. OfRead (IsRowOf row) (kinds_at plan from)) rows
    → (o : PlanOp) → is_some (node_gives (kinds_at plan) o) ≡ true → combining plan k o ≡ None → slice_get (inputs_of o) i ≡ Some from
    → AllByRecursion (EntryFits plan k o) (entries_of o i rows)
entries_fit functions plan k i from rows each o some none e =
    each-map (EntryFits plan k o) (λ row. record { key = key_at o i row; input = i; row = row }) rows
    (each_weaker (λ row. OfRead (IsRowOf row) (kinds_at plan from)) _ (λ row is. entry_fits functions plan k row i from is o some none e) rows each)
