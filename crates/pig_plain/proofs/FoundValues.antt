-- The rows that a node gives as they come are of values, where those of its inputs are.
use Rattle.std.specs.Prelude.{◌≡◌, ℕ, Bool, true, false, List, [], ◌∷◌, codes, bytes_eq, map, Some, refl}
use Rattle.std.proofs.Common.{arith, cond, rules, true≢false}
use Rattle.std.specs.Int.{w64}
use Rattle.std.specs.List.{AllByRecursion, find, flat_map}
use Rattle.std.specs.Option.{option_map_or}
use Rattle.std.specs.Str.{IsUtf8}
use Rattle.std.proofs.lemmas.Int.{SFits-int_wrap}
use Rattle.std.proofs.lemmas.Str.{IsUtf8-from_ascii}
use Rattle.pig_value.specs.declared.inputs.Column.{Column}
use Rattle.pig_value.specs.declared.inputs.Input.{Input}
use Rattle.pig_value.specs.FieldRows.{row_of}
use Rattle.pig_value.specs.Leaves.{AreBytes}
use Rattle.pig_value.specs.Lines.{lines}
use Rattle.pig_value.specs.Orders.{row_cmp, bag_of}
use Rattle.pig_value.specs.Trees.{Tree}
use Rattle.pig_value.specs.Valid.{AreRows, IsRow, IsValue}
use Rattle.pig_value.proofs.list_laws.Bags.{permutation_from_bag, times_from_permutation}
use Rattle.pig_value.proofs.list_laws.Listing.{each_weaker}
use Rattle.pig_value.proofs.ValidLaws.{row_each, rows_each, valid_rows-append}
use Rattle.pig_builtins.proofs.ValuesKept.{values_kept}
use Rattle.pig_typed.proofs.ValuesCarried.{are_rows, values_carried}
use Rattle.pig_plan.proofs.Carries.{operator_held, OwnAre}
use Rattle.pig_plan.proofs.LoadRows.{rows_of_values}
use Rattle.pig_plan.proofs.Meanings.{each_held}
use Rattle.pig_plan.specs.Laws.{AreOfBytes, OpLiteralsAre}
use Rattle.pig_plan.specs.Nodes.{inputs_of, is_bare}
use Rattle.pig_plan.specs.Operators.{Setting, load_rows, operator_rows, pieces_of}
use Rattle.pig_plan.specs.Plans.{PlanOp, p_load, p_filter, p_foreach, p_group_all, p_group, p_join, p_union, p_distinct, p_order, p_limit, p_store, p_assert, p_rank}
use Rattle.pig_plain.proofs.FoundRows.{found_is}
use Rattle.pig_plain.specs.Operating.{found_rows}

word_is_text : IsUtf8 (codes "all")
word_is_text = IsUtf8-from_ascii (codes "all") (search rules)

-- ---- rows of lines

pieces_are : (inputs : List Input) (path : List ℕ) → AreOfBytes inputs → AllByRecursion AreBytes (pieces_of inputs path)
pieces_are [] path h = tt
pieces_are (input ∷ inputs) path h = by_test (bytes_eq input.path path) (pieces_are inputs path h.1)
  where
    by_test : (b : Bool) → AllByRecursion AreBytes (pieces_of inputs path)
        → AllByRecursion AreBytes (option_map_or (λ found. found.pieces) (cond b (Some input) (find (λ other. bytes_eq other.path path) inputs)) [])
    by_test true more = h.0
    by_test false more = more

loads_are : (columns : List Column) (delim : ℕ) (pieces : List (List ℕ)) → AllByRecursion AreBytes pieces → AreRows (flat_map (λ piece. map (row_of columns delim) (lines piece)) pieces)
loads_are columns delim [] h = tt
loads_are columns delim (piece ∷ pieces) h =
    valid_rows-append (map (row_of columns delim) (lines piece)) (flat_map (λ p. map (row_of columns delim) (lines p)) pieces)
    (are_rows (map (row_of columns delim) (lines piece)) (rows_of_values columns delim piece h.0)) (loads_are columns delim pieces h.1)

-- ---- operators

each_row : (rows : List (List Tree)) → AreRows rows → AllByRecursion (AllByRecursion IsValue) rows
each_row rows h = each_weaker IsRow (AllByRecursion IsValue) (λ row v. row_each row v) rows (rows_each rows h)

-- rows are of values where those of their bag are
from_bag : (rows others : List (List Tree)) → bag_of rows ≡ bag_of others → AllByRecursion (AllByRecursion IsValue) others → AreRows rows
from_bag rows others same h =
    are_rows rows (each_held (AllByRecursion IsValue) rows others
    (λ row. let e = times_from_permutation row_cmp rows others (permutation_from_bag row_cmp rows others same) row in omega (arith, e)) h)

module _ (inputs : List Input) (width : ℕ → ℕ) (f : ℕ → List (List Tree)) (of_bytes : AreOfBytes inputs) (values : (k : ℕ) → AreRows (f k)) where
  -- a setting in which no LIMIT is bare
  abbrev sorted_setting : Setting
  sorted_setting = record { inputs = inputs; kept = λ statement. []; width = width; sorted = λ k. true }

  none_bare : (o : PlanOp) → is_bare (λ k. true) o ≡ false
  none_bare (p_load path delim columns) = refl
  none_bare (p_filter input cond) = refl
  none_bare (p_foreach input block) = refl
  none_bare (p_group_all input) = refl
  none_bare (p_group keyed) = refl
  none_bare (p_join keyed side replicated) = refl
  none_bare (p_union numbers) = refl
  none_bare (p_distinct input) = refl
  none_bare (p_order input keys) = refl
  none_bare (p_limit input count) = refl
  none_bare (p_store input path delim) = refl
  none_bare (p_assert input cond message) = refl
  none_bare (p_rank input keys dense) = refl

  abbrev Own : PlanOp → Type 0
  Own o = OwnAre IsValue (values_carried values_kept) (λ z. SFits-int_wrap w64 z) word_is_text f sorted_setting 0 o

  own : (o : PlanOp) → Own o
  own (p_load path delim columns) = each_row (load_rows inputs path delim columns) (loads_are columns delim (pieces_of inputs path) (pieces_are inputs path of_bytes))
  own (p_filter input cond) = tt
  own (p_foreach input block) = tt
  own (p_group_all input) = tt
  own (p_group keyed) = tt
  own (p_join keyed side replicated) = tt
  own (p_union numbers) = tt
  own (p_distinct input) = tt
  own (p_order input keys) = tt
  own (p_limit input count) = λ e. absurd (true≢false e)
  own (p_store input path delim) = tt
  own (p_assert input cond message) = tt
  own (p_rank input keys dense) = tt

  all_held : (xs : List ℕ) → AllByRecursion (λ k. AllByRecursion (AllByRecursion IsValue) (f k)) xs
  all_held [] = tt
  all_held (x ∷ xs) = (each_row (f x) (values x), all_held xs)

  pub found_values : (o : PlanOp) → OpLiteralsAre IsValue o → AreRows (found_rows inputs width o f)
  found_values o literals =
      from_bag (found_rows inputs width o f) (operator_rows sorted_setting 0 o f) (found_is sorted_setting 0 f (λ k. false) o (none_bare o)).0
      (operator_held IsValue (values_carried values_kept) (λ z. SFits-int_wrap w64 z) word_is_text f sorted_setting 0 o literals (own o) (all_held (inputs_of o)))
