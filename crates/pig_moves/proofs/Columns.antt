-- The columns that an expression names are there, where it is typed.
use Rattle.std.specs.Prelude.{◌≡◌, ◌<◌, ℕ, Bool, true, false, List, [], ◌∷◌, ◌++◌, length, Option, Some, None, slice_get, refl}
use Rattle.std.proofs.Common.{ap, sym, subst, true≢false}
use Rattle.std.specs.List.{AllByRecursion}
use Rattle.std.specs.Option.{is_some, option_and_then, option_map, option_map_or, unwrap_or}
use Rattle.std.proofs.lemmas.Option.{none-some, slice_get_within}
use Rattle.pig_value.proofs.OfRead.{OfRead}
use Rattle.pig_value.proofs.list_laws.Listing.{each-append, some_same}
use Rattle.pig_value.specs.FunctionKinds.{function_kind}
use Rattle.pig_value.specs.Kinds.{kind_eq}
use Rattle.pig_value.specs.Trees.{KindTree, k_boolean, look_kind}
use Rattle.pig_typed.proofs.Found.{of_found}
use Rattle.pig_typed.specs.ExprKinds.{args_kinds, cast_kind, chain_kind, choose_kind, compare_kind, expr_kind, links_kind, minus_kind, not_kind, project_kind}
use Rattle.pig_typed.specs.Typed.{Typed, TypedArgs, TypedLinks, x_null, x_bool, x_int, x_long, x_chars, x_field, x_local, x_chain, x_compare, x_is_null, x_not, x_minus, x_choose, x_cast, x_project, x_look, x_call, no_links, more_links, no_args, more_args}
use Rattle.pig_plan.specs.Moves.{arg_fields, fields_in, link_fields}
use Rattle.pig_plan.specs.NodeKinds.{KeyedKinds, RowKinds, group_kinds, is_test, keyed_kinds, keys_agree, kinds_at, only_if}
use Rattle.pig_plan.specs.Plans.{Keyed, Plan, p_filter, p_group}
use Rattle.pig_plan.specs.Valid.{IsPlan}
use Rattle.pig_moves.proofs.Keeps.{node_with}
use Rattle.pig_moves.proofs.Kept.{gives_some, group_kinds_of, grouped_kinds}

module _ (row locals : List KindTree) where
  abbrev pub AreThere : List ℕ → Type 0
  AreThere fields = AllByRecursion (λ n. n < length row) fields

  joined : (xs ys : List ℕ) → AreThere xs → AreThere ys → AreThere (xs ++ ys)
  joined xs ys h g = each-append (λ n. n < length row) xs ys h g

  abbrev Found : {X : Type 0} → List ℕ → Option X → Type 0
  Found fields o = OfRead (λ x. AreThere fields) o

  -- what is known of the columns, whatever is found
  known : {X : Type 0} (fields : List ℕ) → AreThere fields → (o : Option X) → Found fields o
  known fields h None = tt
  known fields h (Some x) = h

  -- one step after another
  same : {X Y : Type 0} (fields : List ℕ) (next : X → Option Y) (o : Option X) → Found fields o → Found fields (option_and_then next o)
  same fields next None h = tt
  same fields next (Some x) h = known fields h (next x)

  later : {X Y : Type 0} (fields : List ℕ) (next : X → Option Y) (o : Option X) → ((x : X) → Found fields (next x)) → Found fields (option_and_then next o)
  later fields next None h = tt
  later fields next (Some x) h = h x

  and_known : {X : Type 0} (fields more : List ℕ) → AreThere fields → (o : Option X) → Found more o → Found (fields ++ more) o
  and_known fields more h None g = tt
  and_known fields more h (Some x) g = each-append (λ n. n < length row) fields more h g

  both : {X Y : Type 0} (fields more : List ℕ) (next : X → Option Y) (o : Option X) → Found fields o → ((x : X) → Found more (next x)) → Found (fields ++ more) (option_and_then next o)
  both fields more next None h g = tt
  both fields more next (Some x) h g = and_known fields more h (next x) (g x)

  mutual
    there : (e : Typed) → Found (fields_in e) (expr_kind e row locals)
    there (x_field n) = of_found (λ k. AreThere (n ∷ [])) (slice_get row n) (λ k e. (slice_get_within row n k e, tt))
    there (x_chain first links) = both (fields_in first) (link_fields links) (λ k. links_kind k links row locals) (expr_kind first row locals) (there first) (λ k. links_there links k)
    there (x_compare r a b) =
        both (fields_in a) (fields_in b) (λ k. option_and_then (compare_kind r k) (expr_kind b row locals)) (expr_kind a row locals) (there a)
        (λ k. same (fields_in b) (compare_kind r k) (expr_kind b row locals) (there b))
    there (x_is_null a negated) = same (fields_in a) (λ k. Some k_boolean) (expr_kind a row locals) (there a)
    there (x_not a) = same (fields_in a) not_kind (expr_kind a row locals) (there a)
    there (x_minus a) = same (fields_in a) minus_kind (expr_kind a row locals) (there a)
    there (x_choose test a b) =
        both (fields_in test) (fields_in a ++ fields_in b) (λ c. option_and_then (λ k. option_and_then (choose_kind c k) (expr_kind b row locals)) (expr_kind a row locals)) (expr_kind test row locals) (there test)
        (λ c. both (fields_in a) (fields_in b) (λ k. option_and_then (choose_kind c k) (expr_kind b row locals)) (expr_kind a row locals) (there a)
        (λ k. same (fields_in b) (choose_kind c k) (expr_kind b row locals) (there b)))
    there (x_cast to a) = same (fields_in a) (cast_kind to) (expr_kind a row locals) (there a)
    there (x_project a ns single) = same (fields_in a) (project_kind ns single) (expr_kind a row locals) (there a)
    there (x_look a key) = same (fields_in a) look_kind (expr_kind a row locals) (there a)
    there (x_call function args) = same (arg_fields args) (function_kind function) (args_kinds args row locals) (args_there args)
    there x_null = tt
    there (x_bool b) = tt
    there (x_int z) = tt
    there (x_long z) = tt
    there (x_chars text) = tt
    there (x_local n) = known [] tt (slice_get locals n)

    links_there : (links : TypedLinks) (k : KindTree) → Found (link_fields links) (links_kind k links row locals)
    links_there no_links k = tt
    links_there (more_links operator a links) k =
        both (fields_in a) (link_fields links) (λ l. option_and_then (λ next. links_kind next links row locals) (chain_kind operator k l)) (expr_kind a row locals) (there a)
        (λ l. later (link_fields links) (λ next. links_kind next links row locals) (chain_kind operator k l) (λ next. links_there links next))

    args_there : (args : TypedArgs) → Found (arg_fields args) (args_kinds args row locals)
    args_there no_args = tt
    args_there (more_args e args) =
        both (fields_in e) (arg_fields args) (λ k. option_and_then (λ kinds. Some (k ∷ kinds)) (args_kinds args row locals)) (expr_kind e row locals) (there e)
        (λ k. same (arg_fields args) (λ kinds. Some (k ∷ kinds)) (args_kinds args row locals) (args_there args))

-- where a condition is boolean on rows, it names columns of theirs
tested_there : (row : RowKinds) (c : Typed) → is_test row c ≡ true → AreThere row [] (fields_in c)
tested_there row c h = by_kind (expr_kind c row []) h (there row [] c)
  where
    by_kind : (o : Option KindTree) → option_map_or (kind_eq k_boolean) o false ≡ true → OfRead (λ k. AreThere row [] (fields_in c)) o → AreThere row [] (fields_in c)
    by_kind None g found = absurd (true≢false (sym g))
    by_kind (Some k) g found = found

-- a GROUP of one input gives its key and a bag
two_wide : (keyed : Keyed) (o : Option RowKinds) (row : RowKinds) → grouped_kinds keyed o ≡ Some row → length row ≡ 2
two_wide keyed o row h = by_keys (keyed_kinds (λ n. o) keyed) h
  where
    by_keys : (found : Option KeyedKinds) → unwrap_or (option_and_then (λ all. Some (Some (group_kinds all))) (option_and_then (λ all. only_if (keys_agree all) (Some all)) (option_and_then (λ first. option_map (λ others. first ∷ others) (Some [])) found))) None ≡ Some row → length row ≡ 2
    by_keys None g = absurd (none-some row g)
    by_keys (Some first) g = ap length (sym (some_same (group_kinds (first ∷ [])) row g))

-- so the FILTER on a GROUP of one input names its key and its bag alone
pub group_columns : (p : Plan) → IsPlan p → (k i : ℕ) (keyed : Keyed) (c : Typed) (statement own : ℕ) → slice_get p k ≡ Some (node_with (p_filter i c) statement)
    → slice_get p i ≡ Some (node_with (p_group (keyed ∷ [])) own) → AllByRecursion (λ n. n < 2) (fields_in c)
group_columns p valid k i keyed c statement own above below =
    by_rows (kinds_at p i) (group_kinds_of p valid i keyed own below) (gives_some p valid k (node_with (p_filter i c) statement) above)
  where
    by_rows : (o : Option RowKinds) → o ≡ grouped_kinds keyed (kinds_at p keyed.input) → is_some (option_and_then (λ row. only_if (is_test row c) (Some (Some row))) o) ≡ true → AllByRecursion (λ n. n < 2) (fields_in c)
    by_rows None e h = absurd (true≢false (sym h))
    by_rows (Some row) e h = subst (λ w. AllByRecursion (λ n. n < w) (fields_in c)) (two_wide keyed (kinds_at p keyed.input) row (sym e)) (by_test (is_test row c) refl h)
      where
        by_test : (b : Bool) → is_test row c ≡ b → is_some (only_if b (Some (Some row))) ≡ true → AllByRecursion (λ n. n < length row) (fields_in c)
        by_test true is g = tested_there row c is
        by_test false is g = absurd (true≢false (sym g))
