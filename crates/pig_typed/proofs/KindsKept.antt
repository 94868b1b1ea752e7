-- On a row and locals of the kinds that it was typed for, an expression gives a value of its kind.
use Rattle.std.specs.Prelude.{◌≡◌, ◌&&◌, ℕ, ℤ, zero, suc, Bool, true, false, not, List, [], ◌∷◌, map, Option, Some, None, slice_get, bytes_eq, refl, if◌then◌else◌}
use Rattle.std.specs.Int.{w32, w64}
use Rattle.std.specs.List.{find}
use Rattle.std.specs.Option.{option_and_then, option_map}
use Rattle.std.proofs.Common.{cond, sym, subst}
use Rattle.pig_value.specs.Casts.{cast_of, may_cast}
use Rattle.pig_value.specs.FieldReader.{all_of}
use Rattle.pig_value.specs.FunctionKinds.{function_kind}
use Rattle.pig_value.specs.Functions.{apply_tree, bag_tree}
use Rattle.pig_value.specs.Kinds.{IsOf, IsRowOf, AreRowsOf, FieldsOf, TuplesOf, EntriesOf, kind_eq}
use Rattle.pig_value.specs.Trees.{at, or_null, Tree, Fields, Tuples, Entries, v_null, v_bool, v_int, v_long, v_chars, v_bytes, v_tuple, v_bag, v_listed, v_map, no_fields, more_fields, no_tuples, more_tuples, no_entries, more_entries, fields_list, fields_of, tuples_list, tuples_of, entries_list, KindTree, KindTrees, k_boolean, k_int, k_long, k_chars, k_bytes, k_tuple, k_bag, k_map, no_kinds, more_kinds, kinds_list, kinds_of, look_kind}
use Rattle.pig_value.specs.declared.functions.Function.{Function}
use Rattle.pig_value.specs.declared.operators.ChainOp.{ChainOp}
use Rattle.pig_value.specs.declared.operators.ChainOp.TheVariants as op
use Rattle.pig_value.specs.declared.operators.Rel.{Rel}
use Rattle.pig_value.proofs.CastKinds.{cast_of_kind}
use Rattle.pig_value.proofs.KindLaws.{kind_same, rows_of_sorted}
use Rattle.pig_value.proofs.OfRead.{OfRead}
use Rattle.pig_typed.specs.Evaluation.{ev, ev_args, ev_links}
use Rattle.pig_typed.specs.ExprKinds.{args_kinds, cast_kind, chain_kind, choose_kind, compare_kind, expr_kind, is_selection, links_kind, may_compare, minus_kind, not_kind, number_kind, part_kind, picked_kinds, project_kind, selected_kind, truth_kind}
use Rattle.pig_typed.specs.Operators.{and_truth, arithmetic, chain_tree, chosen, compare_tree, look_tree, minus_tree, not_tree, null_test, number_by, or_truth, pick, project_tree, truth_of, truth_tree}
use Rattle.pig_typed.specs.Premises.{FunctionsKeepKinds}
use Rattle.pig_typed.specs.Typed.{Typed, TypedLinks, TypedArgs, x_null, x_bool, x_int, x_long, x_chars, x_field, x_local, x_chain, x_compare, x_is_null, x_not, x_minus, x_choose, x_cast, x_project, x_look, x_call, no_links, more_links, no_args, more_args}
use Rattle.pig_typed.proofs.Found.{of_found, tested, then_found}

-- ---- operators

null_of : (o : Option KindTree) → OfRead (IsOf v_null) o
null_of None = tt
null_of (Some k) = tt

truth_is : (truth : Option Bool) → IsOf (truth_tree truth) k_boolean
truth_is None = tt
truth_is (Some b) = tt

int_is : (z : Option ℤ) → IsOf (or_null (option_map v_int z)) k_int
int_is None = tt
int_is (Some z) = tt

long_is : (z : Option ℤ) → IsOf (or_null (option_map v_long z)) k_long
long_is None = tt
long_is (Some z) = tt

number_kept : (operator : ChainOp) (k l : KindTree) (v w : Tree) → IsOf v k → IsOf w l → OfRead (IsOf (arithmetic operator v w)) (number_kind k l)
number_kept operator k_int k_int v_null w h g = tt
number_kept operator k_int k_int (v_int a) v_null h g = tt
number_kept operator k_int k_int (v_int a) (v_int b) h g = int_is (number_by operator w32 a b)
number_kept operator k_int k_int (v_int a) w h g = absurd g
number_kept operator k_int k_int v w h g = absurd h
number_kept operator k_int k_long v_null w h g = tt
number_kept operator k_int k_long (v_int a) v_null h g = tt
number_kept operator k_int k_long (v_int a) (v_long b) h g = long_is (number_by operator w64 a b)
number_kept operator k_int k_long (v_int a) w h g = absurd g
number_kept operator k_int k_long v w h g = absurd h
number_kept operator k_long k_int v_null w h g = tt
number_kept operator k_long k_int (v_long a) v_null h g = tt
number_kept operator k_long k_int (v_long a) (v_int b) h g = long_is (number_by operator w64 a b)
number_kept operator k_long k_int (v_long a) w h g = absurd g
number_kept operator k_long k_int v w h g = absurd h
number_kept operator k_long k_long v_null w h g = tt
number_kept operator k_long k_long (v_long a) v_null h g = tt
number_kept operator k_long k_long (v_long a) (v_long b) h g = long_is (number_by operator w64 a b)
number_kept operator k_long k_long (v_long a) w h g = absurd g
number_kept operator k_long k_long v w h g = absurd h
number_kept operator k l v w h g = tt

truth_kept : (truth : Option Bool) (k l : KindTree) → OfRead (IsOf (truth_tree truth)) (truth_kind k l)
truth_kept truth k_boolean k_boolean = truth_is truth
truth_kept truth k l = tt

chain_kept : (operator : ChainOp) (k l : KindTree) (v w : Tree) → IsOf v k → IsOf w l → OfRead (IsOf (chain_tree operator v w)) (chain_kind operator k l)
chain_kept op.Or k l v w h g = truth_kept (or_truth (truth_of v) (truth_of w)) k l
chain_kept op.And k l v w h g = truth_kept (and_truth (truth_of v) (truth_of w)) k l
chain_kept op.Add k l v w h g = number_kept op.Add k l v w h g
chain_kept op.Sub k l v w h g = number_kept op.Sub k l v w h g
chain_kept op.Mul k l v w h g = number_kept op.Mul k l v w h g
chain_kept op.Div k l v w h g = number_kept op.Div k l v w h g
chain_kept op.Rem k l v w h g = number_kept op.Rem k l v w h g

compare_is : (r : Rel) (v w : Tree) → IsOf (compare_tree r v w) k_boolean
compare_is r v_null w = tt
compare_is r v v_null = tt
compare_is r v w = tt

compare_kept : (r : Rel) (k l : KindTree) (v w : Tree) → OfRead (IsOf (compare_tree r v w)) (compare_kind r k l)
compare_kept r k l v w = tested (IsOf (compare_tree r v w)) (kind_eq k l && may_compare r k) (Some k_boolean) (λ e. compare_is r v w)

not_kept : (k : KindTree) (v : Tree) → OfRead (IsOf (not_tree v)) (not_kind k)
not_kept k_boolean v = truth_is (option_map not (truth_of v))
not_kept k v = tt

minus_kept : (k : KindTree) (v : Tree) → IsOf v k → OfRead (IsOf (minus_tree v)) (minus_kind k)
minus_kept k_int v_null h = tt
minus_kept k_int (v_int z) h = tt
minus_kept k_int v h = absurd h
minus_kept k_long v_null h = tt
minus_kept k_long (v_long z) h = tt
minus_kept k_long v h = absurd h
minus_kept k v h = tt

chosen_is : (k : KindTree) (truth : Option Bool) (v w : Tree) → IsOf v k → IsOf w k → IsOf (chosen truth v w) k
chosen_is k (Some true) v w h g = h
chosen_is k (Some false) v w h g = g
chosen_is k None v w h g = tt

choose_kept : (c k l : KindTree) (x v w : Tree) → IsOf v k → IsOf w l → OfRead (IsOf (chosen (truth_of x) v w)) (choose_kind c k l)
choose_kept k_boolean k l x v w h g =
    tested (IsOf (chosen (truth_of x) v w)) (kind_eq k l) (Some k) (λ e. chosen_is k (truth_of x) v w h (subst (IsOf w) (sym (kind_same k l e)) g))
choose_kept c k l x v w h g = tt

cast_kept : (to k : KindTree) (v : Tree) → IsOf v k → OfRead (IsOf (cast_of to v)) (cast_kind to k)
cast_kept to k v h = tested (IsOf (cast_of to v)) (may_cast k to) (Some to) (λ e. cast_of_kind to v)

-- ---- parts of a value

pub at_kept : (row : List Tree) (kinds : List KindTree) (n : ℕ) → IsRowOf row kinds → OfRead (IsOf (at n row)) (slice_get kinds n)
at_kept [] [] n h = tt
at_kept [] (k ∷ kinds) n h = absurd h
at_kept (v ∷ row) [] n h = absurd h
at_kept (v ∷ row) (k ∷ kinds) zero h = h.0
at_kept (v ∷ row) (k ∷ kinds) (suc n) h = at_kept row kinds n h.1

pick_kept : (ns : List ℕ) (row : List Tree) (kinds : List KindTree) → IsRowOf row kinds → OfRead (IsRowOf (pick ns row)) (picked_kinds ns kinds)
pick_kept [] row kinds h = tt
pick_kept (n ∷ ns) row kinds h = by_parts (slice_get kinds n) (picked_kinds ns kinds) (at_kept row kinds n h) (pick_kept ns row kinds h)
  where
    by_parts : (o : Option KindTree) (more : Option (List KindTree)) → OfRead (IsOf (at n row)) o → OfRead (IsRowOf (pick ns row)) more → OfRead (IsRowOf (at n row ∷ pick ns row)) (option_and_then (λ k. option_map (λ ks. k ∷ ks) more) o)
    by_parts None more g gs = tt
    by_parts (Some k) None g gs = tt
    by_parts (Some k) (Some ks) g gs = (g, gs)

pub fields_listed : (vs : Fields) (ks : KindTrees) → FieldsOf vs ks → IsRowOf (fields_list vs) (kinds_list ks)
fields_listed no_fields no_kinds h = tt
fields_listed no_fields (more_kinds k ks) h = absurd h
fields_listed (more_fields v vs) no_kinds h = absurd h
fields_listed (more_fields v vs) (more_kinds k ks) h = (h.0, fields_listed vs ks h.1)

pub tuples_listed : (rs : Tuples) (ks : KindTrees) → TuplesOf rs ks → AreRowsOf (tuples_list rs) (kinds_list ks)
tuples_listed no_tuples ks h = tt
tuples_listed (more_tuples r rs) ks h = (fields_listed r ks h.0, tuples_listed rs ks h.1)

rows_picked : (ns : List ℕ) (kinds : List KindTree) (picked : Option (List KindTree)) → ((row : List Tree) → IsRowOf row kinds → OfRead (IsRowOf (pick ns row)) picked)
    → (rows : List (List Tree)) → AreRowsOf rows kinds → OfRead (AreRowsOf (map (pick ns) rows)) picked
rows_picked ns kinds None keeps rows h = tt
rows_picked ns kinds (Some picked) keeps [] h = tt
rows_picked ns kinds (Some picked) keeps (row ∷ rows) h = (keeps row h.0, rows_picked ns kinds (Some picked) keeps rows h.1)

part_kept : (single : Bool) (row : List Tree) (kinds : List KindTree) → IsRowOf row kinds → OfRead (IsOf (if single then at 0 row else v_tuple (fields_of row))) (part_kind single kinds)
part_kept true row kinds h = at_kept row kinds 0 h
part_kept false row kinds h = h

bag_picked : (rows : List (List Tree)) (o : Option (List KindTree)) → OfRead (AreRowsOf rows) o → OfRead (IsOf (bag_tree rows)) (option_map (λ kinds. k_bag (kinds_of kinds)) o)
bag_picked rows None h = tt
bag_picked rows (Some kinds) h = rows_of_sorted kinds rows h

listed_picked : (rows : List (List Tree)) (o : Option (List KindTree)) → OfRead (AreRowsOf rows) o → OfRead (IsOf (v_listed (tuples_of rows))) (option_map (λ kinds. k_bag (kinds_of kinds)) o)
listed_picked rows None h = tt
listed_picked rows (Some kinds) h = h

selected_kept : (ns : List ℕ) (single : Bool) (k : KindTree) (v : Tree) → IsOf v k → OfRead (IsOf (project_tree ns single v)) (selected_kind ns single k)
selected_kept ns single (k_tuple ks) v_null h = null_of (selected_kind ns single (k_tuple ks))
selected_kept ns single (k_tuple ks) (v_tuple vs) h =
    then_found (IsRowOf (pick ns (fields_list vs))) (IsOf (project_tree ns single (v_tuple vs))) (part_kind single)
    (part_kept single (pick ns (fields_list vs))) (picked_kinds ns (kinds_list ks)) (pick_kept ns (fields_list vs) (kinds_list ks) (fields_listed vs ks h))
selected_kept ns single (k_tuple ks) v h = absurd h
selected_kept ns single (k_bag ks) v_null h = null_of (selected_kind ns single (k_bag ks))
selected_kept ns single (k_bag ks) (v_bag rs) h =
    bag_picked (map (pick ns) (tuples_list rs)) (picked_kinds ns (kinds_list ks))
    (rows_picked ns (kinds_list ks) (picked_kinds ns (kinds_list ks)) (λ row g. pick_kept ns row (kinds_list ks) g) (tuples_list rs) (tuples_listed rs ks h))
selected_kept ns single (k_bag ks) (v_listed rs) h =
    listed_picked (map (pick ns) (tuples_list rs)) (picked_kinds ns (kinds_list ks))
    (rows_picked ns (kinds_list ks) (picked_kinds ns (kinds_list ks)) (λ row g. pick_kept ns row (kinds_list ks) g) (tuples_list rs) (tuples_listed rs ks h))
selected_kept ns single (k_bag ks) v h = absurd h
selected_kept ns single k v h = tt

project_kept : (ns : List ℕ) (single : Bool) (k : KindTree) (v : Tree) → IsOf v k → OfRead (IsOf (project_tree ns single v)) (project_kind ns single k)
project_kept ns single k v h = tested (IsOf (project_tree ns single v)) (is_selection ns single) (selected_kind ns single k) (λ e. selected_kept ns single k v h)

entry_kept : (key : List ℕ) (k : KindTree) (ps : Entries) → EntriesOf ps k → IsOf (or_null (option_map (λ p. p.1) (find (λ p. bytes_eq p.0 key) (entries_list ps)))) k
entry_kept key k no_entries h = tt
entry_kept key k (more_entries other v ps) h = by_test (bytes_eq other key) (find (λ p. bytes_eq p.0 key) (entries_list ps)) (entry_kept key k ps h.1)
  where
    by_test : (b : Bool) (o : Option (List ℕ × Tree)) → IsOf (or_null (option_map (λ p. p.1) o)) k → IsOf (or_null (option_map (λ p. p.1) (cond b (Some (other, v)) o))) k
    by_test true o g = h.0
    by_test false o g = g

look_kept : (key : List ℕ) (k : KindTree) (v : Tree) → IsOf v k → OfRead (IsOf (look_tree key v)) (look_kind k)
look_kept key (k_map k) v_null h = tt
look_kept key (k_map k) (v_map ps) h = entry_kept key k ps h
look_kept key (k_map k) v h = absurd h
look_kept key k v h = tt

-- ---- expressions

module _ (functions : FunctionsKeepKinds) (row locals : List Tree) (ks ls : List KindTree) (h : IsRowOf row ks) (g : IsRowOf locals ls) where
  mutual
    pub kept : (e : Typed) → OfRead (IsOf (ev e row locals)) (expr_kind e ks ls)
    kept x_null = tt
    kept (x_bool b) = tt
    kept (x_int z) = tt
    kept (x_long z) = tt
    kept (x_chars text) = tt
    kept (x_field n) = at_kept row ks n h
    kept (x_local n) = at_kept locals ls n g
    kept (x_chain first links) =
        then_found (IsOf (ev first row locals)) (IsOf (ev (x_chain first links) row locals)) (λ k. links_kind k links ks ls)
        (λ k i. links_kept links k (ev first row locals) i) (expr_kind first ks ls) (kept first)
    kept (x_compare r a b) =
        then_found (IsOf (ev a row locals)) (IsOf (ev (x_compare r a b) row locals)) _
        (λ k i. then_found (IsOf (ev b row locals)) (IsOf (ev (x_compare r a b) row locals)) (compare_kind r k) (λ l j. compare_kept r k l (ev a row locals) (ev b row locals)) (expr_kind b ks ls) (kept b))
        (expr_kind a ks ls) (kept a)
    kept (x_is_null a negated) =
        then_found (IsOf (ev a row locals)) (IsOf (ev (x_is_null a negated) row locals)) (λ k. Some k_boolean) (λ k i. tt) (expr_kind a ks ls) (kept a)
    kept (x_not a) =
        then_found (IsOf (ev a row locals)) (IsOf (ev (x_not a) row locals)) not_kind (λ k i. not_kept k (ev a row locals)) (expr_kind a ks ls) (kept a)
    kept (x_minus a) =
        then_found (IsOf (ev a row locals)) (IsOf (ev (x_minus a) row locals)) minus_kind (λ k i. minus_kept k (ev a row locals) i) (expr_kind a ks ls) (kept a)
    kept (x_choose c a b) =
        then_found (IsOf (ev c row locals)) (IsOf (ev (x_choose c a b) row locals)) _
        (λ m q. then_found (IsOf (ev a row locals)) (IsOf (ev (x_choose c a b) row locals)) _
        (λ k i. then_found (IsOf (ev b row locals)) (IsOf (ev (x_choose c a b) row locals)) (choose_kind m k) (λ l j. choose_kept m k l (ev c row locals) (ev a row locals) (ev b row locals) i j) (expr_kind b ks ls) (kept b))
        (expr_kind a ks ls) (kept a))
        (expr_kind c ks ls) (kept c)
    kept (x_cast to a) =
        then_found (IsOf (ev a row locals)) (IsOf (ev (x_cast to a) row locals)) (cast_kind to) (λ k i. cast_kept to k (ev a row locals) i) (expr_kind a ks ls) (kept a)
    kept (x_project a ns single) =
        then_found (IsOf (ev a row locals)) (IsOf (ev (x_project a ns single) row locals)) (project_kind ns single) (λ k i. project_kept ns single k (ev a row locals) i) (expr_kind a ks ls) (kept a)
    kept (x_look a key) =
        then_found (IsOf (ev a row locals)) (IsOf (ev (x_look a key) row locals)) look_kind (λ k i. look_kept key k (ev a row locals) i) (expr_kind a ks ls) (kept a)
    kept (x_call f args) =
        then_found (IsRowOf (ev_args args row locals)) (IsOf (ev (x_call f args) row locals)) (function_kind f) (λ kinds i. of_found (IsOf (apply_tree f (ev_args args row locals))) (function_kind f kinds) (λ k e. functions f (ev_args args row locals) kinds k i e)) (args_kinds args ks ls) (args_kept args)

    links_kept : (links : TypedLinks) (k : KindTree) (v : Tree) → IsOf v k → OfRead (IsOf (ev_links v links row locals)) (links_kind k links ks ls)
    links_kept no_links k v i = i
    links_kept (more_links operator a links) k v i =
        let w : Tree = ev a row locals in
        then_found (IsOf w) (IsOf (ev_links (chain_tree operator v w) links row locals)) _
        (λ l j. then_found (IsOf (chain_tree operator v w)) (IsOf (ev_links (chain_tree operator v w) links row locals)) (λ next. links_kind next links ks ls)
        (λ next q. links_kept links next (chain_tree operator v w) q) (chain_kind operator k l) (chain_kept operator k l v w i j))
        (expr_kind a ks ls) (kept a)

    args_kept : (args : TypedArgs) → OfRead (IsRowOf (ev_args args row locals)) (args_kinds args ks ls)
    args_kept no_args = tt
    args_kept (more_args e args) =
        then_found (IsOf (ev e row locals)) (IsRowOf (ev e row locals ∷ ev_args args row locals)) _
        (λ k i. then_found (IsRowOf (ev_args args row locals)) (IsRowOf (ev e row locals ∷ ev_args args row locals)) (λ kinds. Some (k ∷ kinds)) (λ kinds j. (i, j)) (args_kinds args ks ls) (args_kept args))
        (expr_kind e ks ls) (kept e)
