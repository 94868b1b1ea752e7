-- Parts that each finish to a row of some kinds finish to such a row together.
use Rattle.std.specs.Prelude.{ℤ, List, [], ◌∷◌, map, drop, Option, Some, None, slice_get, ⊤}
use Rattle.std.specs.List.{AllByRecursion, cons_option, filter, filter_map}
use Rattle.pig_value.specs.Functions.{column_tree, first_found, is_ranked, long_of, sum_found, sum_ℤ, whole_of}
use Rattle.pig_value.specs.Gathering.{Entry, with_key}
use Rattle.pig_value.specs.Kinds.{IsOf, IsRowOf}
use Rattle.pig_value.specs.Orders.{dir_cmp, tree_cmp}
use Rattle.pig_value.specs.Sorts.{distinct, sort}
use Rattle.pig_value.specs.Trees.{KindTree, Tree, at, k_bag, k_boolean, k_bytes, k_chars, k_int, k_long, k_map, k_tuple, or_null, v_chars, v_int, v_long}
use Rattle.pig_value.specs.declared.functions.Function.{Function}
use Rattle.pig_value.specs.declared.functions.Function.TheVariants as f
use Rattle.pig_value.specs.declared.operators.Dir.{Dir}
use Rattle.pig_value.specs.declared.operators.Dir.TheVariants as dir
use Rattle.pig_value.proofs.list_laws.Bags.{each-sort}
use Rattle.pig_value.proofs.list_laws.Distinct.{each-distinct}
use Rattle.pig_value.proofs.list_laws.Listing.{each-filter, each-map, each_weaker}
use Rattle.pig_typed.specs.Evaluation.{ev}
use Rattle.pig_typed.specs.Typed.{TypedBlock}
use Rattle.pig_algebra.specs.Combining.{finished, folded}
use Rattle.pig_algebra.specs.Cuts.{TypedCut, c_key, c_part, c_row, cuts_in}
use Rattle.pig_algebra.specs.Parts.{merging}
use Rattle.pig_plan.proofs.Carries.{each-flat_map}
use Rattle.pig_plan.proofs.OfKinds.{Each}
use Rattle.pig_plan.specs.NodeKinds.{RowKinds}

-- ---- columns of parts

-- where a long is of a kind, so is any other
any_long : (k : KindTree) (a b : ℤ) → IsOf (long_of a) k → IsOf (long_of b) k
any_long k_long a b h = tt
any_long k_boolean a b h = absurd h
any_long k_int a b h = absurd h
any_long k_chars a b h = absurd h
any_long k_bytes a b h = absurd h
any_long (k_tuple ks) a b h = absurd h
any_long (k_bag ks) a b h = absurd h
any_long (k_map k) a b h = absurd h

sum_is : (k : KindTree) (vs : List Tree) → AllByRecursion (λ v. IsOf (column_tree f.Sum (v ∷ [])) k) vs → IsOf (column_tree f.Sum vs) k
sum_is k [] h = tt
sum_is k (v ∷ vs) h = by_whole (whole_of v) h.0 (filter_map whole_of vs) (sum_is k vs h.1)
  where
    by_whole : (found : Option ℤ) → IsOf (or_null (sum_found (cons_option found []))) k → (zs : List ℤ) → IsOf (or_null (sum_found zs)) k
        → IsOf (or_null (sum_found (cons_option found zs))) k
    by_whole None alone zs rest = rest
    by_whole (Some z) alone zs rest = any_long k (sum_ℤ (z ∷ [])) (sum_ℤ (z ∷ zs)) alone

ranked_each : (d : Dir) (k : KindTree) (vs : List Tree) → AllByRecursion (λ v. IsOf (or_null (first_found d (v ∷ []))) k) vs
    → AllByRecursion (λ v. IsOf v k) (filter is_ranked vs)
ranked_each d k [] h = tt
ranked_each d k (v_int z ∷ vs) h = (h.0, ranked_each d k vs h.1)
ranked_each d k (v_long z ∷ vs) h = (h.0, ranked_each d k vs h.1)
ranked_each d k (v_chars text ∷ vs) h = (h.0, ranked_each d k vs h.1)
ranked_each d k (v ∷ vs) h = ranked_each d k vs h.1

first_is : (k : KindTree) (vs : List Tree) → AllByRecursion (λ v. IsOf v k) vs → IsOf (or_null (slice_get vs 0)) k
first_is k [] h = tt
first_is k (v ∷ vs) h = h.0

ranked_is : (d : Dir) (k : KindTree) (vs : List Tree) → AllByRecursion (λ v. IsOf (or_null (first_found d (v ∷ []))) k) vs
    → IsOf (or_null (first_found d vs)) k
ranked_is d k vs h = first_is k (sort (dir_cmp d) (filter is_ranked vs)) (each-sort (dir_cmp d) (λ v. IsOf v k) (filter is_ranked vs) (ranked_each d k vs h))

column_is : (function : Function) (k : KindTree) (vs : List Tree) → AllByRecursion (λ v. IsOf (column_tree (merging function) (v ∷ [])) k) vs
    → IsOf (column_tree (merging function) vs) k
column_is f.Count k vs h = sum_is k vs h
column_is f.CountStar k vs h = sum_is k vs h
column_is f.Sum k vs h = sum_is k vs h
column_is f.Min k vs h = ranked_is dir.Asc k vs h
column_is f.Max k vs h = ranked_is dir.Desc k vs h
column_is function k vs h = tt

-- ---- rows of parts

-- what is made of the key alone is of these kinds, and so is what is made of the parts of a row alone
abbrev KeyGives : List TypedCut → RowKinds → Tree → Type 0
KeyGives [] [] key = ⊤
KeyGives [] (k ∷ ks) key = ⊥
KeyGives (cut ∷ cuts) [] key = ⊥
KeyGives (c_key e ∷ cuts) (k ∷ ks) key = IsOf (ev e (key ∷ []) []) k × KeyGives cuts ks key
KeyGives (c_part function columns ∷ cuts) (k ∷ ks) key = KeyGives cuts ks key
KeyGives (c_row ∷ cuts) (k ∷ ks) key = IsOf key k × KeyGives cuts ks key

abbrev PartGives : List TypedCut → RowKinds → List Tree → Type 0
PartGives [] ks row = ⊤
PartGives (cut ∷ cuts) [] row = ⊤
PartGives (c_key e ∷ cuts) (k ∷ ks) row = PartGives cuts ks row
PartGives (c_part function columns ∷ cuts) (k ∷ ks) row = IsOf (column_tree (merging function) (at 0 row ∷ [])) k × PartGives cuts ks (drop 1 row)
PartGives (c_row ∷ cuts) (k ∷ ks) row = PartGives cuts ks (drop 1 row)

both_give : (cuts : List TypedCut) (ks : RowKinds) (key : Tree) (row : List Tree) → IsRowOf (finished cuts key (row ∷ [])) ks
    → KeyGives cuts ks key × PartGives cuts ks row
both_give [] [] key row h = (tt, tt)
both_give [] (k ∷ ks) key row h = absurd h
both_give (c_key e ∷ cuts) [] key row h = absurd h
both_give (c_part function columns ∷ cuts) [] key row h = absurd h
both_give (c_row ∷ cuts) [] key row h = absurd h
both_give (c_key e ∷ cuts) (k ∷ ks) key row h = let rest = both_give cuts ks key row h.1 in ((h.0, rest.0), rest.1)
both_give (c_part function columns ∷ cuts) (k ∷ ks) key row h = let rest = both_give cuts ks key (drop 1 row) h.1 in (rest.0, (h.0, rest.1))
both_give (c_row ∷ cuts) (k ∷ ks) key row h = let rest = both_give cuts ks key (drop 1 row) h.1 in ((h.0, rest.0), rest.1)

all_finish : (cuts : List TypedCut) (ks : RowKinds) (key : Tree) (rows : List (List Tree)) → KeyGives cuts ks key → AllByRecursion (PartGives cuts ks) rows
    → IsRowOf (finished cuts key rows) ks
all_finish [] [] key rows h g = tt
all_finish [] (k ∷ ks) key rows h g = absurd h
all_finish (c_key e ∷ cuts) [] key rows h g = absurd h
all_finish (c_part function columns ∷ cuts) [] key rows h g = absurd h
all_finish (c_row ∷ cuts) [] key rows h g = absurd h
all_finish (c_key e ∷ cuts) (k ∷ ks) key rows h g = (h.0, all_finish cuts ks key rows h.1 g)
all_finish (c_part function columns ∷ cuts) (k ∷ ks) key rows h g = (
  column_is function k (map (at 0) rows)
      (each-map (λ v. IsOf (column_tree (merging function) (v ∷ [])) k) (at 0) rows
      (each_weaker (PartGives (c_part function columns ∷ cuts) (k ∷ ks)) (λ row. IsOf (column_tree (merging function) (at 0 row ∷ [])) k)
      (λ row i. i.0) rows g)),
  all_finish cuts ks key (map (drop 1) rows) h
      (each-map (PartGives cuts ks) (drop 1) rows
      (each_weaker (PartGives (c_part function columns ∷ cuts) (k ∷ ks)) (λ row. PartGives cuts ks (drop 1 row)) (λ row i. i.1) rows g)),
)
all_finish (c_row ∷ cuts) (k ∷ ks) key rows h g = (h.0, all_finish cuts ks key (map (drop 1) rows) h.1 (each-map (PartGives cuts ks) (drop 1) rows g))

-- ---- key by key

pub all_folded : (block : TypedBlock) (ks : RowKinds) (entries : List Entry)
    → AllByRecursion (λ e. IsRowOf (finished (cuts_in block) e.key (e.row ∷ [])) ks) entries → Each ks (folded block entries)
all_folded block ks entries h =
    let cuts : List TypedCut = cuts_in block in
    let both : AllByRecursion (λ e. KeyGives (cuts_in block) ks e.key × PartGives (cuts_in block) ks e.row) entries =
    each_weaker (λ e. IsRowOf (finished (cuts_in block) e.key (e.row ∷ [])) ks) (λ e. KeyGives (cuts_in block) ks e.key × PartGives (cuts_in block) ks e.row)
    (λ e i. both_give (cuts_in block) ks e.key e.row i) entries h in
    each-flat_map (λ row. IsRowOf row ks) (λ key. finished (cuts_in block) key (map (λ e. e.row) (with_key tree_cmp (λ e. e.key) key entries)) ∷ [])
    (distinct tree_cmp (map (λ e. e.key) entries))
    (each_weaker (KeyGives (cuts_in block) ks) _
    (λ key ok. (
      all_finish (cuts_in block) ks key (map (λ e. e.row) (with_key tree_cmp (λ e. e.key) key entries)) ok
          (each-map (PartGives (cuts_in block) ks) (λ e. e.row) (with_key tree_cmp (λ e. e.key) key entries)
          (each_weaker (λ e. KeyGives (cuts_in block) ks e.key × PartGives (cuts_in block) ks e.row) (λ e. PartGives (cuts_in block) ks e.row) (λ e i. i.1)
          (with_key tree_cmp (λ e. e.key) key entries)
          (each-filter _ (λ e. KeyGives (cuts_in block) ks e.key × PartGives (cuts_in block) ks e.row) entries both))),
      tt,
    ))
    (distinct tree_cmp (map (λ e. e.key) entries))
    (each-distinct tree_cmp (KeyGives (cuts_in block) ks) (map (λ e. e.key) entries)
    (each-map (KeyGives (cuts_in block) ks) (λ e. e.key) entries
    (each_weaker (λ e. KeyGives (cuts_in block) ks e.key × PartGives (cuts_in block) ks e.row) (λ e. KeyGives (cuts_in block) ks e.key)
    (λ e i. i.0) entries both))))
