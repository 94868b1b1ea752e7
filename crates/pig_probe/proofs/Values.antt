-- What is made of rows of values by a probe is rows of values.
use Rattle.std.specs.Prelude.{◌≡◌, ◌<◌, ◌+◌, ℕ, zero, suc, Bool, true, false, List, [], ◌∷◌, ◌++◌, drop, get_or, length, map, refl, if◌then◌else◌}
use Rattle.std.proofs.Common.{ap, sym, ◌∙◌, arith, append_assoc, subst}
use Rattle.std.specs.List.{AllByRecursion}
use Rattle.std.specs.Ordering.{is_eq}
use Rattle.pig_value.specs.Gathering.{with_key}
use Rattle.pig_value.specs.Orders.{row_cmp, tree_cmp}
use Rattle.pig_value.specs.declared.values.Value.{Value}
use Rattle.pig_value.specs.Trees.{Tree, row_tree, rows_tree}
use Rattle.pig_value.specs.Valid.{AreRows, IsRow, IsValue}
use Rattle.pig_value.proofs.ValidLaws.{row_each, row_from_each}
use Rattle.pig_value.proofs.list_laws.Bags.{each-sort}
use Rattle.pig_value.proofs.list_laws.Listing.{each-append, each-filter, each-map}
use Rattle.pig_typed.specs.Typed.{typed}
use Rattle.pig_typed.specs.declared.exprs.TExpr.{TExpr}
use Rattle.pig_plan.specs.ByKey.{holds_null, nulls}
use Rattle.pig_replicated.specs.Holding.{KeyedRow, rows_under}
use Rattle.pig_probe.specs.Probing.{HoldsRows, SidesSeen, probed_by, probed_row}

abbrev Row : Type 0
Row = List Tree

pub both_rows : (x y : Row) → IsRow x → IsRow y → IsRow (x ++ y)
both_rows x y h g = row_from_each (x ++ y) (each-append IsValue x y (row_each x h) (row_each y g))

pub nulls_row : (n : ℕ) → IsRow (nulls n)
nulls_row zero = tt
nulls_row (suc n) = (tt, nulls_row n)

module _ (key : Tree) where
  under_rows : (held : List KeyedRow) → HoldsRows held → AllByRecursion IsRow (rows_under key held)
  under_rows held h =
      let found = with_key tree_cmp (λ r. r.key) key held in
      each-sort row_cmp IsRow (map (λ r. r.row) found)
      (each-map IsRow (λ r. r.row) found (each-filter (λ r. is_eq (tree_cmp r.key key)) (λ r. IsRow r.row) held h))

  pub matched : (b : Bool) → holds_null key ≡ b → (held : List KeyedRow) → HoldsRows held → AllByRecursion IsRow (if b then [] else rows_under key held)
  matched true e held h = tt
  matched false e held h = under_rows held h

-- ---- row by row

drop_at : {X : Type 0} (xs : List X) (i : ℕ) (d : X) → i < length xs → drop i xs ≡ get_or xs i d ∷ drop (i + 1) xs
drop_at [] i d less = absurd (omega (arith, less))
drop_at (x ∷ xs) zero d less = refl
drop_at (x ∷ xs) (suc i) d less = drop_at xs i d (omega (arith, less)) ∙ (let e : suc (i + 1) ≡ suc i + 1 = omega arith in ap (λ n. get_or xs i d ∷ drop n (x ∷ xs)) e)

-- the next row's are added, and those of the rows behind it are to come
pub one_probed : (keys : List TExpr) (sides : SidesSeen) (whole : List (List Value)) (i : ℕ) (row : List Value) (old new all : List Row)
    → i < length whole → row ≡ get_or whole i row
    → (old ++ probed_by sides (map typed keys) (rows_tree (drop i whole)) ≡ all) × AreRows (rows_tree (drop i whole))
    → new ≡ old ++ probed_row sides (map typed keys) (row_tree row)
    → (new ++ probed_by sides (map typed keys) (rows_tree (drop (i + 1) whole)) ≡ all) × AreRows (rows_tree (drop (i + 1) whole))
one_probed keys sides whole i row old new all less is so_far made =
    let given : Row → List Row = probed_row sides (map typed keys) in
    let later : List Row = rows_tree (drop (i + 1) whole) in
    let split : rows_tree (drop i whole) ≡ row_tree row ∷ later = ap rows_tree (drop_at whole i row less) ∙ ap (λ x. row_tree x ∷ later) (sym is) in (
      ap (λ front. front ++ probed_by sides (map typed keys) later) made
          ∙ append_assoc old (given (row_tree row)) (probed_by sides (map typed keys) later)
          ∙ ap (λ rows. old ++ probed_by sides (map typed keys) rows) (sym split) ∙ so_far.0,
      (subst AreRows split so_far.1).1,
    )
