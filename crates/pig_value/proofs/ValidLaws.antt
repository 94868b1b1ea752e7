-- Rows of values stay so when they are sorted, and their bag is a value.
use Rattle.std.specs.Prelude.{List, [], ◌∷◌, ◌≡◌, ◌++◌, ℕ, Bool, take, slice_get, Some}
use Rattle.std.proofs.Common.{ap, sym, ◌∙◌, subst}
use Rattle.std.specs.List.{AllByRecursion, filter}
use Rattle.pig_value.specs.Trees.{Tree, v_bag, tuples_of}
use Rattle.pig_value.proofs.TreeLaws.{tuples_back}
use Rattle.pig_value.proofs.list_laws.Bags.{each-sort, bag_once, sorted_is, sort_ascends, take_ascends, filter_ascends}
use Rattle.pig_value.proofs.list_laws.Listing.{each-append, each-filter, each-take, each_at}
use Rattle.pig_value.specs.Sorts.{Ascends}
use Rattle.pig_value.specs.Orders.{row_cmp, bag_of}
use Rattle.pig_value.proofs.OrderLaws.{row_total}
use Rattle.pig_value.specs.Valid.{IsValue, IsRow, AreRows}

-- rows of values, row by row
pub rows_each : (rows : List (List Tree)) → AreRows rows → AllByRecursion IsRow rows
rows_each [] h = tt
rows_each (row ∷ rows) h = (h.0, rows_each rows h.1)

pub rows_from_each : (rows : List (List Tree)) → AllByRecursion IsRow rows → AreRows rows
rows_from_each [] h = tt
rows_from_each (row ∷ rows) h = (h.0, rows_from_each rows h.1)

pub rows_sorted : (rows : List (List Tree)) → AreRows rows → AreRows (bag_of rows)
rows_sorted rows h = rows_from_each (bag_of rows) (each-sort row_cmp IsRow rows (rows_each rows h))

-- the bag of rows of values is a value
pub bag_is_value : (rows : List (List Tree)) → AreRows rows → IsValue (v_bag (tuples_of (bag_of rows)))
bag_is_value rows h =
    (ap bag_of (tuples_back (bag_of rows)) ∙ bag_once row_cmp row_total rows ∙ sym (tuples_back (bag_of rows)), rows_sorted rows h)

-- joined rows, one field, and so many nulls
pub row_each : (row : List Tree) → IsRow row → AllByRecursion IsValue row
row_each [] h = tt
row_each (v ∷ row) h = (h.0, row_each row h.1)

pub row_from_each : (row : List Tree) → AllByRecursion IsValue row → IsRow row
row_from_each [] h = tt
row_from_each (v ∷ row) h = (h.0, row_from_each row h.1)

pub valid_field : (row : List Tree) (i : ℕ) (v : Tree) → slice_get row i ≡ Some v → IsRow row → IsValue v
valid_field row i v at h = each_at IsValue row i v at (row_each row h)

-- rows that are joined or left out
pub valid_rows-append : (xs ys : List (List Tree)) → AreRows xs → AreRows ys → AreRows (xs ++ ys)
valid_rows-append xs ys h k = rows_from_each (xs ++ ys) (each-append IsRow xs ys (rows_each xs h) (rows_each ys k))

pub valid_rows-take : (n : ℕ) (rows : List (List Tree)) → AreRows rows → AreRows (take n rows)
valid_rows-take n rows h = rows_from_each (take n rows) (each-take IsRow n rows (rows_each rows h))

pub valid_rows-filter : (p : List Tree → Bool) (rows : List (List Tree)) → AreRows rows → AreRows (filter p rows)
valid_rows-filter p rows h = rows_from_each (filter p rows) (each-filter p IsRow rows (rows_each rows h))

-- a bag's first tuples, and those of it that pass a test, are a bag
ascends : (rows : List (List Tree)) → bag_of rows ≡ rows → Ascends row_cmp rows
ascends rows h = subst (Ascends row_cmp) h (sort_ascends row_cmp row_total rows)

pub bag_of-take : (n : ℕ) (rows : List (List Tree)) → bag_of rows ≡ rows → bag_of (take n rows) ≡ take n rows
bag_of-take n rows h = sorted_is row_cmp (take n rows) (take_ascends row_cmp n rows (ascends rows h))

pub bag_of-filter : (p : List Tree → Bool) (rows : List (List Tree)) → bag_of rows ≡ rows → bag_of (filter p rows) ≡ filter p rows
bag_of-filter p rows h = sorted_is row_cmp (filter p rows) (filter_ascends row_cmp row_total p rows (ascends rows h))

-- a bag of such rows is a value
pub bag_value : (rows : List (List Tree)) → bag_of rows ≡ rows → AreRows rows → IsValue (v_bag (tuples_of rows))
bag_value rows h k = (ap bag_of (tuples_back rows) ∙ h ∙ sym (tuples_back rows), k)

pub value_bag : (rows : List (List Tree)) → IsValue (v_bag (tuples_of rows)) → (bag_of rows ≡ rows) × AreRows rows
value_bag rows h = (ap bag_of (sym (tuples_back rows)) ∙ h.0 ∙ tuples_back rows, h.1)

pub bag_value-take : (n : ℕ) (rows : List (List Tree)) → IsValue (v_bag (tuples_of rows)) → IsValue (v_bag (tuples_of (take n rows)))
bag_value-take n rows h =
    let both = value_bag rows h in
    bag_value (take n rows) (bag_of-take n rows both.0) (valid_rows-take n rows both.1)

pub bag_value-filter : (p : List Tree → Bool) (rows : List (List Tree)) → IsValue (v_bag (tuples_of rows)) → IsValue (v_bag (tuples_of (filter p rows)))
bag_value-filter p rows h =
    let both = value_bag rows h in
    bag_value (filter p rows) (bag_of-filter p rows both.0) (valid_rows-filter p rows both.1)
