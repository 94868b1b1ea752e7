-- On values, an expression gives a value, and a block rows of values.
use Rattle.std.specs.Prelude.{◌≡◌, ◌<◌, ◌^◌, ℕ, ℤ, Bool, List, [], ◌∷◌, take, Option, Some, None, FitsSigned, refl}
use Rattle.std.specs.Int.{w32, w64}
use Rattle.std.specs.List.{filter, AllByRecursion}
use Rattle.std.specs.Option.{option_map}
use Rattle.std.proofs.Common.{sym, subst, lit<}
use Rattle.pig_value.specs.Functions.{bag_tree}
use Rattle.pig_value.specs.Orders.{row_cmp}
use Rattle.pig_value.specs.Sorts.{distinct}
use Rattle.pig_value.specs.Trees.{or_null, Tree, Fields, Tuples, Entries, v_null, v_bool, v_int, v_long, v_chars, v_bytes, v_tuple, v_bag, v_listed, v_map, no_entries, more_entries, fields_list, fields_of, tuples_list, tuples_of, entries_list}
use Rattle.pig_value.specs.Valid.{IsValue, IsRow, AreRows, AreFields, AreTuples, AreEntries}
use Rattle.pig_value.specs.declared.operators.ChainOp.{ChainOp}
use Rattle.pig_value.proofs.CastKinds.{cast_is_value, int_fits_long}
use Rattle.pig_value.proofs.OfRead.{OfRead}
use Rattle.pig_value.proofs.OrderLaws.{row_total}
use Rattle.pig_value.proofs.TreeLaws.{fields_there, tuples_there}
use Rattle.pig_value.proofs.ValidLaws.{bag_is_value, bag_value, bag_value-filter, bag_value-take, row_each, row_from_each, rows_each, rows_from_each}
use Rattle.pig_value.proofs.list_laws.Bags.{sorted_is}
use Rattle.pig_value.proofs.list_laws.Distinct.{distinct_ascends, each-distinct}
use Rattle.pig_value.proofs.list_laws.Listing.{each_weaker}
use Rattle.pig_typed.specs.Operators.{arithmetic, minus_tree, number_by}
use Rattle.pig_typed.specs.Premises.{FunctionsKeepValues}
use Rattle.pig_typed.proofs.Carried.{IsCarried}
use Rattle.pig_typed.proofs.Widths.{neg_fits, number_fits}

int_value : (z : Option ℤ) → OfRead (FitsSigned w32) z → IsValue (or_null (option_map v_int z))
int_value None h = tt
int_value (Some z) h = h

long_value : (z : Option ℤ) → OfRead (FitsSigned w64) z → IsValue (or_null (option_map v_long z))
long_value None h = tt
long_value (Some z) h = h

number_value : (operator : ChainOp) (v w : Tree) → IsValue v → IsValue w → IsValue (arithmetic operator v w)
number_value operator (v_int a) (v_int b) h g = int_value (number_by operator w32 a b) (number_fits w32 (lit< tt) operator a b h g)
number_value operator (v_int a) (v_long b) h g = long_value (number_by operator w64 a b) (number_fits w64 (lit< tt) operator a b (int_fits_long a h) g)
number_value operator (v_long a) (v_int b) h g = long_value (number_by operator w64 a b) (number_fits w64 (lit< tt) operator a b h (int_fits_long b g))
number_value operator (v_long a) (v_long b) h g = long_value (number_by operator w64 a b) (number_fits w64 (lit< tt) operator a b h g)
number_value operator v w h g = tt

minus_value : (v : Tree) → IsValue v → IsValue (minus_tree v)
minus_value (v_int z) h = neg_fits w32 (lit< tt) z h
minus_value (v_long z) h = neg_fits w64 (lit< tt) z h
minus_value v h = tt

fields_values : (vs : Fields) → AreFields vs → AllByRecursion IsValue (fields_list vs)
fields_values vs h = row_each (fields_list vs) (subst AreFields (sym (fields_there vs)) h)

tuples_values : (rs : Tuples) → AreTuples rs → AllByRecursion (AllByRecursion IsValue) (tuples_list rs)
tuples_values rs h = each_weaker IsRow (AllByRecursion IsValue) row_each (tuples_list rs) (rows_each (tuples_list rs) (subst AreTuples (sym (tuples_there rs)) h))

entries_values : (ps : Entries) → AreEntries ps → AllByRecursion (λ p. IsValue p.1) (entries_list ps)
entries_values no_entries h = tt
entries_values (more_entries key v ps) h = (h.1, entries_values ps h.2)

pub are_rows : (rows : List (List Tree)) → AllByRecursion (AllByRecursion IsValue) rows → AreRows rows
are_rows rows h = rows_from_each rows (each_weaker (AllByRecursion IsValue) IsRow row_from_each rows h)

bag_listed : (rs : Tuples) → IsValue (v_bag rs) → IsValue (v_bag (tuples_of (tuples_list rs)))
bag_listed rs h = subst (λ t. IsValue (v_bag t)) (sym (tuples_there rs)) h

once_value : (rows : List (List Tree)) → AllByRecursion (AllByRecursion IsValue) rows → IsValue (v_bag (tuples_of (distinct row_cmp rows)))
once_value rows h =
    bag_value (distinct row_cmp rows) (sorted_is row_cmp (distinct row_cmp rows) (distinct_ascends row_cmp row_total rows))
    (are_rows (distinct row_cmp rows) (each-distinct row_cmp (AllByRecursion IsValue) rows h))

pub values_carried : FunctionsKeepValues → IsCarried IsValue
values_carried functions = record {
  null = tt;
  bool = λ b. tt;
  number = number_value;
  minus = minus_value;
  cast = cast_is_value;
  call = λ f args h. functions f args (row_from_each args h);
  fields = fields_values;
  tuple = row_from_each;
  bag_rows = λ rs h. tuples_values rs h.1;
  listed_rows = tuples_values;
  bag = λ rows h. bag_is_value rows (are_rows rows h);
  listed = are_rows;
  map_values = λ ps h. entries_values ps h.1;
  filtered = λ p rs h. bag_value-filter p (tuples_list rs) (bag_listed rs h);
  limited = λ n rs h. bag_value-take n (tuples_list rs) (bag_listed rs h);
  once = once_value;
}
