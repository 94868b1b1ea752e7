-- Of what holds no LF, an expression gives what holds none, and so does a block.
use Rattle.std.specs.Prelude.{◌≡◌, ℕ, ℤ, Bool, List, [], ◌∷◌, take, Option, Some, None, refl}
use Rattle.std.specs.List.{filter, All, AllByRecursion}
use Rattle.std.specs.Option.{option_map}
use Rattle.std.proofs.Common.{sym, subst}
use Rattle.std.proofs.lemmas.List.Elements.{All-cons, All-head, All-nil, All-tail}
use Rattle.pig_value.specs.Orders.{row_cmp}
use Rattle.pig_value.specs.Sorts.{distinct}
use Rattle.pig_value.specs.Texts.{line_free, IsLineFree, IsLineFreeRow, AreLineFreeRows, FieldsAreLineFree, TuplesAreLineFree, EntriesAreLineFree}
use Rattle.pig_value.specs.Trees.{or_null, Tree, Fields, Tuples, Entries, v_null, v_bool, v_int, v_long, v_chars, v_bytes, v_tuple, v_bag, v_listed, v_map, no_entries, more_entries, fields_list, fields_of, tuples_list, tuples_of, entries_list}
use Rattle.pig_value.specs.Valid.{IsRow, IsValue}
use Rattle.pig_value.specs.declared.operators.ChainOp.{ChainOp}
use Rattle.pig_value.proofs.CastFree.{cast_free}
use Rattle.pig_value.proofs.LeafLaws.{RowLeavesAre, RowsLeavesAre, fields_each, fields_from_each, rows-filter, rows-sort, rows-take, tuples_each, tuples_from_each}
use Rattle.pig_value.proofs.TreeLaws.{fields_there, tuples_there}
use Rattle.pig_value.proofs.ValidLaws.{row_each, row_from_each}
use Rattle.pig_value.proofs.list_laws.Distinct.{each-distinct}
use Rattle.pig_value.proofs.list_laws.Listing.{each_weaker}
use Rattle.pig_typed.specs.Operators.{arithmetic, minus_tree, number_by}
use Rattle.pig_typed.specs.Premises.{FunctionsKeepLines, FunctionsKeepValues, IsLineFreeValue}
use Rattle.pig_typed.proofs.Carried.{IsCarried}
use Rattle.pig_typed.proofs.ValuesCarried.{values_carried}

int_free : (z : Option ℤ) → IsLineFree (or_null (option_map v_int z))
int_free None = tt
int_free (Some z) = tt

long_free : (z : Option ℤ) → IsLineFree (or_null (option_map v_long z))
long_free None = tt
long_free (Some z) = tt

number_free : (operator : ChainOp) (v w : Tree) → IsLineFree v → IsLineFree w → IsLineFree (arithmetic operator v w)
number_free operator (v_int a) (v_int b) h g = int_free _
number_free operator (v_int a) (v_long b) h g = long_free _
number_free operator (v_long a) (v_int b) h g = long_free _
number_free operator (v_long a) (v_long b) h g = long_free _
number_free operator v w h g = tt

minus_free : (v : Tree) → IsLineFree v → IsLineFree (minus_tree v)
minus_free (v_int z) h = tt
minus_free (v_long z) h = tt
minus_free v h = tt

fields_free : (vs : Fields) → FieldsAreLineFree vs → AllByRecursion IsLineFree (fields_list vs)
fields_free vs h = fields_each line_free (fields_list vs) (subst FieldsAreLineFree (sym (fields_there vs)) h)

tuples_free : (rs : Tuples) → TuplesAreLineFree rs → AllByRecursion (AllByRecursion IsLineFree) (tuples_list rs)
tuples_free rs h =
    each_weaker (RowLeavesAre line_free) (AllByRecursion IsLineFree) (fields_each line_free) (tuples_list rs)
    (tuples_each line_free (tuples_list rs) (subst TuplesAreLineFree (sym (tuples_there rs)) h))

entries_free : (ps : Entries) → EntriesAreLineFree ps → AllByRecursion (λ p. IsLineFree p.1) (entries_list ps)
entries_free no_entries h = tt
entries_free (more_entries key v ps) h = (h.1, entries_free ps h.2)

rows_free : (rows : List (List Tree)) → AllByRecursion (AllByRecursion IsLineFree) rows → RowsLeavesAre line_free rows
rows_free rows h = tuples_from_each line_free rows (each_weaker (AllByRecursion IsLineFree) (RowLeavesAre line_free) (fields_from_each line_free) rows h)

-- what holds at each index, by recursion and back
each_of : {X : Type 0} (P : X → Type 0) (xs : List X) → All P xs → AllByRecursion P xs
each_of P [] h = tt
each_of P (x ∷ xs) h = (All-head P x xs h, each_of P xs (All-tail P x xs h))

all_from : {X : Type 0} (P : X → Type 0) (xs : List X) → AllByRecursion P xs → All P xs
all_from P [] h = All-nil P
all_from P (x ∷ xs) h = All-cons P x xs h.0 (all_from P xs h.1)

all_rows : (rows : List (List Tree)) → AllByRecursion (AllByRecursion IsLineFree) rows → AreLineFreeRows rows
all_rows rows h = all_from IsLineFreeRow rows (each_weaker (AllByRecursion IsLineFree) IsLineFreeRow (λ row i. all_from IsLineFree row i) rows h)

-- two facts of each element as one, and back
module _ {X : Type 0} (P Q : X → Type 0) where
  both_each : (xs : List X) → AllByRecursion P xs → AllByRecursion Q xs → AllByRecursion (λ x. P x × Q x) xs
  both_each [] h g = tt
  both_each (x ∷ xs) h g = ((h.0, g.0), both_each xs h.1 g.1)

  first_each : (xs : List X) → AllByRecursion (λ x. P x × Q x) xs → AllByRecursion P xs
  first_each xs h = each_weaker (λ x. P x × Q x) P (λ x i. i.0) xs h

  second_each : (xs : List X) → AllByRecursion (λ x. P x × Q x) xs → AllByRecursion Q xs
  second_each xs h = each_weaker (λ x. P x × Q x) Q (λ x i. i.1) xs h

  both_rows : (rows : List (List X)) → AllByRecursion (AllByRecursion P) rows → AllByRecursion (AllByRecursion Q) rows → AllByRecursion (AllByRecursion (λ x. P x × Q x)) rows
  both_rows [] h g = tt
  both_rows (row ∷ rows) h g = (both_each row h.0 g.0, both_rows rows h.1 g.1)

  first_rows : (rows : List (List X)) → AllByRecursion (AllByRecursion (λ x. P x × Q x)) rows → AllByRecursion (AllByRecursion P) rows
  first_rows rows h = each_weaker (AllByRecursion (λ x. P x × Q x)) (AllByRecursion P) first_each rows h

  second_rows : (rows : List (List X)) → AllByRecursion (AllByRecursion (λ x. P x × Q x)) rows → AllByRecursion (AllByRecursion Q) rows
  second_rows rows h = each_weaker (AllByRecursion (λ x. P x × Q x)) (AllByRecursion Q) second_each rows h

pub lines_carried : FunctionsKeepValues → FunctionsKeepLines → IsCarried IsLineFreeValue
lines_carried values lines =
    let v : IsCarried IsValue = values_carried values in
    record {
      null = (tt, tt);
      bool = λ b. (tt, tt);
      number = λ operator x y h g. (v.number operator x y h.0 g.0, number_free operator x y h.1 g.1);
      minus = λ x h. (v.minus x h.0, minus_free x h.1);
      cast = λ to x h. (v.cast to x h.0, cast_free to x h.1);
      call = λ f args h.
          (v.call f args (first_each IsValue IsLineFree args h), lines f args (row_from_each args (first_each IsValue IsLineFree args h)) (all_from IsLineFree args (second_each IsValue IsLineFree args h)));
      fields = λ vs h. both_each IsValue IsLineFree (fields_list vs) (v.fields vs h.0) (fields_free vs h.1);
      tuple = λ row h. (v.tuple row (first_each IsValue IsLineFree row h), fields_from_each line_free row (second_each IsValue IsLineFree row h));
      bag_rows = λ rs h. both_rows IsValue IsLineFree (tuples_list rs) (v.bag_rows rs h.0) (tuples_free rs h.1);
      listed_rows = λ rs h. both_rows IsValue IsLineFree (tuples_list rs) (v.listed_rows rs h.0) (tuples_free rs h.1.1);
      bag = λ rows h. (v.bag rows (first_rows IsValue IsLineFree rows h), rows-sort line_free rows (rows_free rows (second_rows IsValue IsLineFree rows h)));
      listed = λ rows h. (v.listed rows (first_rows IsValue IsLineFree rows h), (tt, rows_free rows (second_rows IsValue IsLineFree rows h)));
      map_values = λ ps h. both_each (λ p. IsValue p.1) (λ p. IsLineFree p.1) (entries_list ps) (v.map_values ps h.0) (entries_free ps h.1);
      filtered = λ p rs h. (v.filtered p rs h.0, rows-filter line_free p (tuples_list rs) (subst TuplesAreLineFree (sym (tuples_there rs)) h.1));
      limited = λ n rs h. (v.limited n rs h.0, rows-take line_free n (tuples_list rs) (subst TuplesAreLineFree (sym (tuples_there rs)) h.1));
      once = λ rows h.
          (v.once rows (first_rows IsValue IsLineFree rows h), rows_free (distinct row_cmp rows) (each-distinct row_cmp (AllByRecursion IsLineFree) rows (second_rows IsValue IsLineFree rows h)));
    }

-- a row of values without an LF, and that the rows that are made of it hold none
pub line_free_row : (row : List Tree) → IsRow row → IsLineFreeRow row → AllByRecursion IsLineFreeValue row
line_free_row row h g = both_each IsValue IsLineFree row (row_each row h) (each_of IsLineFree row g)

pub line_free_rows : (rows : List (List Tree)) → AllByRecursion (AllByRecursion IsLineFreeValue) rows → AreLineFreeRows rows
line_free_rows rows h = all_rows rows (second_rows IsValue IsLineFree rows h)
