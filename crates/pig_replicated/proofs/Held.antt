-- What a lookup finds of the rows that it was made of.
use Rattle.std.specs.Prelude.{◌≡◌, Bool, List, [], ◌∷◌, map, if◌then◌else◌}
use Rattle.std.proofs.Common.{ap, ◌∙◌}
use Rattle.std.specs.Cmp.{IsTotalOrder}
use Rattle.std.specs.List.{filter}
use Rattle.std.specs.List.Sorted.{IsPermutation}
use Rattle.std.specs.Ordering.{is_eq}
use Rattle.std.specs.declared.cmp.Ordering.TheVariants.{Equal}
use Rattle.std.proofs.lemmas.List.{map-id}
use Rattle.std.proofs.lemmas.List.Sorted.{IsPermutation-map, IsPermutation-sym}
use Rattle.std.proofs.lemmas.Simd.{map-map}
use Rattle.pig_value.specs.Orders.{bag_of, row_cmp, tree_cmp}
use Rattle.pig_value.specs.Trees.{Tree, v_null}
use Rattle.pig_value.proofs.OrderLaws.{row_same, row_total}
use Rattle.pig_value.proofs.list_laws.Bags.{bag_from_permutation, permutation_from_bag, sort_permutes}
use Rattle.pig_value.proofs.list_laws.Listing.{filter-map}
use Rattle.pig_value.proofs.list_laws.Permutations.{IsPermutation-filter}
use Rattle.pig_typed.specs.Typed.{Typed}
use Rattle.pig_plan.specs.ByKey.{holds_null}
use Rattle.pig_replicated.specs.Holding.{KeyedRow, key_in, keyed_cmp, keyed_row, lookup_of, matches_in}
use Rattle.pig_replicated.specs.Laws.{LookupsFindRows, LookupsSeeBags, rows_with}

-- ---- a row with its key goes as the row that has its key in front

abbrev pub in_front : KeyedRow → List Tree
in_front r = r.key ∷ r.row

abbrev from_front : List Tree → KeyedRow
from_front [] = record { key = v_null; row = [] }
from_front (key ∷ row) = record { key = key; row = row }

pub keyed_total : IsTotalOrder keyed_cmp
keyed_total = record {
  antisymm = λ x y. row_total.antisymm (in_front x) (in_front y);
  trans = λ x y z. row_total.trans (in_front x) (in_front y) (in_front z);
  congr = λ x y z. row_total.congr (in_front x) (in_front y) (in_front z);
}

pub keyed_same : (x y : KeyedRow) → keyed_cmp x y ≡ Equal → x ≡ y
keyed_same x y h = ap from_front (row_same (in_front x) (in_front y) h)

-- ---- what is found

module _ (keys : List Typed) (rows : List (List Tree)) (key : Tree) where
  abbrev has : KeyedRow → Bool
  has r = is_eq (tree_cmp r.key key)

  abbrev entries : List KeyedRow
  entries = map (keyed_row keys) rows

  found_given : map (λ r. r.row) (filter has entries) ≡ filter (λ row. is_eq (tree_cmp (key_in keys row) key)) rows
  found_given =
      let found = filter (λ row. is_eq (tree_cmp (key_in keys row) key)) rows in
      ap (map (λ r. r.row)) (filter-map has (keyed_row keys) rows) ∙ map-map (λ r. r.row) (keyed_row keys) found ∙ map-id found

  found_permutes : IsPermutation (map (λ r. r.row) (filter has (lookup_of keys rows))) (map (λ r. r.row) (filter has entries))
  found_permutes =
      IsPermutation-map (λ r. r.row) (filter has (lookup_of keys rows)) (filter has entries)
      (IsPermutation-filter has (lookup_of keys rows) entries (IsPermutation-sym entries (lookup_of keys rows) (sort_permutes keyed_cmp entries)))

  pub found_rows : matches_in (lookup_of keys rows) key ≡ rows_with keys rows key
  found_rows =
      ap (λ found. if holds_null key then [] else found)
      (bag_from_permutation row_cmp row_total row_same (map (λ r. r.row) (filter has (lookup_of keys rows))) (map (λ r. r.row) (filter has entries)) found_permutes ∙ ap bag_of found_given)

pub lookups_find : LookupsFindRows
lookups_find keys rows key = found_rows keys rows key

pub lookups_see : LookupsSeeBags
lookups_see keys rows others h =
    bag_from_permutation keyed_cmp keyed_total keyed_same (map (keyed_row keys) rows) (map (keyed_row keys) others)
    (IsPermutation-map (keyed_row keys) rows others (permutation_from_bag row_cmp rows others h))
