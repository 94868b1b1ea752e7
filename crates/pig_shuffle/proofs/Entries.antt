-- Entries by partition, and those that are combined: the entries of a partition of combined entries are combined from those of the
-- partition.
use Rattle.std.proofs.Common.{arith, ◌≡◌, ◌≢◌, ℕ, List, [], ◌∷◌, ◌++◌, map, refl, sym, ◌∙◌, ap, cond, append-nil}
use Rattle.std.specs.Prelude.{◌==◌, ◌&&◌, min, Bool, true, false}
use Rattle.std.specs.List.{filter, flat_map, range_with_len}
use Rattle.std.specs.Ordering.{is_eq}
use Rattle.std.proofs.Math.Nat.{mod-one}
use Rattle.std.proofs.lemmas.Bool.{eq-eqb, ne_eqb}
use Rattle.std.proofs.lemmas.List.Concat.{flat_map_single}
use Rattle.std.proofs.lemmas.List.Elements.{filter-append, filter_agree}
use Rattle.std.proofs.lemmas.Simd.{map-map}
use Rattle.pig_value.specs.Gathering.{Entry, with_key}
use Rattle.pig_value.specs.Orders.{tree_cmp}
use Rattle.pig_value.specs.Sorts.{distinct, times}
use Rattle.pig_value.specs.Trees.{Tree}
use Rattle.pig_value.proofs.OrderLaws.{tree_same, tree_total}
use Rattle.pig_value.proofs.list_laws.Bags.{eq_is, times-append}
use Rattle.pig_value.proofs.list_laws.Distinct.{distinct_same, filter-distinct, times-distinct}
use Rattle.pig_value.proofs.list_laws.Listing.{each_of_all, filter-filter, filter-map, filter_all, flat_map_each, flat_map_where, map_each}
use Rattle.pig_algebra.specs.Combining.{combined}
use Rattle.pig_combine.specs.Holdings.{entry_of}
use Rattle.pig_runs.specs.Alone.{SameKeys}
use Rattle.pig_runs.specs.Entries.{run_of}
use Rattle.pig_runs.specs.Parts.{pn}
use Rattle.pig_physical.specs.Values.{partitions}
use Rattle.pig_shuffle.specs.Held.{as_added, entries_in}

abbrev Making : Type 0
Making = Tree → List (List Tree) → List Tree

-- ---- one entry more

pub here_more : (n p : ℕ) (e : Entry) (es : List Entry) → pn e.key n ≡ p → entries_in n p (es ++ e ∷ []) ≡ entries_in n p es ++ e ∷ []
here_more n p e es is =
    filter-append (λ d. pn d.key n == p) es (e ∷ [])
    ∙ ap (λ b. entries_in n p es ++ cond b (e ∷ []) []) (eq-eqb (pn e.key n) p is)

pub other_more : (n p : ℕ) (e : Entry) (es : List Entry) → pn e.key n ≢ p → entries_in n p (es ++ e ∷ []) ≡ entries_in n p es
other_more n p e es other =
    filter-append (λ d. pn d.key n == p) es (e ∷ [])
    ∙ ap (λ b. entries_in n p es ++ cond b (e ∷ []) []) (ne_eqb (pn e.key n) p other)
    ∙ append-nil (entries_in n p es)

-- the same keys, and then others
pub same_more : (xs ys zs : List Tree) → SameKeys xs ys → SameKeys (xs ++ zs) (ys ++ zs)
same_more xs ys zs same =
    distinct_same tree_cmp tree_total tree_same (xs ++ zs) (ys ++ zs)
    (λ z.
    let some : min 1 (times tree_cmp z xs) ≡ min 1 (times tree_cmp z ys) =
    sym (times-distinct tree_cmp tree_total tree_same z xs) ∙ (ap (times tree_cmp z) same ∙ times-distinct tree_cmp tree_total tree_same z ys)
    in
    let left = times-append tree_cmp z xs zs in
    let right = times-append tree_cmp z ys zs in
    omega (arith, some, left, right))

-- all entries stand in the only partition
pub all_in_one : (es : List Entry) → entries_in 1 0 es ≡ es
all_in_one es = filter_all (λ d. pn d.key 1 == 0) es (each_of_all (λ d. (pn d.key 1 == 0) ≡ true) (λ d. eq-eqb (pn d.key 1) 0 (mod-one _)) es)

-- ---- combined entries

abbrev key_in : Entry → Tree
key_in e = e.key

abbrev row_in : Entry → List Tree
row_in e = e.row

abbrev under : Tree → List Entry → List Entry
under k es = with_key tree_cmp key_in k es

abbrev keys_in : List Entry → List Tree
keys_in es = distinct tree_cmp (map key_in es)

abbrev entry_for : Making → List Entry → Tree → Entry
entry_for parts es k = record { key = k; input = 0; row = parts k (map row_in (under k es)) }

-- what is combined sees no input
pub combined_added : (parts : Making) (es : List Entry) → combined parts (as_added es) ≡ combined parts es
combined_added parts es =
    let plain : Entry → Entry = λ e. entry_of e.key e.row in
    let rows : (k : Tree) → map row_in (under k (map plain es)) ≡ map row_in (under k es) =
    λ k. ap (map row_in) (filter-map (λ e. is_eq (tree_cmp e.key k)) plain es) ∙ map-map row_in plain (under k es) in
    ap (λ ks. flat_map (λ k. entry_for parts (map plain es) k ∷ []) (distinct tree_cmp ks)) (map-map key_in plain es)
    ∙ flat_map_each (λ k. entry_for parts (map plain es) k ∷ []) (λ k. entry_for parts es k ∷ []) (keys_in es)
    (each_of_all (λ k. (entry_for parts (map plain es) k ∷ []) ≡ (entry_for parts es k ∷ []))
    (λ k. ap (λ rs. record { key = k; input = 0; row = parts k rs } ∷ []) (rows k)) (keys_in es))

implied : (b c : Bool) → (c ≡ true → b ≡ true) → (b && c) ≡ c
implied true c h = refl
implied false true h = h refl
implied false false h = refl

module _ (n p : ℕ) where
  abbrev stands : Tree → Bool
  stands k = pn k n == p

  -- the entries under a key of the partition all stand in it
  under_in_part : (k : Tree) → stands k ≡ true → (es : List Entry) → under k (entries_in n p es) ≡ under k es
  under_in_part k h es =
      filter-filter (λ e. is_eq (tree_cmp e.key k)) (λ e. stands e.key) es
      ∙ filter_agree (λ e. stands e.key && is_eq (tree_cmp e.key k)) (λ e. is_eq (tree_cmp e.key k))
      (λ e. implied (stands e.key) (is_eq (tree_cmp e.key k)) (λ q. ap stands (tree_same e.key k (eq_is (tree_cmp e.key k) q)) ∙ h)) es

  keys_in_part : (es : List Entry) → filter stands (keys_in es) ≡ keys_in (entries_in n p es)
  keys_in_part es =
      filter-distinct tree_cmp tree_total tree_same stands (map key_in es)
      ∙ ap (distinct tree_cmp) (filter-map stands key_in es)

  pub part_combined : (parts : Making) (es : List Entry) → entries_in n p (combined parts es) ≡ combined parts (entries_in n p es)
  part_combined parts es =
      let own : List Entry = entries_in n p es in
      let keys : List Tree = keys_in es in
      ap (entries_in n p) (flat_map_single (entry_for parts es) keys)
      ∙ filter-map (λ e. stands e.key) (entry_for parts es) keys
      ∙ sym (flat_map_single (entry_for parts es) (filter stands keys))
      ∙ flat_map_where stands (λ k. entry_for parts es k ∷ []) (λ k. entry_for parts own k ∷ [])
      (λ k h. ap (λ us. record { key = k; input = 0; row = parts k (map row_in us) } ∷ []) (sym (under_in_part k h es))) keys
      ∙ ap (flat_map (λ k. entry_for parts own k ∷ [])) (keys_in_part es)

-- the partitions of combined entries are the combined partitions
pub partitions_combined : (parts : Making) (n : ℕ) (es : List Entry)
    → partitions n (combined parts es) ≡ map (λ p. run_of [] (combined parts (entries_in n p es))) (range_with_len 0 n)
partitions_combined parts n es =
    map_each (λ p. run_of [] (entries_in n p (combined parts es))) (λ p. run_of [] (combined parts (entries_in n p es))) (range_with_len 0 n)
    (each_of_all (λ p. run_of [] (entries_in n p (combined parts es)) ≡ run_of [] (combined parts (entries_in n p es)))
    (λ p. ap (run_of []) (part_combined n p parts es)) (range_with_len 0 n))
