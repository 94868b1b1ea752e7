-- The group that a binary search finds has all rows of its key, and where none is found there are none.
use Rattle.std.specs.Prelude.{◌≡◌, ◌<◌, ◌≤◌, ℕ, zero, suc, Bool, true, false, List, [], ◌∷◌, ◌++◌, map, length, slice_index_or, refl}
use Rattle.std.proofs.Common.{ap, sym, ◌∙◌, subst, arith}
use Rattle.std.proofs.Math.Dec.{ltb}
use Rattle.std.proofs.lemmas.Bool.{ltb-false, ltb-true}
use Rattle.std.proofs.lemmas.List.Elements.{filter-append}
use Rattle.std.proofs.lemmas.Simd.{map-map}
use Rattle.std.specs.List.{AllByRecursion, HoldsAt, filter}
use Rattle.std.specs.List.Sorted.{IsNonDecreasingBy, IsPartitionPoint}
use Rattle.std.specs.Ordering.{is_eq, ordering_index}
use Rattle.std.specs.declared.cmp.Ordering.{Ordering}
use Rattle.std.specs.declared.cmp.Ordering.TheVariants.{Less, Equal, Greater}
use Rattle.pig_value.specs.Gathering.{HaveKey, with_key}
use Rattle.pig_value.specs.Orders.{bag_of, tree_cmp}
use Rattle.pig_value.specs.Trees.{Tree, row_tree, rows_tree, tree}
use Rattle.pig_value.proofs.OrderLaws.{tree_same, tree_total}
use Rattle.pig_value.proofs.list_laws.Listing.{each-append, each-map, each_of_all, each_weaker, filter_none}
use Rattle.pig_value.proofs.list_laws.Runs.{with_key_run}
use Rattle.pig_replicated.specs.declared.groups.Group.{Group}
use Rattle.pig_replicated.specs.Grouped.{AreGrouped, held_in, rows_in}
use Rattle.pig_replicated.specs.Holding.{KeyedRow, rows_under}
use Rattle.pig_replicated.proofs.Grouping.{key_of_row}

-- what holds of each group holds of the one at a place
at_place : (P : Group → Type 0) (groups : List Group) (i : ℕ) (d : Group) → AllByRecursion P groups → i < length groups → P (slice_index_or groups i d)
at_place P [] i d h low = absurd (omega (arith, low))
at_place P (g ∷ groups) zero d h low = h.0
at_place P (g ∷ groups) (suc i) d h low = at_place P groups i d h.1 (omega (arith, low))

-- what holds of each row of the groups' keys
each_held : (P : Tree → Type 0) (groups : List Group) → AllByRecursion (λ g. P (tree g.key)) groups → AllByRecursion (λ r. P r.key) (held_in groups)
each_held P [] h = tt
each_held P (g ∷ groups) h =
    each-append (λ r. P r.key) (rows_in g) (held_in groups)
    (each-map (λ r. P r.key) (λ row. record { key = tree g.key; row = row_tree row }) g.rows (each_of_all (λ row. P (tree g.key)) (λ row. h.0) g.rows))
    (each_held P groups h.1)

own_key : (g : Group) → HaveKey key_of_row (tree g.key) (rows_in g)
own_key g = each-map (λ r. r.key ≡ tree g.key) (λ row. record { key = tree g.key; row = row_tree row }) g.rows (each_of_all (λ row. tree g.key ≡ tree g.key) (λ row. refl) g.rows)

-- a greater key is none of a lower one's rows
with_key_later : (k : Tree) (g : Group) (rest : List KeyedRow) → tree_cmp (tree g.key) k ≡ Less → with_key tree_cmp key_of_row k (rows_in g ++ rest) ≡ with_key tree_cmp key_of_row k rest
with_key_later k g rest less =
    filter-append (λ r. is_eq (tree_cmp r.key k)) (rows_in g) rest
    ∙ ap (λ rows. rows ++ filter (λ r. is_eq (tree_cmp r.key k)) rest)
    (filter_none (λ r. is_eq (tree_cmp r.key k)) (rows_in g)
    (each_weaker (λ r. r.key ≡ tree g.key) (λ r. is_eq (tree_cmp r.key k) ≡ false) (λ r e. ap (λ l. is_eq (tree_cmp l k)) e ∙ ap is_eq less) (rows_in g) (own_key g)))

module _ (k : Tree) where
  abbrev under : List KeyedRow → List KeyedRow
  under rows = with_key tree_cmp key_of_row k rows

  -- the rows of a group that has the key
  pub found_at : (groups : List Group) (i : ℕ) (d : Group) → AreGrouped groups → i < length groups → tree (slice_index_or groups i d).key ≡ k
      → rows_under k (held_in groups) ≡ rows_tree (slice_index_or groups i d).rows
  found_at [] i d h low e = absurd (omega (arith, low))
  found_at (g ∷ groups) zero d h low e =
      ap (λ rows. bag_of (map (λ r. r.row) rows))
      (with_key_run tree_cmp tree_total key_of_row k (rows_in g) (held_in groups) (subst (λ l. HaveKey key_of_row l (rows_in g)) e (own_key g))
      (each_held (λ l. tree_cmp k l ≡ Less) groups (subst (λ l. AllByRecursion (λ other. tree_cmp l (tree other.key) ≡ Less) groups) e h.1)))
      ∙ ap bag_of (map-map (λ r. r.row) (λ row. record { key = tree g.key; row = row_tree row }) g.rows)
      ∙ h.0
  found_at (g ∷ groups) (suc i) d h low e =
      ap (λ rows. bag_of (map (λ r. r.row) rows))
      (with_key_later k g (held_in groups)
      (subst (λ l. tree_cmp (tree g.key) l ≡ Less) e (at_place (λ other. tree_cmp (tree g.key) (tree other.key) ≡ Less) groups i d h.1 (omega (arith, low)))))
      ∙ found_at groups i d h.2 (omega (arith, low)) e

  -- no group has the key
  pub none_found : (groups : List Group) → AllByRecursion (λ g. is_eq (tree_cmp (tree g.key) k) ≡ false) groups → rows_under k (held_in groups) ≡ []
  none_found groups h =
      ap (λ rows. bag_of (map (λ r. r.row) rows)) (filter_none (λ r. is_eq (tree_cmp r.key k)) (held_in groups) (each_held (λ l. is_eq (tree_cmp l k) ≡ false) groups h))

-- ---- the search

by_places : {X : Type 0} (P : X → Type 0) (xs : List X) → ((i : ℕ) (d : X) → i < length xs → P (slice_index_or xs i d)) → AllByRecursion P xs
by_places P [] h = tt
by_places P (x ∷ xs) h = (h 0 x (omega arith), by_places P xs (λ i d low. h (suc i) d (omega (arith, low))))

-- the keys ascend
ascend : (groups : List Group) → AreGrouped groups → (i j : ℕ) (d : Group) → i < j → j < length groups → tree_cmp (tree (slice_index_or groups i d).key) (tree (slice_index_or groups j d).key) ≡ Less
ascend [] h i j d order low = absurd (omega (arith, low))
ascend (g ∷ groups) h i zero d order low = absurd (omega (arith, order))
ascend (g ∷ groups) h zero (suc j) d order low = at_place (λ other. tree_cmp (tree g.key) (tree other.key) ≡ Less) groups j d h.1 (omega (arith, low))
ascend (g ∷ groups) h (suc i) (suc j) d order low = ascend groups h.2 i j d (omega (arith, order)) (omega (arith, low))

-- of a lower key and a greater one, how they stand to a third
rises : (x y k : Tree) → tree_cmp x y ≡ Less → ordering_index (tree_cmp x k) ≤ ordering_index (tree_cmp y k)
rises x y k less = by_order (tree_cmp x k) (tree_cmp y k) refl refl
  where
    greatest : (r : Ordering) → ordering_index r ≤ 2
    greatest Less = omega arith
    greatest Equal = omega arith
    greatest Greater = omega arith

    by_order : (r s : Ordering) → tree_cmp x k ≡ r → tree_cmp y k ≡ s → ordering_index r ≤ ordering_index s
    by_order r Less e f = subst (λ o. ordering_index o ≤ 0) (sym (tree_total.trans x y k less f) ∙ e) (omega arith)
    by_order r Equal e f = subst (λ o. ordering_index o ≤ 1) (sym (ap (tree_cmp x) (sym (tree_same y k f)) ∙ less) ∙ e) (omega arith)
    by_order r Greater e f = greatest r

comparisons_rise : (groups : List Group) (k : Tree) → AreGrouped groups → IsNonDecreasingBy (λ g. ordering_index (tree_cmp (tree g.key) k)) groups
comparisons_rise groups k h i j d order low = by_test (ltb i j) refl
  where
    by_test : (b : Bool) → ltb i j ≡ b → ordering_index (tree_cmp (tree (slice_index_or groups i d).key) k) ≤ ordering_index (tree_cmp (tree (slice_index_or groups j d).key) k)
    by_test true e = rises (tree (slice_index_or groups i d).key) (tree (slice_index_or groups j d).key) k (ascend groups h i j d (ltb-true i j e) low)
    by_test false e =
        let back = ltb-false i j e in
        let same : i ≡ j = omega (arith, order, back) in
        subst (λ n. ordering_index (tree_cmp (tree (slice_index_or groups i d).key) k) ≤ ordering_index (tree_cmp (tree (slice_index_or groups n d).key) k)) same (omega arith)

pub found_is : (groups : List Group) (k : Tree) → AreGrouped groups → (i : ℕ) (group : Group) → i < length groups → HoldsAt (λ g. tree_cmp (tree g.key) k ≡ Equal) groups i
    → group ≡ slice_index_or groups i group → rows_under k (held_in groups) ≡ rows_tree group.rows
found_is groups k h i group low same is =
    found_at k groups i group h low (tree_same (tree (slice_index_or groups i group).key) k (same group)) ∙ ap (λ g. rows_tree g.rows) (sym is)

pub absent_is : (groups : List Group) (k : Tree) → AreGrouped groups → (i : ℕ)
    → (IsNonDecreasingBy (λ g. ordering_index (tree_cmp (tree g.key) k)) groups → IsPartitionPoint (λ g. tree_cmp (tree g.key) k ≡ Less) (λ g. tree_cmp (tree g.key) k ≡ Greater) groups i)
    → rows_under k (held_in groups) ≡ []
absent_is groups k h i parts = none_found k groups (by_places (λ g. is_eq (tree_cmp (tree g.key) k) ≡ false) groups differs)
  where
    differs : (j : ℕ) (d : Group) → j < length groups → is_eq (tree_cmp (tree (slice_index_or groups j d).key) k) ≡ false
    differs j d low = either_side (ltb j i) refl
      where
        either_side : (b : Bool) → ltb j i ≡ b → is_eq (tree_cmp (tree (slice_index_or groups j d).key) k) ≡ false
        either_side true e = ap is_eq ((parts (comparisons_rise groups k h)).0 j d (omega arith) (ltb-true j i e))
        either_side false e = ap is_eq ((parts (comparisons_rise groups k h)).1 j d (ltb-false j i e) low)
