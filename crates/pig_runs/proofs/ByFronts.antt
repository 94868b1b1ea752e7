-- What is sorted by fronts and bytes, where fronts are right, is sorted by what is found.
use Rattle.std.proofs.Common.{◌≡◌, List, [], ◌∷◌, map, sym, ◌∙◌, ap}
use Rattle.std.specs.Prelude.{Bool, IsPermutation}
use Rattle.std.specs.Cmp.{IsTotalOrder}
use Rattle.std.specs.List.{AllByRecursion}
use Rattle.std.specs.List.Sorted.{IsSortedBy}
use Rattle.std.specs.Ordering.{is_gt, is_lt}
use Rattle.std.proofs.lemmas.Cmp.{nat_cmp_total, then_total, on_total}
use Rattle.std.proofs.lemmas.List.Sorted.{IsPermutation-map}
use Rattle.pig_value.specs.Sorts.{sort, Ascends}
use Rattle.pig_value.proofs.list_laws.Bags.{ascends_from_sorted, sort_is, sorted_by_key}
use Rattle.pig_value.proofs.list_laws.Permutations.{Shuffled, same, under, swapped, after, shuffled_from_permutation}
use Rattle.pig_runs.specs.Packed.{FrontedEntry, Packed, fronted_entry_cmp, packed_cmp}
use Rattle.pig_runs.proofs.FrontOrder.{fronted_total, sided_total}
use Rattle.pig_runs.proofs.Order.{packed_total, packed_same}

pub fronted_entry_total : IsTotalOrder fronted_entry_cmp
fronted_entry_total = then_total (on_total (λ p. p.key) fronted_total) (then_total (on_total (λ p. p.input) nat_cmp_total) (on_total (λ p. p.row) sided_total))

-- what holds of each element holds of each in another order
along : {X : Type 0} (P : X → Type 0) {xs ys : List X} → Shuffled xs ys → AllByRecursion P xs → AllByRecursion P ys
along P (same xs) h = h
along P (under x s) h = (h.0, along P s h.1)
along P (swapped x y zs) h = (h.1.0, (h.0, h.1.1))
along P (after s t) h = along P t (along P s h)

pub each_along : {X : Type 0} (P : X → Type 0) (xs ys : List X) → IsPermutation xs ys → AllByRecursion P xs → AllByRecursion P ys
each_along P xs ys moved h = along P (shuffled_from_permutation xs ys moved) h

-- of any items that show fronts and find bytes: good ones stand by their fronts as they do by their bytes
module _ {X : Type 0} (fronted : X → FrontedEntry) (found : X → Packed) (Good : X → Type 0)
    (order : (x y : X) → Good x → Good y → fronted_entry_cmp (fronted x) (fronted y) ≡ packed_cmp (found x) (found y)) where
  abbrev pub before : X → X → Bool
  before x y = is_lt (fronted_entry_cmp (fronted x) (fronted y))

  ascends_fronted : (xs : List X) → AllByRecursion Good xs → Ascends packed_cmp (map found xs) → Ascends fronted_entry_cmp (map fronted xs)
  ascends_fronted [] h up = tt
  ascends_fronted (x ∷ []) h up = (tt, tt)
  ascends_fronted (x ∷ y ∷ xs) h up = (ap is_gt (order x y h.0 h.1.0) ∙ up.0, ascends_fronted (y ∷ xs) h.1 up.1)

  ascends_found : (xs : List X) → AllByRecursion Good xs → Ascends fronted_entry_cmp (map fronted xs) → Ascends packed_cmp (map found xs)
  ascends_found [] h up = tt
  ascends_found (x ∷ []) h up = (tt, tt)
  ascends_found (x ∷ y ∷ xs) h up = (ap is_gt (sym (order x y h.0 h.1.0)) ∙ up.0, ascends_found (y ∷ xs) h.1 up.1)

  pub before_each : (xs : List X) → AllByRecursion Good xs → Ascends packed_cmp (map found xs) → IsSortedBy before xs
  before_each xs h up = sorted_by_key fronted_entry_cmp fronted_entry_total fronted xs (ascends_fronted xs h up)

  -- items that are sorted by a sort of std
  pub items_sorted : (xs done : List X) → AllByRecursion Good xs → IsPermutation xs done → IsSortedBy before done → map found done ≡ sort packed_cmp (map found xs)
  items_sorted xs done good moved sorted =
      sort_is packed_cmp packed_total packed_same (map found xs) (map found done) (IsPermutation-map found xs done moved)
      (ascends_found done (each_along Good xs done moved good) (ascends_from_sorted fronted_entry_cmp fronted_entry_total fronted done sorted))
