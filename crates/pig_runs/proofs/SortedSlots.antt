-- Slots that are sorted by their bytes stand for the sorted entries.
use Rattle.std.proofs.Common.{◌≡◌, ℕ, List, map, sym, ◌∙◌, ap, subst}
use Rattle.std.specs.Prelude.{IsPermutation}
use Rattle.std.specs.List.{AllByRecursion}
use Rattle.std.specs.Coded.{Coded-set, coded_list}
use Rattle.std.proofs.Math.Logic.{∥∥₁_map, ∥∥₁_elim}
use Rattle.pig_value.specs.Gathering.{Entry}
use Rattle.pig_value.specs.Sorts.{sort, Ascends}
use Rattle.pig_value.specs.declared.operators.Dir.{Dir}
use Rattle.pig_value.proofs.list_laws.Bags.{each-sort, sort_ascends}
use Rattle.pig_runs.specs.declared.slots.Slot.{Slot}
use Rattle.pig_runs.specs.Entries.{IsEntry, InDirections, run_cmp, run_of}
use Rattle.pig_runs.specs.Packed.{packed, packed_cmp, found_at, IsPlaced, Held, held_prop, coded_packed}
use Rattle.pig_runs.proofs.ByFronts.{each_along}
use Rattle.pig_runs.proofs.Order.{run_total, sorted_codes}

module _ (ds : List Dir) (bytes laid : List ℕ) (slots done : List Slot) (held : Held ds (map (found_at bytes) slots))
    (sorted : map (found_at laid) done ≡ sort packed_cmp (map (found_at bytes) slots)) where
  pub held_sorted : Held ds (map (found_at laid) done)
  held_sorted = (
    sort (run_cmp ds) held.0,
    (
      ∥∥₁_map held.1.0 (λ h. each-sort (run_cmp ds) (IsEntry ds) held.0 h),
      ∥∥₁_elim held.1.0 (Coded-set (coded_list coded_packed) (map (packed ds) (sort (run_cmp ds) held.0)) (map (found_at laid) done))
          (λ h. sym (sorted_codes ds held.0 h) ∙ (ap (sort packed_cmp) held.1.1 ∙ sym sorted)),
    ),
  )

  pub seen_sorted : (given : Held ds (map (found_at laid) done)) (b : InDirections) → b ≡ record { dirs = ds; entries = held.0 } → record { dirs = ds; entries = given.0 } ≡ run_of b.dirs b.entries
  unfolding held_sorted
  seen_sorted given b was =
      let is : given.0 ≡ sort (run_cmp ds) held.0 = ap (λ h. h.0) (held_prop ds (map (found_at laid) done) given held_sorted) in
      ap (λ l. record { dirs = ds; entries = l }) is ∙ sym (ap (λ c. run_of c.dirs c.entries) was)

pub placed_sorted : (bytes : List ℕ) (slots done : List Slot) → IsPermutation slots done → AllByRecursion (IsPlaced bytes) slots → AllByRecursion (IsPlaced bytes) done
placed_sorted bytes slots done moved h = each_along (IsPlaced bytes) slots done moved h

pub ascends_run : (run : InDirections) (ds : List Dir) (es : List Entry) → run ≡ run_of ds es → Ascends (run_cmp run.dirs) run.entries
ascends_run run ds es is = subst (λ r. Ascends (run_cmp r.dirs) r.entries) (sym is) (sort_ascends (run_cmp ds) (run_total ds) es)
