-- Sorted lists of slots over bytes that are joined.
use Rattle.std.proofs.Common.{◌≡◌, ◌<◌, ◌≤◌, ◌+◌, ℕ, List, [], ◌∷◌, ◌++◌, map, length, take, get_or, refl, sym, ◌∙◌, ap, subst}
use Rattle.std.specs.Prelude.{Result, Ok, Err, OnOk}
use Rattle.std.specs.List.{AllByRecursion}
use Rattle.std.specs.Ordering.{is_gt}
use Rattle.std.proofs.Math.Logic.{∥∥₁_map₂, ∥∥₁_elim}
use Rattle.std.proofs.lemmas.Grind.{flat_map-append}
use Rattle.std.proofs.lemmas.List.{append-nil, map-append, take_all}
use Rattle.std.proofs.lemmas.Option.{slice_get_read}
use Rattle.pig_value.specs.Gathering.{Entry}
use Rattle.pig_value.specs.declared.operators.Dir.{Dir}
use Rattle.pig_value.specs.Sorts.{Ascends, sort}
use Rattle.pig_value.proofs.list_laws.Bags.{ascends_prop}
use Rattle.pig_value.proofs.list_laws.Indexing.{more_taken}
use Rattle.pig_value.proofs.list_laws.Listing.{each-append, each_at, each_weaker}
use Rattle.pig_runs.specs.declared.slots.Slot.{Slot}
use Rattle.pig_runs.specs.Cutting.{HaveDirections}
use Rattle.pig_runs.specs.Entries.{IsEntry, AreKeyed, InDirections, entries_of_all, run_cmp}
use Rattle.pig_runs.specs.Packed.{Packed, packed, packed_cmp, found_at, joined, moved, IsPart, IsPlaced, Held, Joins, Stand, held_prop}
use Rattle.pig_runs.proofs.Adding.{all_kept, all_moved, moved_placed, placed_more}
use Rattle.pig_runs.proofs.Lending.{stand_sorted}
use Rattle.pig_runs.proofs.Merging.{all-append}
use Rattle.pig_runs.proofs.Order.{entry_order}

pub codes_ascend : (ds : List Dir) (es : List Entry) → AreKeyed ds es → Ascends (run_cmp ds) es → Ascends packed_cmp (map (packed ds) es)
codes_ascend ds [] h up = tt
codes_ascend ds (e ∷ []) h up = (tt, tt)
codes_ascend ds (e ∷ f ∷ es) h up = (ap is_gt (entry_order ds e f h.0 h.1.0) ∙ up.0, codes_ascend ds (f ∷ es) h.1 up.1)

joined_more : (lists : List (List Slot)) (list : List Slot) → joined (lists ++ list ∷ []) ≡ joined lists ++ list
joined_more lists list = flat_map-append (λ slots. slots) lists (list ∷ []) ∙ ap (λ l. joined lists ++ l) (append-nil list)

pub placed_joined : (bytes : List ℕ) (lists : List (List Slot)) → AllByRecursion (IsPart bytes) lists → AllByRecursion (IsPlaced bytes) (joined lists)
placed_joined bytes [] h = tt
placed_joined bytes (list ∷ lists) h = each-append (IsPlaced bytes) list (joined lists) h.0.placed (placed_joined bytes lists h.1)

part_kept : (bytes more : List ℕ) (list : List Slot) → IsPart bytes list → IsPart (bytes ++ more) list
part_kept bytes more list h = record {
  placed = placed_more bytes more list h.placed;
  sorted = subst (Ascends packed_cmp) (sym (all_kept bytes more list h.placed)) h.sorted;
}

module _ (ds : List Dir) (fs : List Entry) (more : List ℕ) (slots : List Slot) (good : ∥ AreKeyed ds fs ∥₁) (told : map (packed ds) fs ≡ map (found_at more) slots)
    (up : ∥ Ascends (run_cmp ds) fs ∥₁) (placed : AllByRecursion (IsPlaced more) slots) where
  ascends : Ascends packed_cmp (map (packed ds) fs)
  ascends =
      ∥∥₁_elim good (ascends_prop packed_cmp (map (packed ds) fs))
      (λ g. ∥∥₁_elim up (ascends_prop packed_cmp (map (packed ds) fs)) (λ u. codes_ascend ds fs g u))

  pub joined_after : (es : List Entry) (bytes : List ℕ) (lists : List (List Slot)) → Joins ds es bytes lists
      → Joins ds (es ++ fs) (bytes ++ more) (lists ++ map (moved (length bytes)) slots ∷ [])
  joined_after es bytes lists h =
      let new : List Slot = map (moved (length bytes)) slots in
      let kept = all_kept bytes more (joined lists) (placed_joined bytes lists h.parts) in
      let same = all_moved bytes more slots in
      record {
        stand = record {
          good = ∥∥₁_map₂ h.stand.good good (λ k l. each-append (IsEntry ds) es fs k l);
          told = map-append (packed ds) es fs
              ∙ ((λ i. h.stand.told i ++ told i)
              ∙ sym (ap (map (found_at (bytes ++ more))) (joined_more lists new) ∙ (map-append (found_at (bytes ++ more)) (joined lists) new ∙ (λ i. kept i ++ same i))));
        };
        parts = each-append (IsPart (bytes ++ more)) lists (new ∷ []) (each_weaker (IsPart bytes) (IsPart (bytes ++ more)) (part_kept bytes more) lists h.parts)
            (record { placed = moved_placed bytes more slots placed; sorted = subst (Ascends packed_cmp) (told ∙ sym same) ascends }, tt);
      }

  -- what `join_to` leaves
  pub joins_after : {T E : Type 0} (r : Result T E) (es : List Entry) (bytes new : List ℕ) (lists grown : List (List Slot)) → Joins ds es bytes lists → OnOk r (new ≡ bytes ++ more)
      → OnOk r (grown ≡ lists ++ map (moved (length bytes)) slots ∷ []) → OnOk r (Joins ds (es ++ fs) new grown)
  joins_after (Err u) es bytes new lists grown h both all = tt
  joins_after (Ok u) es bytes new lists grown h both all =
      subst (λ b. Joins ds (es ++ fs) b grown) (sym both) (subst (Joins ds (es ++ fs) (bytes ++ more)) (sym all) (joined_after es bytes lists h))

pub none_joined : (ds : List Dir) → Joins ds [] [] []
none_joined ds = record { stand = record { good = ∣ tt ∣₁; told = refl }; parts = tt }

-- one run more
pub one_run_joined : (ds : List Dir) (runs : List InDirections) (i : ℕ) (run lent : InDirections) (bytes new : List ℕ) (lists grown : List (List Slot)) → HaveDirections ds runs → i < length runs
    → run ≡ get_or runs i run → lent ≡ run → Joins ds (entries_of_all (take i runs)) bytes lists → ((es : List Entry) → Joins lent.dirs es bytes lists → Joins lent.dirs (es ++ lent.entries) new grown)
    → Joins ds (entries_of_all (take (i + 1) runs)) new grown
one_run_joined ds runs i run lent bytes new lists grown alike within at same so_far added =
    let here = slice_get_read runs (length runs) i run refl within at in
    let dirs : lent.dirs ≡ ds = ap (λ r. r.dirs) same ∙ each_at (λ r. r.dirs ≡ ds) runs i run here alike in
    let all : entries_of_all (take (i + 1) runs) ≡ entries_of_all (take i runs) ++ lent.entries =
    ap entries_of_all (more_taken runs i run here)
    ∙ (all-append (take i runs) (run ∷ []) ∙ ap (λ l. entries_of_all (take i runs) ++ l) (append-nil run.entries ∙ ap (λ r. r.entries) (sym same)))
    in
    let grew : Joins lent.dirs (entries_of_all (take i runs) ++ lent.entries) new grown =
    added (entries_of_all (take i runs)) (subst (λ d. Joins d (entries_of_all (take i runs)) bytes lists) (sym dirs) so_far)
    in
    subst (λ es. Joins ds es new grown) (sym all) (subst (λ d. Joins d (entries_of_all (take i runs) ++ lent.entries) new grown) dirs grew)

-- what is merged of all
pub merged_stand : (ds : List Dir) (es : List Entry) (bytes : List ℕ) (lists : List (List Slot)) (done : List Slot) → Joins ds es bytes lists
    → map (found_at bytes) done ≡ sort packed_cmp (map (found_at bytes) (joined lists)) → Stand ds (sort (run_cmp ds) es) (map (found_at bytes) done)
merged_stand ds es bytes lists done h is = stand_sorted ds es (map (found_at bytes) (joined lists)) (map (found_at bytes) done) h.stand is

-- what is merged once all runs are joined
pub all_merged : (ds : List Dir) (runs seen : List InDirections) (i : ℕ) (bytes lent : List ℕ) (lists : List (List Slot)) (done : List Slot) → Joins ds (entries_of_all (take i seen)) bytes lists
    → length seen ≤ i → seen ≡ runs → lent ≡ bytes → map (found_at lent) done ≡ sort packed_cmp (map (found_at lent) (joined lists))
    → Stand ds (sort (run_cmp ds) (entries_of_all runs)) (map (found_at bytes) done)
all_merged ds runs seen i bytes lent lists done h past same same_bytes order =
    let all : take i seen ≡ runs = take_all i seen past ∙ same in
    merged_stand ds (entries_of_all runs) bytes lists done (subst (λ rs. Joins ds (entries_of_all rs) bytes lists) all h)
    (subst (λ b. map (found_at b) done ≡ sort packed_cmp (map (found_at b) (joined lists))) same_bytes order)

-- what is seen of slots that stand for entries
pub slots_seen : (ds : List Dir) (ps : List Packed) (given : Held ds ps) (es : List Entry) → Stand ds es ps
    → ◌≡◌ {A = InDirections} (record { dirs = ds; entries = given.0 }) (record { dirs = ds; entries = es })
slots_seen ds ps given es stands = ap (λ l. record { dirs = ds; entries = l }) (ap (λ h. h.0) (held_prop ds ps given (es, (stands.good, stands.told))))
