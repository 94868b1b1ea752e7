-- Entries that are lent as bytes.
use Rattle.std.proofs.Common.{◌≡◌, ◌<◌, ◌+◌, ◌*◌, ◌/◌, ℕ, Bool, List, [], ◌∷◌, ◌++◌, map, length, take, drop, get_or, refl, sym, ◌∙◌, ap, subst}
use Rattle.std.proofs.Math.Bool.{Bool-set}
use Rattle.std.proofs.Math.Logic.{∥∥₁_map, ∥∥₁_map₂, ∥∥₁_elim, ∥∥₁_prop}
use Rattle.std.specs.Prelude.{Option, Some, None, Result, Ok, Err, OnOk, option_map, slice_get}
use Rattle.std.specs.Coded.{Coded-set, coded_list}
use Rattle.std.proofs.lemmas.List.{length-map, map-append, append-nil}
use Rattle.std.proofs.lemmas.Option.{slice_get-map, slice_get_read}
use Rattle.pig_value.specs.Gathering.{Entry}
use Rattle.pig_value.specs.declared.operators.Dir.{Dir}
use Rattle.pig_value.specs.Sorts.{sort}
use Rattle.pig_value.proofs.list_laws.Bags.{each-sort}
use Rattle.pig_value.proofs.list_laws.Indexing.{take_one, more_taken}
use Rattle.pig_value.proofs.list_laws.Listing.{some_same, each_at, each-append}
use Rattle.pig_runs.specs.declared.lent.Lent.{Lent}
use Rattle.pig_runs.specs.declared.slots.Slot.{Slot}
use Rattle.pig_runs.specs.Cutting.{HaveDirections, is_up_to}
use Rattle.pig_runs.specs.Entries.{IsEntry, AreKeyed, InDirections, and_entries, coded_in_directions, entries_of_all, run_cmp}
use Rattle.pig_runs.specs.Packed.{Packed, packed, packed_lent, packed_cmp, found_at, Held, Stand, coded_packed}
use Rattle.pig_runs.proofs.Merging.{all-append}
use Rattle.pig_runs.proofs.Order.{entry_order, sorted_codes}

-- the entry that is lent
pub lent_entry : (ds : List Dir) (o : Option Entry) (p : Packed) → option_map (packed ds) o ≡ Some p → (e : Entry) × ((o ≡ Some e) × (packed ds e ≡ p))
lent_entry ds None p h = absurd (cc)
lent_entry ds (Some e) p h = (e, (refl, some_same (packed ds e) p h))

pub held_one : (ds : List Dir) (es : List Entry) (at : ℕ) (p : Packed) → ∥ AreKeyed ds es ∥₁ → option_map (packed ds) (slice_get es at) ≡ Some p → ∥ Held ds (p ∷ []) ∥₁
held_one ds es at p good is =
    let found = lent_entry ds (slice_get es at) p is in
    ∥∥₁_map good (λ h. (found.0 ∷ [], (∣ (each_at (IsEntry ds) es at found.0 found.1.0 h, tt) ∣₁, (let told = found.1.1 in λ i. told i ∷ []))))

-- what is added is the entry at the place
pub copied : {T E : Type 0} (ds : List Dir) (es : List Entry) (at : ℕ) (p : Packed) (b new : InDirections) (r : Result T E) → ∥ AreKeyed ds es ∥₁
    → option_map (packed ds) (slice_get es at) ≡ Some p → ((e : Entry) → IsEntry ds e → packed ds e ≡ p → OnOk r (new ≡ and_entries (e ∷ []) b))
    → OnOk r (new ≡ and_entries (take 1 (drop at es)) b)
copied ds es at p b new (Err u) good is added = tt
copied ds es at p b new (Ok u) good is added =
    let found = lent_entry ds (slice_get es at) p is in
    ∥∥₁_elim good (Coded-set coded_in_directions new (and_entries (take 1 (drop at es)) b))
    (λ h. added found.0 (each_at (IsEntry ds) es at found.0 found.1.0 h) found.1.1 ∙ ap (λ l. and_entries l b) (sym (take_one es at found.0 found.1.0)))

told_at : (ds : List Dir) (es : List Entry) (ls : List Lent) (at : ℕ) (l : Lent) → map (packed ds) es ≡ map packed_lent ls → slice_get ls at ≡ Some l
    → option_map (packed ds) (slice_get es at) ≡ Some (packed_lent l)
told_at ds es ls at l told here =
    sym (slice_get-map (packed ds) es at) ∙ (ap (λ ps. slice_get ps at) told ∙ (slice_get-map packed_lent ls at ∙ ap (option_map packed_lent) here))

pub held_at : (ds : List Dir) (ls : List Lent) (at : ℕ) (l : Lent) → slice_get ls at ≡ Some l → ∥ Held ds (map packed_lent ls) ∥₁ → ∥ Held ds (packed_lent l ∷ []) ∥₁
held_at ds ls at l here held = ∥∥₁_elim held ∥∥₁_prop (λ h. held_one ds h.0 at (packed_lent l) h.1.0 (told_at ds h.0 ls at l h.1.1 here))

-- the point that is picked
pub picks : {T E : Type 0} (ds : List Dir) (es : List Entry) (ls : List Lent) (n k at : ℕ) (l : Lent) (b new : InDirections) (r : Result T E) → Stand ds es (map packed_lent ls)
    → at ≡ ((k + 1) * length ls) / n → slice_get ls at ≡ Some l → ((e : Entry) → IsEntry ds e → packed ds e ≡ packed_lent l → OnOk r (new ≡ and_entries (e ∷ []) b))
    → OnOk r (new ≡ and_entries (take 1 (drop (((k + 1) * length es) / n) es)) b)
picks ds es ls n k at l b new r stands is here added =
    let size : length ls ≡ length es = sym (length-map ls packed_lent) ∙ (ap length (sym stands.told) ∙ length-map es (packed ds)) in
    let place : at ≡ ((k + 1) * length es) / n = is ∙ ap (λ m. ((k + 1) * m) / n) size in
    subst (λ q. OnOk r (new ≡ and_entries (take 1 (drop q es)) b)) place (copied ds es at (packed_lent l) b new r stands.good (told_at ds es ls at l stands.told here) added)

pub lent_all : {T E : Type 0} (ds : List Dir) (bytes b : List ℕ) (slots s : List Slot) (held : Held ds (map (found_at bytes) slots)) (old new : List Packed) (r : Result T E)
    → b ≡ bytes → s ≡ slots → OnOk r (new ≡ old ++ map (found_at b) s) → OnOk r (new ≡ old ++ map (packed ds) held.0)
lent_all ds bytes b slots s held old new (Err u) same_bytes same_slots h = tt
lent_all ds bytes b slots s held old new (Ok u) same_bytes same_slots h =
    h ∙ ap (λ ps. old ++ ps) ((λ i. map (found_at (same_bytes i)) (same_slots i)) ∙ sym held.1.1)

-- two entries that are lent stand as they do
pub lent_up_to : (equal : Bool) (ds : List Dir) (es fs : List Entry) (at there : ℕ) (p q : Packed) (r : Bool) → ∥ AreKeyed ds es ∥₁ → ∥ AreKeyed ds fs ∥₁
    → option_map (packed ds) (slice_get es at) ≡ Some p → option_map (packed ds) (slice_get fs there) ≡ Some q → r ≡ is_up_to equal (packed_cmp p q)
    → (e f : Entry) → slice_get es at ≡ Some e → slice_get fs there ≡ Some f → r ≡ is_up_to equal (run_cmp ds e f)
lent_up_to equal ds es fs at there p q r good well is_p is_q told e f here found =
    let first : packed ds e ≡ p = some_same (packed ds e) p (sym (ap (option_map (packed ds)) here) ∙ is_p) in
    let second : packed ds f ≡ q = some_same (packed ds f) q (sym (ap (option_map (packed ds)) found) ∙ is_q) in
    ∥∥₁_elim good (Bool-set r (is_up_to equal (run_cmp ds e f)))
    (λ h. ∥∥₁_elim well (Bool-set r (is_up_to equal (run_cmp ds e f)))
    (λ k. told
    ∙ ((λ i. is_up_to equal (packed_cmp (sym first i) (sym second i))) ∙ ap (is_up_to equal) (entry_order ds e f (each_at (IsEntry ds) es at e here h) (each_at (IsEntry ds) fs there f found k)))))

-- ---- the entries of runs, one run after another

pub one_run_lent : (ds : List Dir) (runs : List InDirections) (i : ℕ) (run lent : InDirections) (ps qs : List Packed) → HaveDirections ds runs → i < length runs → run ≡ get_or runs i run → lent ≡ run
    → ∥ AreKeyed lent.dirs lent.entries ∥₁ → Stand ds (entries_of_all (take i runs)) ps → qs ≡ ps ++ map (packed lent.dirs) lent.entries → Stand ds (entries_of_all (take (i + 1) runs)) qs
one_run_lent ds runs i run lent ps qs alike within at same good so_far grown =
    let here : slice_get runs i ≡ Some run = slice_get_read runs (length runs) i run refl within at in
    let dirs : lent.dirs ≡ ds = ap (λ r. r.dirs) same ∙ each_at (λ r. r.dirs ≡ ds) runs i run here alike in
    let all : entries_of_all (take (i + 1) runs) ≡ entries_of_all (take i runs) ++ run.entries =
    ap entries_of_all (more_taken runs i run here) ∙ (all-append (take i runs) (run ∷ []) ∙ ap (λ l. entries_of_all (take i runs) ++ l) (append-nil run.entries))
    in
    let well : ∥ AreKeyed ds run.entries ∥₁ = subst (λ d. ∥ AreKeyed d run.entries ∥₁) dirs (subst (λ r. ∥ AreKeyed lent.dirs r.entries ∥₁) same good) in
    record {
      good = subst (λ es. ∥ AreKeyed ds es ∥₁) (sym all) (∥∥₁_map₂ so_far.good well (λ h k. each-append (IsEntry ds) (entries_of_all (take i runs)) run.entries h k));
      told = ap (map (packed ds)) all
          ∙ (map-append (packed ds) (entries_of_all (take i runs)) run.entries
          ∙ ((λ j. so_far.told j ++ map (packed (sym dirs j)) (sym same j).entries) ∙ sym grown));
    }

pub stand_sorted : (ds : List Dir) (es : List Entry) (ps qs : List Packed) → Stand ds es ps → qs ≡ sort packed_cmp ps → Stand ds (sort (run_cmp ds) es) qs
stand_sorted ds es ps qs stands sorted = record {
  good = ∥∥₁_map stands.good (λ h. each-sort (run_cmp ds) (IsEntry ds) es h);
  told = ∥∥₁_elim stands.good (Coded-set (coded_list coded_packed) (map (packed ds) (sort (run_cmp ds) es)) qs)
      (λ h. sym (sorted_codes ds es h) ∙ (ap (sort packed_cmp) stands.told ∙ sym sorted));
}
