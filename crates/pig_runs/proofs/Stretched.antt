-- Stretches of runs: what their slots find are the entries of the parts, and what is merged of them is all of these in order.
use Rattle.std.proofs.Common.{◌≡◌, ◌<◌, ◌+◌, ℕ, List, [], ◌∷◌, ◌++◌, map, length, take, drop, get_or, refl, sym, ◌∙◌, ap, subst}
use Rattle.std.specs.Prelude.{Bool, Some, option_map, slice_get}
use Rattle.std.specs.Bool.{Decides}
use Rattle.std.specs.Coded.{Coded-set}
use Rattle.std.specs.List.{AllByRecursion, flat_map}
use Rattle.std.proofs.Math.Logic.{∥∥₁_map, ∥∥₁_map₂, ∥∥₁_elim}
use Rattle.std.proofs.lemmas.List.{append-nil, drop-map, length-map, map-append, take-map}
use Rattle.std.proofs.lemmas.List.Concat.{flat_map-append}
use Rattle.std.proofs.lemmas.Option.{slice_get-map, slice_get_read}
use Rattle.pig_value.specs.Gathering.{Entry}
use Rattle.pig_value.specs.Sorts.{Ascends, sort}
use Rattle.pig_value.specs.TreeCode.{coded_tree}
use Rattle.pig_value.specs.declared.operators.Dir.{Dir}
use Rattle.pig_value.proofs.list_laws.Bags.{ascends_prop, drop_ascends, sort_ascends, take_ascends}
use Rattle.pig_value.proofs.list_laws.Indexing.{more_taken}
use Rattle.pig_value.proofs.list_laws.Listing.{each-append, each-drop, each-take, each_at, some_same}
use Rattle.pig_keycode.specs.Keys.{key_code}
use Rattle.pig_keycode.proofs.KeyOrder.{one_key}
use Rattle.pig_runs.specs.declared.run_parts.RunPart.{RunPart}
use Rattle.pig_runs.specs.declared.slots.Slot.{Slot}
use Rattle.pig_runs.specs.declared.stretches.Stretch.{Stretch}
use Rattle.pig_runs.specs.Entries.{AreKeyed, InDirections, IsEntry, run_cmp}
use Rattle.pig_runs.specs.Packed.{Held, held_prop, IsPart, IsPlaced, Packed, Stand, found_at, packed, packed_cmp}
use Rattle.pig_runs.specs.Places.{found_in, found_in_all}
use Rattle.pig_runs.specs.RunParts.{part_entries}
use Rattle.pig_runs.proofs.Joined.{codes_ascend}
use Rattle.pig_runs.proofs.Lending.{lent_entry, stand_sorted}
use Rattle.pig_runs.proofs.Order.{run_total}

-- ---- the stretch of a part

module _ (ds : List Dir) (bytes : List ℕ) (slots : List Slot) (held : Held ds (map (found_at bytes) slots)) (from end : ℕ) where
  abbrev cut : {X : Type 0} → List X → List X
  cut xs = drop from (take end xs)

  pub cut_found : map (found_at bytes) (cut slots) ≡ map (packed ds) (cut held.0)
  cut_found =
      sym (drop-map (found_at bytes) from (take end slots))
      ∙ (ap (drop from) (sym (take-map (found_at bytes) end slots))
      ∙ (ap cut (sym held.1.1)
      ∙ (ap (drop from) (take-map (packed ds) end held.0) ∙ drop-map (packed ds) from (take end held.0))))

  pub cut_part : AllByRecursion (IsPlaced bytes) slots → ∥ Ascends (run_cmp ds) held.0 ∥₁ → IsPart bytes (cut slots)
  cut_part placed up = record {
    placed = each-drop (IsPlaced bytes) from (take end slots) (each-take (IsPlaced bytes) end slots placed);
    sorted = subst (Ascends packed_cmp) (sym cut_found)
        (∥∥₁_elim held.1.0 (ascends_prop packed_cmp (map (packed ds) (cut held.0)))
        (λ h. ∥∥₁_elim up (ascends_prop packed_cmp (map (packed ds) (cut held.0)))
        (λ u. codes_ascend ds (cut held.0) (each-drop (IsEntry ds) from (take end held.0) (each-take (IsEntry ds) end held.0 h)) (drop_ascends (run_cmp ds) from (take end held.0) (take_ascends (run_cmp ds) end held.0 u)))));
  }

-- ---- one part more

pub one_stretch_more : (ds : List Dir) (parts : List RunPart) (i : ℕ) (part : RunPart) (lent : InDirections) (found new : List Stretch) (s : Stretch) → AllByRecursion (λ p. p.run.now.dirs ≡ ds) parts → i < length parts
    → part ≡ get_or parts i part → lent ≡ part.run.now → ∥ AreKeyed lent.dirs lent.entries ∥₁ → found_in s ≡ map (packed lent.dirs) (drop part.from (take part.end lent.entries)) → new ≡ found ++ s ∷ []
    → Stand ds (flat_map part_entries (take i parts)) (found_in_all found) → Stand ds (flat_map part_entries (take (i + 1) parts)) (found_in_all new)
one_stretch_more ds parts i part lent found new s alike within at same good finds grown so_far =
    let here = slice_get_read parts (length parts) i part refl within at in
    let dirs : lent.dirs ≡ ds = ap (λ r. r.dirs) same ∙ each_at (λ p. p.run.now.dirs ≡ ds) parts i part here alike in
    let before : List Entry = flat_map part_entries (take i parts) in
    let own : drop part.from (take part.end lent.entries) ≡ part_entries part = ap (λ r. drop part.from (take part.end r.entries)) same in
    let all : flat_map part_entries (take (i + 1) parts) ≡ before ++ part_entries part =
    ap (flat_map part_entries) (more_taken parts i part here) ∙ (flat_map-append part_entries (take i parts) (part ∷ []) ∙ ap (λ l. before ++ l) (append-nil (part_entries part)))
    in
    let well : ∥ AreKeyed ds (part_entries part) ∥₁ =
    ∥∥₁_map good (λ h. subst (AreKeyed ds) own (subst (λ d. AreKeyed d (drop part.from (take part.end lent.entries))) dirs
    (each-drop (IsEntry lent.dirs) part.from (take part.end lent.entries) (each-take (IsEntry lent.dirs) part.end lent.entries h))))
    in
    record {
      good = subst (λ es. ∥ AreKeyed ds es ∥₁) (sym all) (∥∥₁_map₂ so_far.good well (λ h k. each-append (IsEntry ds) before (part_entries part) h k));
      told = ap (map (packed ds)) all
          ∙ (map-append (packed ds) before (part_entries part)
          ∙ ((λ j. so_far.told j ++ map (packed (sym dirs j)) (sym own j))
          ∙ (ap (λ l. found_in_all found ++ l) (sym finds)
          ∙ sym (ap found_in_all grown ∙ (flat_map-append found_in found (s ∷ []) ∙ ap (λ l. found_in_all found ++ l) (append-nil (found_in s)))))));
    }

pub none_found : (ds : List Dir) → Stand ds [] []
none_found ds = record { good = ∣ tt ∣₁; told = refl }

-- ---- what is merged of all

module _ (ds : List Dir) (es : List Entry) (ps qs : List Packed) (stands : Stand ds es ps) (sorted : qs ≡ sort packed_cmp ps) where
  pub merged_stands : Stand ds (sort (run_cmp ds) es) qs
  merged_stands = stand_sorted ds es ps qs stands sorted

  pub merged_held : ∥ ((fs : List Entry) × (Stand ds fs qs × Ascends (run_cmp ds) fs)) ∥₁
  merged_held = ∣ (sort (run_cmp ds) es, (merged_stands, sort_ascends (run_cmp ds) (run_total ds) es)) ∣₁

-- what bytes stand for is held, and sorted
pub held_of : (ds : List Dir) (ps : List Packed) → ∥ ((fs : List Entry) × (Stand ds fs ps × Ascends (run_cmp ds) fs)) ∥₁ → Held ds ps
held_of ds ps h = ∥∥₁_elim h (held_prop ds ps) (λ w. (w.0, (w.1.0.good, w.1.0.told)))

pub held_up : (ds : List Dir) (ps : List Packed) (given : Held ds ps) → ∥ ((fs : List Entry) × (Stand ds fs ps × Ascends (run_cmp ds) fs)) ∥₁ → ∥ Ascends (run_cmp ds) given.0 ∥₁
held_up ds ps given h = ∥∥₁_map h (λ w. subst (Ascends (run_cmp ds)) (ap (λ k. k.0) (held_prop ds ps (w.0, (w.1.0.good, w.1.0.told)) given)) w.1.1)

-- ---- what is held, place by place

module _ {X : Type 0} (ds : List Dir) (found : X → Packed) (xs : List X) (held : Held ds (map found xs)) where
  pub held_as_many : length held.0 ≡ length xs
  held_as_many = sym (length-map held.0 (packed ds)) ∙ (ap length held.1.1 ∙ length-map xs found)

  pub held_at_place : (at : ℕ) (x : X) → slice_get xs at ≡ Some x → option_map (packed ds) (slice_get held.0 at) ≡ Some (found x)
  held_at_place at x here =
      sym (slice_get-map (packed ds) held.0 at) ∙ (ap (λ l. slice_get l at) held.1.1 ∙ (slice_get-map found xs at ∙ ap (option_map found) here))

-- two keys are the same where their bytes are
pub same_lent : (ds : List Dir) (es : List Entry) (at other : ℕ) (p q : Packed) (r : Bool) → ∥ AreKeyed ds es ∥₁ → option_map (packed ds) (slice_get es at) ≡ Some p → option_map (packed ds) (slice_get es other) ≡ Some q
    → Decides r (p.key ≡ q.key) → Decides r (option_map (λ e. e.key) (slice_get es at) ≡ option_map (λ e. e.key) (slice_get es other))
same_lent ds es at other p q r good is_p is_q d =
    let a = lent_entry ds (slice_get es at) p is_p in
    let b = lent_entry ds (slice_get es other) q is_q in
    let left : option_map (λ e. e.key) (slice_get es at) ≡ Some a.0.key = ap (option_map (λ e. e.key)) a.1.0 in
    let right : option_map (λ e. e.key) (slice_get es other) ≡ Some b.0.key = ap (option_map (λ e. e.key)) b.1.0 in
    let a_code : key_code ds a.0.key ≡ p.key = ap (λ p. p.key) a.1.1 in
    let b_code : key_code ds b.0.key ≡ q.key = ap (λ p. p.key) b.1.1 in (
      λ yes.
          let codes : key_code ds a.0.key ≡ key_code ds b.0.key = a_code ∙ (d.0 yes ∙ sym b_code) in
          let keys : a.0.key ≡ b.0.key =
          ∥∥₁_elim good (Coded-set coded_tree a.0.key b.0.key)
          (λ h. one_key ds a.0.key b.0.key (each_at (IsEntry ds) es at a.0 a.1.0 h).key (each_at (IsEntry ds) es other b.0 b.1.0 h).key codes)
          in
          left ∙ (ap Some keys ∙ sym right),
      λ same.
          let keys : a.0.key ≡ b.0.key = some_same a.0.key b.0.key (sym left ∙ (same ∙ right)) in
          d.1 (sym a_code ∙ (ap (key_code ds) keys ∙ b_code)),
    )
