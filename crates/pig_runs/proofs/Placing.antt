-- What the heads of stretches find: one by one what the slots find, in order within each stretch.
use Rattle.std.proofs.Common.{◌≡◌, ◌+◌, ℕ, zero, suc, List, [], ◌∷◌, ◌++◌, map, length, drop, get_or, refl, arith, sym, ◌∙◌, ap, subst, add-one, suc-add}
use Rattle.std.specs.Prelude.{Option, Some, None, slice_get}
use Rattle.std.specs.List.{AllByRecursion, flat_map, range_with_len}
use Rattle.pig_value.specs.Leaves.{AreBytes}
use Rattle.pig_value.specs.Sorts.{Ascends}
use Rattle.pig_value.proofs.list_laws.Listing.{each-map, each_at, each_of_all, map-flat_map}
use Rattle.pig_runs.specs.declared.slots.Slot.{Slot}
use Rattle.pig_runs.specs.declared.stretches.Head.{Head}
use Rattle.pig_runs.specs.declared.stretches.Stretch.{Stretch}
use Rattle.pig_runs.specs.Packed.{IsPart, IsPlaced, Packed, found_at, fronted_entry_cmp, packed_cmp}
use Rattle.pig_runs.specs.Places.{AreStretches, IsStretch, bytes_in, bytes_of, found_head, found_in_all, found_place, fronted_head, heads_from, lists_of_heads, no_slot, slot_of, slots_in}
use Rattle.pig_runs.proofs.FrontedSlots.{apart_order}
use Rattle.pig_runs.proofs.KWay.{IsList, in_turn}

-- ---- what stands at each of the first places of a list is the list

shifted : {Y : Type 0} (f : ℕ → Y) (a n : ℕ) → map f (range_with_len (a + 1) n) ≡ map (λ i. f (suc i)) (range_with_len a n)
shifted f a zero = refl
shifted f a (suc n) = let rest = shifted f (a + 1) n in λ i. f (add-one a i) ∷ rest i

each_found : {X Y : Type 0} (f : Option X → Y) (xs : List X) → map (λ i. f (slice_get xs i)) (range_with_len 0 (length xs)) ≡ map (λ x. f (Some x)) xs
each_found f [] = refl
each_found f (x ∷ xs) = ap (λ l. f (Some x) ∷ l) (shifted (λ i. f (slice_get (x ∷ xs) i)) 0 (length xs) ∙ each_found f xs)

flat_mapped : {X Y Z : Type 0} (g : Y → List Z) (f : X → Y) (xs : List X) → flat_map g (map f xs) ≡ flat_map (λ x. g (f x)) xs
flat_mapped g f [] = refl
flat_mapped g f (x ∷ xs) = ap (λ l. g (f x) ++ l) (flat_mapped g f xs)

-- what stands at a place of a list, and behind it
at_drop : (n : ℕ) (xs : List Slot) (x : Slot) (rest : List Slot) → drop n xs ≡ x ∷ rest → (get_or xs n no_slot ≡ x) × (drop (n + 1) xs ≡ rest)
at_drop zero [] x rest e = absurd (omega (arith, ap length e))
at_drop zero (y ∷ xs) x rest e = (ap (λ l. get_or l 0 no_slot) e, ap (drop 1) e)
at_drop (suc n) [] x rest e = absurd (omega (arith, ap length e))
at_drop (suc n) (y ∷ xs) x rest e = let more = at_drop n xs x rest e in (more.0, ap (λ k. drop k (y ∷ xs)) (suc-add n 1) ∙ more.1)

-- ---- the heads of stretches

module _ (stretches : List Stretch) (sound : AreStretches stretches) where
  -- the head is one of a slot
  pub record IsSeen (h : Head) : Type 0 where
    pub placed : IsPlaced (bytes_of stretches h.place) h.slot
    pub bytes : AreBytes (bytes_of stretches h.place)
    pub there : slot_of stretches h.place ≡ h.slot

  pub head_order : (h k : Head) → IsSeen h → IsSeen k → fronted_entry_cmp (fronted_head stretches h) (fronted_head stretches k) ≡ packed_cmp (found_head stretches h) (found_head stretches k)
  head_order h k s t = apart_order (bytes_of stretches h.place) (bytes_of stretches k.place) h.slot k.slot s.bytes t.bytes s.placed t.placed

  -- the places of heads find what the heads do
  pub places_found : (heads : List Head) → AllByRecursion IsSeen heads → map (found_place stretches) (map (λ h. h.place) heads) ≡ map (found_head stretches) heads
  places_found [] good = refl
  places_found (h ∷ heads) good =
      let first : found_place stretches h.place ≡ found_head stretches h = ap (found_at (bytes_of stretches h.place)) good.0.there in
      let rest = places_found heads good.1 in
      λ i. first i ∷ rest i

  sound_at : (i : ℕ) → IsPart (bytes_in (slice_get stretches i)) (slots_in (slice_get stretches i)) × AreBytes (bytes_in (slice_get stretches i))
  sound_at i = by (slice_get stretches i) refl
    where
      by : (o : Option Stretch) → slice_get stretches i ≡ o → IsPart (bytes_in o) (slots_in o) × AreBytes (bytes_in o)
      by None e = (record { placed = tt; sorted = tt }, tt)
      by (Some s) e = let h = each_at IsStretch stretches i s e sound in (h.part, h.bytes)

  abbrev list_at : ℕ → List Head
  list_at i = heads_from i 0 (slots_in (slice_get stretches i))

  -- what the heads of one stretch find, from a slot on
  heads_found : (i n : ℕ) (slots : List Slot) → map (found_head stretches) (heads_from i n slots) ≡ map (found_at (bytes_in (slice_get stretches i))) slots
  heads_found i n [] = refl
  heads_found i n (s ∷ slots) = ap (λ l. found_at (bytes_in (slice_get stretches i)) s ∷ l) (heads_found i (n + 1) slots)

  one_found : (i : ℕ) → map (found_head stretches) (list_at i) ≡ map (found_at (bytes_in (slice_get stretches i))) (slots_in (slice_get stretches i))
  one_found i = heads_found i 0 (slots_in (slice_get stretches i))

  heads_seen : (i n : ℕ) (slots : List Slot) → drop n (slots_in (slice_get stretches i)) ≡ slots → AllByRecursion (IsPlaced (bytes_in (slice_get stretches i))) slots → AllByRecursion IsSeen (heads_from i n slots)
  heads_seen i n [] at h = tt
  heads_seen i n (s ∷ slots) at h =
      let here = at_drop n (slots_in (slice_get stretches i)) s slots at in
      (record { placed = h.0; bytes = (sound_at i).1; there = here.0 }, heads_seen i (n + 1) slots here.1 h.1)

  one_list : (i : ℕ) → IsList (fronted_head stretches) (found_head stretches) IsSeen head_order (list_at i)
  one_list i = record {
    good = heads_seen i 0 (slots_in (slice_get stretches i)) refl (sound_at i).0.placed;
    sorted = subst (Ascends packed_cmp) (sym (one_found i)) (sound_at i).0.sorted;
  }

  pub all_lists : AllByRecursion (IsList (fronted_head stretches) (found_head stretches) IsSeen head_order) (lists_of_heads stretches)
  all_lists = each-map (IsList (fronted_head stretches) (found_head stretches) IsSeen head_order) list_at (range_with_len 0 (length stretches))
      (each_of_all (λ i. IsList (fronted_head stretches) (found_head stretches) IsSeen head_order (list_at i)) one_list (range_with_len 0 (length stretches)))

  -- all together they find what all slots find
  pub all_found : map (found_head stretches) (in_turn (lists_of_heads stretches)) ≡ found_in_all stretches
  all_found =
      let places = range_with_len 0 (length stretches) in
      map-flat_map (found_head stretches) (λ list. list) (lists_of_heads stretches)
      ∙ (flat_mapped (map (found_head stretches)) list_at places
      ∙ (ap (λ f. flat_map f places) (λ j i. one_found i j)
      ∙ (sym (flat_mapped found_where (slice_get stretches) places)
      ∙ (ap (flat_map found_where) (each_found (λ o. o) stretches)
      ∙ flat_mapped found_where Some stretches))))
    where
      found_where : Option Stretch → List Packed
      found_where o = map (found_at (bytes_in o)) (slots_in o)
