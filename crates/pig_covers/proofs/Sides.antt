-- What is left of a JOIN's rows, side by side, and what a JOIN names of its inputs.
use Rattle.std.specs.Prelude.{⊤, ◌≡◌, ◌<◌, ◌≤◌, ◌==◌, ◌&&◌, ◌||◌, ◌+◌, ◌-◌, ◌++◌, ℕ, suc, zero, Bool, true, false, not, List, [], ◌∷◌, map, length, nat_le, nat_lt, Option, Some, None, slice_get, refl, if◌then◌else◌}
use Rattle.std.specs.List.{AllByRecursion, cons_option, filter_map, find, flat_map, range_with_len}
use Rattle.std.specs.Option.{is_some, option_map, option_map_or, option_or}
use Rattle.std.proofs.Common.{ap, sym, ◌∙◌, ◌⊎◌, inl, inr, subst, arith, cond, true≢false}
use Rattle.std.proofs.lemmas.Bool.{and_from, eq-eqb, eqb-true, le-leb, leb-false, leb-true, lt-ltb}
use Rattle.std.proofs.lemmas.List.{length-append}
use Rattle.std.proofs.lemmas.Option.{none-some, slice_get_within}
use Rattle.pig_value.proofs.list_laws.Bags.{either_way}
use Rattle.pig_value.proofs.list_laws.Elementwise.{get-behind, range_above}
use Rattle.pig_value.proofs.list_laws.Listing.{each-append, each-map, each_of_all, each_weaker, some_same}
use Rattle.pig_value.specs.Trees.{KindTree}
use Rattle.pig_plan.proofs.Unfolds.{get-front}
use Rattle.pig_plan.specs.Meaning.{width_at}
use Rattle.pig_plan.specs.NodeKinds.{KeyedKinds, RowKinds, kinds_at, only_if}
use Rattle.pig_plan.specs.Plans.{Keyed, Plan}
use Rattle.pig_cuts.proofs.Joined.{IsWithin}
use Rattle.pig_cuts.specs.declared.kept.KeptField.{KeptField}
use Rattle.pig_cuts.specs.Cuts.{Left, NodeCut, left_of}
use Rattle.pig_cuts.specs.Plans.{are_whole, behind, fields_of_cut, sides_kept, whole_field}
use Rattle.pig_needs.specs.declared.lists.Need.{Need}
use Rattle.pig_needs.specs.declared.lists.Use.{Use}
use Rattle.pig_needs.specs.Needed.{field, is_needed, join_uses, key_names, need_of, same_need, within}
use Rattle.pig_covers.proofs.Bags.{use_itself}
use Rattle.pig_covers.proofs.Blocks.{FieldsLed, OwnLed, above, begins, has_range, whole_left}
use Rattle.pig_covers.proofs.Covered.{CoveredBy, IsBagOf, whole_covers}
use Rattle.pig_covers.proofs.Naming.{any_back, any_front, are_uses, either_of, first_of, is_use, need_itself, need_sound, second_of}

-- ---- what is known of a node: its cut has what is needed of it

module _ (p : Plan) (C : ℕ → NodeCut) where
  pub record IsFine (i : ℕ) (ks : RowKinds) : Type 0 where
    pub kinds : kinds_at p i ≡ Some ks
    pub covers : (n : Need) → is_needed n (need_of p i) ≡ true → n.position < length ks → CoveredBy C (width_at p) n.part (left_of (C i) n.position)
    pub whole : ((j : ℕ) → j < length ks → is_needed (field j) (need_of p i) ≡ true) → C i ≡ None
    pub likes : (q m : ℕ) → left_of (C i) q ≡ Some (Some m) → IsBagOf C (width_at p) ks q m
    pub led : OwnLed (C i)
    pub within : IsWithin (length ks) (C i)

  pub wide : (i : ℕ) (ks : RowKinds) → IsFine i ks → width_at p i ≡ length ks
  wide i ks fine = ap (λ o. option_map_or length o 0) fine.kinds

-- ---- positions

left_append : (xs ys : List KeptField) (q : ℕ) → left_of (Some (xs ++ ys)) q ≡ option_or (left_of (Some xs) q) (left_of (Some ys) q)
left_append [] ys q = refl
left_append (f ∷ xs) ys q = by_test (f.position == q) (left_append xs ys q)
  where
    by_test : (b : Bool) → left_of (Some (xs ++ ys)) q ≡ option_or (left_of (Some xs) q) (left_of (Some ys) q)
        → option_map (λ f. f.like) (cond b (Some f) (find (λ f. f.position == q) (xs ++ ys))) ≡ option_or (option_map (λ f. f.like) (cond b (Some f) (find (λ f. f.position == q) xs))) (left_of (Some ys) q)
    by_test true h = refl
    by_test false h = h

same_test : (first a b : ℕ) → (first + a == first + b) ≡ (a == b)
same_test first a b =
    either_way (a == b)
    (λ e. let same = eqb-true a b e in eq-eqb (first + a) (first + b) (omega (arith, same)) ∙ sym e)
    (λ e. either_way (first + a == first + b) (λ g. let same = eqb-true (first + a) (first + b) g in absurd (true≢false (sym (eq-eqb a b (omega (arith, same))) ∙ e))) (λ g. g ∙ sym e))

behind_at : (first : ℕ) (kept : List KeptField) (q : ℕ) → left_of (Some (map (behind first) kept)) (first + q) ≡ left_of (Some kept) q
behind_at first [] q = refl
behind_at first (f ∷ kept) q =
    ap (λ b. option_map (λ x. x.like) (cond b (Some (behind first f)) (find (λ x. x.position == first + q) (map (behind first) kept)))) (same_test first f.position q)
    ∙ by_test (f.position == q) (behind_at first kept q)
  where
    by_test : (b : Bool) → left_of (Some (map (behind first) kept)) (first + q) ≡ left_of (Some kept) q
        → option_map (λ x. x.like) (cond b (Some (behind first f)) (find (λ x. x.position == first + q) (map (behind first) kept))) ≡ option_map (λ x. x.like) (cond b (Some f) (find (λ x. x.position == q) kept))
    by_test true h = refl
    by_test false h = h

none_where : (kept : List KeptField) (q : ℕ) → AllByRecursion (λ f. f.position ≡ q → ⊥) kept → left_of (Some kept) q ≡ None
none_where [] q h = refl
none_where (f ∷ kept) q h =
    let other : (f.position == q) ≡ false = either_way (f.position == q) (λ e. absurd (h.0 (eqb-true f.position q e))) (λ e. e) in
    ap (λ b. option_map (λ x. x.like) (cond b (Some f) (find (λ x. x.position == q) kept))) other ∙ none_where kept q h.1

or_none : (l : Left) → option_or l None ≡ l
or_none None = refl
or_none (Some x) = refl

module _ (C : ℕ → NodeCut) (W : ℕ → ℕ) where
  pub sides_above : (first : ℕ) (ins : List ℕ) → AllByRecursion (λ f. first ≤ f.position) (sides_kept C W first ins)
  sides_above first [] = tt
  sides_above first (i ∷ ins) =
      each-append (λ f. first ≤ f.position) (map (behind first) (fields_of_cut (W i) (C i))) (sides_kept C W (first + W i) ins)
      (each-map (λ f. first ≤ f.position) (behind first) (fields_of_cut (W i) (C i)) (each_of_all (λ f. first ≤ first + f.position) (λ f. omega arith) (fields_of_cut (W i) (C i))))
      (each_weaker (λ f. first + W i ≤ f.position) (λ f. first ≤ f.position) (λ f h. omega (arith, h)) (sides_kept C W (first + W i) ins) (sides_above (first + W i) ins))

  here : (first i : ℕ) (ins : List ℕ) (q : ℕ) → q < W i → left_of (Some (sides_kept C W first (i ∷ ins))) (first + q) ≡ left_of (Some (fields_of_cut (W i) (C i))) q
  here first i ins q low =
      left_append (map (behind first) (fields_of_cut (W i) (C i))) (sides_kept C W (first + W i) ins) (first + q)
      ∙ ap (option_or (left_of (Some (map (behind first) (fields_of_cut (W i) (C i)))) (first + q)))
      (none_where (sides_kept C W (first + W i) ins) (first + q)
      (each_weaker (λ f. first + W i ≤ f.position) (λ f. f.position ≡ first + q → ⊥) (λ f h e. omega (arith, h, e, low)) (sides_kept C W (first + W i) ins) (sides_above (first + W i) ins)))
      ∙ or_none (left_of (Some (map (behind first) (fields_of_cut (W i) (C i)))) (first + q))
      ∙ behind_at first (fields_of_cut (W i) (C i)) q

  there : (first i : ℕ) (ins : List ℕ) (q : ℕ) → IsWithin (W i) (C i) → W i ≤ q → left_of (Some (sides_kept C W first (i ∷ ins))) (first + q) ≡ left_of (Some (sides_kept C W (first + W i) ins)) (first + q)
  there first i ins q inside high =
      left_append (map (behind first) (fields_of_cut (W i) (C i))) (sides_kept C W (first + W i) ins) (first + q)
      ∙ ap (λ l. option_or l (left_of (Some (sides_kept C W (first + W i) ins)) (first + q)))
      (behind_at first (fields_of_cut (W i) (C i)) q
      ∙ none_where (fields_of_cut (W i) (C i)) q (each_weaker (λ f. f.position < W i) (λ f. f.position ≡ q → ⊥) (λ f h e. omega (arith, h, e, high)) (fields_of_cut (W i) (C i)) inside))

  -- a field of a side is left as in the side's cut
  side_left : (i q : ℕ) (l : Left) (o : NodeCut) → C i ≡ o → q < W i → left_of (Some (fields_of_cut (W i) o)) q ≡ l → ((l ≡ Some None) × (o ≡ None)) ⊎ (left_of (C i) q ≡ l)
  side_left i q l None e low h = inl (sym h ∙ whole_left (range_with_len 0 (W i)) q (has_range 0 (W i) q (omega arith) (omega (arith, low))), refl)
  side_left i q l (Some kept) e low h = inr (ap (λ o. left_of o q) e ∙ h)

-- ---- what is named

abbrev shift : ℕ → Need → Need
shift first n = record { position = n.position - first; part = n.part }

within_is : (first size : ℕ) (n : Need) → first ≤ n.position → n.position < first + size → within first size n ≡ Some (shift first n)
within_is first size n low high =
    ap (λ b. only_if b (Some (shift first n)))
    (and_from (nat_le first n.position) (nat_lt (n.position - first) size) (le-leb first n.position low) (lt-ltb (n.position - first) size (omega (arith, low, high))))

shift_needed : (first size : ℕ) (own : List Need) (n : Need) → is_needed n own ≡ true → first ≤ n.position → n.position < first + size → is_needed (shift first n) (filter_map (within first size) own) ≡ true
shift_needed first size [] n h low high = absurd (true≢false (sym h))
shift_needed first size (m ∷ own) n h low high =
    either_of (same_need n m) (is_needed n own) h
    (λ e. subst (λ o. is_needed (shift first n) (cons_option o (filter_map (within first size) own)) ≡ true)
    (sym (within_is first size n low high) ∙ ap (within first size) (need_sound n m e))
    (first_of (same_need (shift first n) (shift first n)) (is_needed (shift first n) (filter_map (within first size) own)) (need_itself (shift first n))))
    (λ e. put_on (within first size m) (shift_needed first size own n e low high))
  where
    put_on : (o : Option Need) → is_needed (shift first n) (filter_map (within first size) own) ≡ true → is_needed (shift first n) (cons_option o (filter_map (within first size) own)) ≡ true
    put_on None g = g
    put_on (Some x) g = second_of (same_need (shift first n) x) (is_needed (shift first n) (filter_map (within first size) own)) g

-- ---- sides

module _ (p : Plan) (C : ℕ → NodeCut) (own : List Need) where
  abbrev W : ℕ → ℕ
  W = width_at p

  abbrev pub AllFine : List Keyed → List KeyedKinds → Type 0
  AllFine [] [] = ⊤
  AllFine (i ∷ inputs) (f ∷ fs) = IsFine p C i.input f.row × AllFine inputs fs
  AllFine inputs fs = ⊥

  abbrev numbers : List Keyed → List ℕ
  numbers inputs = map (λ i. i.input) inputs

  abbrev pub all_rows : List KeyedKinds → RowKinds
  all_rows fs = flat_map (λ f. f.row) fs

  -- what the JOIN names of inputs is needed of them
  abbrev pub AreNeeded : ℕ → List Keyed → Type 0
  AreNeeded first inputs = (x : ℕ) (m : Need) → are_uses x m (join_uses W own first inputs) ≡ true → is_needed m (need_of p x) ≡ true

  use_here : (first : ℕ) (i : Keyed) (inputs : List Keyed) → AreNeeded first (i ∷ inputs) → (n : Need) → is_needed n own ≡ true → first ≤ n.position → n.position < first + W i.input
      → is_needed (shift first n) (need_of p i.input) ≡ true
  use_here first i inputs needed n h low high =
      needed i.input (shift first n)
      (first_of (is_use i.input (shift first n) (record { input = i.input; named = key_names i.keys ++ filter_map (within first (W i.input)) own })) _
      (use_itself i.input (shift first n) (key_names i.keys ++ filter_map (within first (W i.input)) own)
      (any_back (shift first n) (key_names i.keys) (filter_map (within first (W i.input)) own) (shift_needed first (W i.input) own n h low high))))

  use_behind : (first : ℕ) (i : Keyed) (inputs : List Keyed) → AreNeeded first (i ∷ inputs) → AreNeeded (first + W i.input) inputs
  use_behind first i inputs needed x m h = needed x m (second_of _ (are_uses x m (join_uses W own (first + W i.input) inputs)) h)

  covered_as : (i : ℕ) (ks : RowKinds) (fine : IsFine p C i ks) (n : Need) (q : ℕ) → q < W i → is_needed (record { position = q; part = n.part }) (need_of p i) ≡ true → CoveredBy C W n.part (left_of (Some (fields_of_cut (W i) (C i))) q)
  covered_as i ks fine n q low h =
      let size = wide p C i ks fine in
      elim (side_left C W i q (left_of (Some (fields_of_cut (W i) (C i))) q) (C i) refl low refl) [
        | inl both ↦ whole_covers C W n.part _ both.0
        | inr same ↦ subst (CoveredBy C W n.part) same (fine.covers (record { position = q; part = n.part }) h (omega (arith, low, size)))
      ]

  pub covers_sides : (first : ℕ) (inputs : List Keyed) (fs : List KeyedKinds) → AllFine inputs fs → AreNeeded first inputs → (n : Need) → is_needed n own ≡ true → first ≤ n.position → n.position < first + length (all_rows fs)
      → CoveredBy C W n.part (left_of (Some (sides_kept C W first (numbers inputs))) n.position)
  covers_sides first [] [] fine needed n h low high = absurd (omega (arith, low, high))
  covers_sides first (i ∷ inputs) (f ∷ fs) fine needed n h low high = by_place (nat_le (first + W i.input) n.position) refl (covers_sides (first + W i.input) inputs fs fine.1 (use_behind first i inputs needed) n h)
    where
      place : first + (n.position - first) ≡ n.position
      place = omega (arith, low)

      size : W i.input ≡ length f.row
      size = wide p C i.input f.row fine.0

      long : length (all_rows (f ∷ fs)) ≡ length f.row + length (all_rows fs)
      long = length-append f.row (all_rows fs)

      by_place : (b : Bool) → nat_le (first + W i.input) n.position ≡ b
          → (first + W i.input ≤ n.position → n.position < first + W i.input + length (all_rows fs) → CoveredBy C W n.part (left_of (Some (sides_kept C W (first + W i.input) (numbers inputs))) n.position))
          → CoveredBy C W n.part (left_of (Some (sides_kept C W first (i.input ∷ numbers inputs))) n.position)
      by_place true e rest =
          let past : first + W i.input ≤ n.position = leb-true (first + W i.input) n.position e in
          subst (λ q. CoveredBy C W n.part (left_of (Some (sides_kept C W first (i.input ∷ numbers inputs))) q)) place
          (subst (CoveredBy C W n.part)
          (ap (left_of (Some (sides_kept C W (first + W i.input) (numbers inputs)))) (sym place)
          ∙ sym (there C W first i.input (numbers inputs) (n.position - first) (subst (λ w. IsWithin w (C i.input)) (sym size) fine.0.within) (omega (arith, past, low))))
          (rest past (omega (arith, high, long, size))))
      by_place false e rest =
          let inside : n.position < first + W i.input = leb-false (first + W i.input) n.position e in
          subst (λ q. CoveredBy C W n.part (left_of (Some (sides_kept C W first (i.input ∷ numbers inputs))) q)) place
          (subst (CoveredBy C W n.part) (sym (here C W first i.input (numbers inputs) (n.position - first) (omega (arith, inside, low))))
          (covered_as i.input f.row fine.0 n (n.position - first) (omega (arith, inside, low)) (use_here first i inputs needed n h low inside)))
  covers_sides first [] (f ∷ fs) fine needed n h low high = absurd fine
  covers_sides first (i ∷ inputs) [] fine needed n h low high = absurd fine

  pub all_sides : (first : ℕ) (inputs : List Keyed) (fs : List KeyedKinds) → AllFine inputs fs → AreNeeded first inputs → ((j : ℕ) → first ≤ j → j < first + length (all_rows fs) → is_needed (field j) own ≡ true)
      → are_whole C (numbers inputs) ≡ true
  all_sides first [] [] fine needed h = refl
  all_sides first (i ∷ inputs) (f ∷ fs) fine needed h =
      let size = wide p C i.input f.row fine.0 in
      let long = length-append f.row (all_rows fs) in
      let none : C i.input ≡ None =
      fine.0.whole (λ j low.
      let back : first + j - first ≡ j = omega arith in
      subst (λ q. is_needed (field q) (need_of p i.input) ≡ true) back
      (use_here first i inputs needed (field (first + j)) (h (first + j) (omega arith) (omega (arith, low, long))) (omega arith) (omega (arith, low, size)))) in
      and_from (not (is_some (C i.input))) (are_whole C (numbers inputs)) (ap (λ o. not (is_some o)) none)
      (all_sides (first + W i.input) inputs fs fine.1 (use_behind first i inputs needed) (λ j low high. h j (omega (arith, low)) (omega (arith, high, long, size))))
  all_sides first [] (f ∷ fs) fine needed h = absurd fine
  all_sides first (i ∷ inputs) [] fine needed h = absurd fine

  pub likes_sides : (whole : RowKinds) (first : ℕ) (inputs : List Keyed) (fs : List KeyedKinds) → AllFine inputs fs → ((j : ℕ) (k : KindTree) → slice_get (all_rows fs) j ≡ Some k → slice_get whole (first + j) ≡ Some k)
      → (q m : ℕ) → first ≤ q → left_of (Some (sides_kept C W first (numbers inputs))) q ≡ Some (Some m) → IsBagOf C W whole q m
  likes_sides whole first [] [] fine at q m low e = absurd (none-some (Some m) e)
  likes_sides whole first (i ∷ inputs) (f ∷ fs) fine at q m low e =
      by_place (nat_le (first + W i.input) q) refl
      (likes_sides whole (first + W i.input) inputs fs fine.1
      (λ j k g. let next : first + W i.input + j ≡ first + (W i.input + j) = omega arith in
      ap (slice_get whole) next ∙ at (W i.input + j) k (ap (λ n. slice_get (all_rows (f ∷ fs)) (n + j)) size ∙ get-behind f.row (all_rows fs) j ∙ g)) q m)
    where
      place : first + (q - first) ≡ q
      place = omega (arith, low)

      size : W i.input ≡ length f.row
      size = wide p C i.input f.row fine.0

      by_place : (b : Bool) → nat_le (first + W i.input) q ≡ b → (first + W i.input ≤ q → left_of (Some (sides_kept C W (first + W i.input) (numbers inputs))) q ≡ Some (Some m) → IsBagOf C W whole q m) → IsBagOf C W whole q m
      by_place true g rest =
          let past : first + W i.input ≤ q = leb-true (first + W i.input) q g in
          rest past
          (ap (left_of (Some (sides_kept C W (first + W i.input) (numbers inputs)))) (sym place)
          ∙ sym (there C W first i.input (numbers inputs) (q - first) (subst (λ w. IsWithin w (C i.input)) (sym size) fine.0.within) (omega (arith, past, low)))
          ∙ ap (left_of (Some (sides_kept C W first (i.input ∷ numbers inputs)))) place ∙ e)
      by_place false g rest =
          let inside : q < first + W i.input = leb-false (first + W i.input) q g in
          let found : left_of (Some (fields_of_cut (W i.input) (C i.input))) (q - first) ≡ Some (Some m) =
          sym (here C W first i.input (numbers inputs) (q - first) (omega (arith, inside, low))) ∙ ap (left_of (Some (sides_kept C W first (i.input ∷ numbers inputs)))) place ∙ e in
          elim (side_left C W i.input (q - first) (Some (Some m)) (C i.input) refl (omega (arith, inside, low)) found) [
            | inl both ↦ absurd (none-some m (sym (some_same (Some m) None both.0)))
            | inr same ↦
                let bag = fine.0.likes (q - first) m same in
                let there_is : slice_get whole (first + (q - first)) ≡ Some _ =
                at (q - first) _ (get-front f.row (all_rows fs) (q - first) (slice_get_within f.row (q - first) _ bag.kind) ∙ bag.kind) in
                record { rows = bag.rows; kind = ap (slice_get whole) (sym place) ∙ there_is; wide = bag.wide; lead = bag.lead }
          ]
  likes_sides whole first [] (f ∷ fs) fine at q m low e = absurd fine
  likes_sides whole first (i ∷ inputs) [] fine at q m low e = absurd fine

  pub within_sides : (end first : ℕ) (inputs : List Keyed) (fs : List KeyedKinds) → AllFine inputs fs → first + length (all_rows fs) ≤ end → AllByRecursion (λ f. f.position < end) (sides_kept C W first (numbers inputs))
  within_sides end first [] [] fine h = tt
  within_sides end first (i ∷ inputs) (f ∷ fs) fine h =
      let size = wide p C i.input f.row fine.0 in
      let long = length-append f.row (all_rows fs) in
      each-append (λ x. x.position < end) (map (behind first) (fields_of_cut (W i.input) (C i.input))) (sides_kept C W (first + W i.input) (numbers inputs))
      (each-map (λ x. x.position < end) (behind first) (fields_of_cut (W i.input) (C i.input))
      (each_weaker (λ x. x.position < length f.row) (λ x. first + x.position < end) (λ x low. omega (arith, low, long, h)) (fields_of_cut (W i.input) (C i.input))
      (subst (λ w. AllByRecursion (λ x. x.position < length f.row) (fields_of_cut w (C i.input))) (sym size) fine.0.within)))
      (within_sides end (first + W i.input) inputs fs fine.1 (omega (arith, long, size, h)))
  within_sides end first [] (f ∷ fs) fine h = absurd fine
  within_sides end first (i ∷ inputs) [] fine h = absurd fine

-- ---- the first position of a JOIN

side_led : (C : ℕ → NodeCut) (i w first : ℕ) (o : NodeCut) (rest : List KeptField) → first ≡ 0 → OwnLed o → IsWithin w o → (w ≡ 0 → FieldsLed rest) → (1 ≤ w → AllByRecursion (λ f. 1 ≤ f.position) rest)
    → FieldsLed (map (behind first) (fields_of_cut w o) ++ rest)
side_led C i zero first None rest e led inside none some = none refl
side_led C i (suc w) first None rest e led inside none some = begins _ _ (omega (arith, e))
side_led C i w first (Some []) rest e led inside none some = by_width w none some
  where
    by_width : (w : ℕ) → (w ≡ 0 → FieldsLed rest) → (1 ≤ w → AllByRecursion (λ f. 1 ≤ f.position) rest) → FieldsLed rest
    by_width zero a b = a refl
    by_width (suc w) a b = above rest (b (omega arith))
side_led C i w first (Some (f ∷ kept)) rest e (begins g gs z) inside none some = begins (behind first f) (map (behind first) kept ++ rest) (omega (arith, e, z))
side_led C i w first (Some (f ∷ kept)) rest e (above fs a) inside none some =
    let low = inside.0 in
    above (map (behind first) (f ∷ kept) ++ rest)
    (each-append (λ x. 1 ≤ x.position) (map (behind first) (f ∷ kept)) rest
    (each-map (λ x. 1 ≤ x.position) (behind first) (f ∷ kept) (each_weaker (λ x. 1 ≤ x.position) (λ x. 1 ≤ first + x.position) (λ x h. omega (arith, h)) (f ∷ kept) a))
    (some (omega (arith, low))))

pub sides_led : (p : Plan) (C : ℕ → NodeCut) (own : List Need) (first : ℕ) (inputs : List Keyed) (fs : List KeyedKinds) → first ≡ 0 → AllFine p C own inputs fs → FieldsLed (sides_kept C (width_at p) first (map (λ i. i.input) inputs))
sides_led p C own first [] [] e fine = above [] tt
sides_led p C own first (i ∷ inputs) (f ∷ fs) e fine =
    let size = wide p C i.input f.row fine.0 in
    side_led C i.input (width_at p i.input) first (C i.input) (sides_kept C (width_at p) (first + width_at p i.input) (map (λ i. i.input) inputs)) e fine.0.led (subst (λ w. IsWithin w (C i.input)) (sym size) fine.0.within)
    (λ w. sides_led p C own (first + width_at p i.input) inputs fs (omega (arith, e, w)) fine.1)
    (λ w. each_weaker (λ x. first + width_at p i.input ≤ x.position) (λ x. 1 ≤ x.position) (λ x h. omega (arith, h, w)) (sides_kept C (width_at p) (first + width_at p i.input) (map (λ i. i.input) inputs))
    (sides_above C (width_at p) (first + width_at p i.input) (map (λ i. i.input) inputs)))
sides_led p C own first [] (f ∷ fs) e fine = absurd fine
sides_led p C own first (i ∷ inputs) [] e fine = absurd fine
