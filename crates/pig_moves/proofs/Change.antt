-- A move of a whole condition keeps what a plan means.
use Rattle.std.specs.Prelude.{◌≡◌, ◌<◌, ◌≤◌, ◌+◌, ◌-◌, ◌==◌, ◌&&◌, ◌||◌, ◌⊎◌, not, ℕ, Bool, true, false, List, [], ◌∷◌, map, length, nat_le, nat_lt, Option, Some, None, slice_get, slice_set, refl, if◌then◌else◌}
use Rattle.std.proofs.Common.{ap, sym, ◌∙◌, subst, arith, true≢false, inl, inr}
use Rattle.std.specs.List.{AllByRecursion, flat_map, list_all, list_any}
use Rattle.std.specs.Option.{is_some, option_and_then, option_map, option_map_or, unwrap_or}
use Rattle.std.proofs.lemmas.Bool.{eq-eqb, eqb-true, leb-true, ltb-true}
use Rattle.std.proofs.lemmas.Option.{none-some, slice_get_within}
use Rattle.pig_value.proofs.list_laws.Bags.{either_way}
use Rattle.pig_value.proofs.list_laws.Listing.{each_weaker, some_same}
use Rattle.pig_value.specs.declared.inputs.Input.{Input}
use Rattle.pig_value.specs.declared.operators.Side.{Side}
use Rattle.pig_value.specs.declared.outcomes.Kept.{Kept}
use Rattle.pig_value.specs.FieldReader.{all_of}
use Rattle.pig_value.specs.Kinds.{IsRowOf}
use Rattle.pig_value.specs.Orders.{bag_of, row_cmp}
use Rattle.pig_value.specs.Sorts.{distinct}
use Rattle.pig_typed.specs.Blocks.{foreach_all}
use Rattle.pig_typed.specs.Premises.{FunctionsKeepKinds}
use Rattle.pig_typed.specs.Typed.{Typed, TypedBlock, x_field}
use Rattle.pig_plan.proofs.Exchanged.{set_length, set_other, set_there}
use Rattle.pig_plan.proofs.Lower.{inputs_found, meaning_of_node, names_lower}
use Rattle.pig_plan.proofs.Meanings.{each_both, live_input}
use Rattle.pig_plan.proofs.Rewrites.{Earlier}
use Rattle.pig_plan.specs.Conjuncts.{conjuncts}
use Rattle.pig_plan.specs.Meaning.{meaning, width_at}
use Rattle.pig_plan.specs.Moves.{fields_in, holds_all, names_some, put}
use Rattle.pig_plan.specs.NodeKinds.{Before, KeyedKinds, NodeGives, RowKinds, is_join, keyed_kinds, keys_agree, kinds_at, node_gives, only_if}
use Rattle.pig_plan.specs.Nodes.{inputs_of, is_live, lists, names, sorts}
use Rattle.pig_plan.specs.Operators.{filter_rows, group_rows}
use Rattle.pig_plan.specs.Plans.{Keyed, Plan, PlanNode, PlanOp, p_load, p_filter, p_foreach, p_group_all, p_group, p_join, p_union, p_distinct, p_order, p_limit, p_store, p_assert, p_rank}
use Rattle.pig_plan.specs.Renumbered.{IsSame}
use Rattle.pig_plan.specs.Rewrites.{SameMeaning}
use Rattle.pig_plan.specs.Valid.{IsPlan}
use Rattle.pig_plan.proofs.Living.{each_mapped}
use Rattle.pig_moves.specs.declared.joining.Spot.{Spot}
use Rattle.pig_plan.proofs.Living.{member as member_of}
use Rattle.pig_moves.specs.Pushed.{IsMove, IsTidy, all_pass, at_spot, conjoined, filter_as, from_key, handed_on, hands_all, hands_key, high_of, is_open, low_of, may_pass, on_input, opens, over_at, over_spot, spot_for, spot_of}
use Rattle.pig_moves.proofs.InPlace.{Gives, InPlace, Reads, by_above, by_inner, in_place_means, in_place_tidy, of_kinds, wide}
use Rattle.pig_moves.proofs.Joins.{Place, Spans, filter_below_join, here, later, place_behind}
use Rattle.pig_moves.proofs.Keeps.{Allowed, IsInput, inputs_live, is_end, node_with}
use Rattle.pig_moves.proofs.Columns.{group_columns}
use Rattle.pig_moves.proofs.Kept.{distinct_kinds, filter_kinds, foreach_kinds, foreach_typed, gives_some, group_kinds_of, grouped_kinds, join_kinds_of, joined_kinds, made_kinds}
use Rattle.pig_moves.proofs.Keyed.{filter_below_group}
use Rattle.pig_moves.proofs.Passing.{filter_below_distinct, filter_below_foreach, filter_joins}

-- ---- the kinds of joined rows

abbrev all_step : Option KeyedKinds → Option (List KeyedKinds) → Option (List KeyedKinds)
all_step o r = option_and_then (λ y. option_map (λ ys. y ∷ ys) r) o

abbrev gives_joined : Side → Bool → Bool → Option (List KeyedKinds) → NodeGives
gives_joined sd replicated none r =
    option_and_then (λ found. only_if (is_join sd replicated (length found) && none) (Some (Some (flat_map (λ input. input.row) found))))
    (option_and_then (λ found. only_if (keys_agree found) (Some found)) r)

keyed_same : (before after : Before) (ks : List Keyed) → AllByRecursion (λ k. after k.input ≡ before k.input) ks → all_of (keyed_kinds after) ks ≡ all_of (keyed_kinds before) ks
keyed_same before after [] h = refl
keyed_same before after (k ∷ ks) h = λ z. all_step (keyed_kinds (λ n. h.0 z) k) (keyed_same before after ks h.1 z)

-- ---- the input of a JOIN

pub both : (a b : Bool) → (a && b) ≡ true → (a ≡ true) × (b ≡ true)
both true b e = (refl, e)
both false b e = absurd (true≢false (sym e))

pub one_of : (a b : Bool) → (a || b) ≡ true → (a ≡ true) ⊎ (b ≡ true)
one_of true b e = inl refl
one_of false b e = inr e

pub or_right : (a b : Bool) → b ≡ true → (a || b) ≡ true
or_right true b e = refl
or_right false b e = e

module _ (width : ℕ → ℕ) (c : Typed) (i : ℕ) where
  abbrev At : ℕ → ℕ → List Keyed → List Keyed → ℕ → ℕ → ℕ → Type 0
  At s a ks ls x first j = Place width c i s a ks ls x first j

  in_span : (first size : ℕ) (fields : List ℕ) → list_all (λ n. nat_le first n && nat_lt n (first + size)) fields ≡ true → AllByRecursion (λ n. (first ≤ n) × (n < first + size)) fields
  in_span first size [] h = tt
  in_span first size (n ∷ fields) h =
      let two = both (nat_le first n && nat_lt n (first + size)) (list_all (λ m. nat_le first m && nat_lt m (first + size)) fields) h in
      let own = both (nat_le first n) (nat_lt n (first + size)) two.0 in
      ((leb-true first n own.0, ltb-true n (first + size) own.1), in_span first size fields two.1)

  over_rest : (j b : ℕ) (ks : List Keyed) → j < b → over_at i j b ks ≡ ks
  over_rest j b [] h = refl
  over_rest j b (k ∷ ks) h = either_way (b == j)
      (λ e. let is = eqb-true b j e in absurd (omega (arith, is, h)))
      (λ e. λ z. (if e z then on_input i k else k) ∷ over_rest j (b + 1) ks (omega (arith, h)) z)

  place_found : (first place : ℕ) (ks : List Keyed) (spot : Spot) → spot_of width (fields_in c) first place ks ≡ Some spot
      → Place width c i first place ks (over_at i spot.place place ks) spot.input spot.first spot.place
  place_found first place [] spot e = absurd (none-some spot e)
  place_found first place (k ∷ ks) spot e =
      by_test (holds_all (fields_in c) (record { input = k.input; first = first; size = width k.input })) refl e (λ rest. place_found (first + width k.input) (place + 1) ks spot rest)
    where
      found : (s : Spot) → record { place = place; input = k.input; first = first } ≡ s → Spans c first (width k.input) → Place width c i first place (k ∷ ks) (over_at i s.place place (k ∷ ks)) s.input s.first s.place
      found s is h = subst (λ t. Place width c i first place (k ∷ ks) (over_at i t.place place (k ∷ ks)) t.input t.first t.place) is
          (subst (λ ls. Place width c i first place (k ∷ ks) ls k.input first place)
          (λ z. (if sym (eq-eqb place place refl) z then on_input i k else k) ∷ sym (over_rest place (place + 1) ks (omega arith)) z)
          (here first place k ks h))

      below : (s : Spot) → Place width c i (first + width k.input) (place + 1) ks (over_at i s.place (place + 1) ks) s.input s.first s.place
          → Place width c i first place (k ∷ ks) (over_at i s.place place (k ∷ ks)) s.input s.first s.place
      below s p =
          let le = place_behind width c i (first + width k.input) (place + 1) ks (over_at i s.place (place + 1) ks) s.input s.first s.place p in
          either_way (place == s.place)
          (λ e. let is = eqb-true place s.place e in absurd (omega (arith, is, le)))
          (λ e. subst (λ b. Place width c i first place (k ∷ ks) ((if b then on_input i k else k) ∷ over_at i s.place (place + 1) ks) s.input s.first s.place) (sym e)
          (later first place k ks (over_at i s.place (place + 1) ks) s.input s.first s.place p))

      by_test : (b : Bool) → holds_all (fields_in c) (record { input = k.input; first = first; size = width k.input }) ≡ b
          → (if b then Some (record { place = place; input = k.input; first = first }) else spot_of width (fields_in c) (first + width k.input) (place + 1) ks) ≡ Some spot
          → (spot_of width (fields_in c) (first + width k.input) (place + 1) ks ≡ Some spot → Place width c i (first + width k.input) (place + 1) ks (over_at i spot.place (place + 1) ks) spot.input spot.first spot.place)
          → Place width c i first place (k ∷ ks) (over_at i spot.place place (k ∷ ks)) spot.input spot.first spot.place
      by_test true h g rest = found spot (some_same (record { place = place; input = k.input; first = first }) spot g) (in_span first (width k.input) (fields_in c) h)
      by_test false h g rest = below spot (rest g)

  abbrev any_of : List Keyed → ℕ → Bool
  any_of ks n = list_any (λ m. m == n) (map (λ k. k.input) ks)

  names_own : (s a : ℕ) (ks ls : List Keyed) (x first j : ℕ) → At s a ks ls x first j → list_any (λ m. m == i) (map (λ k. k.input) ls) ≡ true
  names_own _ _ _ _ _ _ _ (here s a k ks h) = ap (λ b. b || any_of ks i) (eq-eqb i i refl)
  names_own _ _ _ _ _ _ _ (later s a k ks ls x first j p) = or_right (k.input == i) (any_of ls i) (names_own (s + width k.input) (a + 1) ks ls x first j p)

  names_source : (s a : ℕ) (ks ls : List Keyed) (x first j : ℕ) → At s a ks ls x first j → list_any (λ m. m == x) (map (λ k. k.input) ks) ≡ true
  names_source _ _ _ _ _ _ _ (here s a k ks h) = ap (λ b. b || any_of ks k.input) (eq-eqb k.input k.input refl)
  names_source _ _ _ _ _ _ _ (later s a k ks ls x first j p) = or_right (k.input == x) (any_of ks x) (names_source (s + width k.input) (a + 1) ks ls x first j p)

  from_over : (n s a : ℕ) (ks ls : List Keyed) (x first j : ℕ) → At s a ks ls x first j → list_any (λ m. m == n) (map (λ k. k.input) ls) ≡ true → (n ≡ i) ⊎ (list_any (λ m. m == n) (map (λ k. k.input) ks) ≡ true)
  from_over n _ _ _ _ _ _ _ (here s a k ks h) name = elim (one_of (i == n) (any_of ks n) name) [
    | inl e ↦ inl (sym (eqb-true i n e))
    | inr e ↦ inr (or_right (k.input == n) (any_of ks n) e)
  ]
  from_over n _ _ _ _ _ _ _ (later s a k ks ls x first j p) name = elim (one_of (k.input == n) (any_of ls n) name) [
    | inl e ↦ inr (ap (λ b. b || any_of ks n) e)
    | inr e ↦ elim (from_over n (s + width k.input) (a + 1) ks ls x first j p e) [
      | inl is ↦ inl is
      | inr more ↦ inr (or_right (k.input == n) (any_of ks n) more)
    ]
  ]

  back_over : (n s a : ℕ) (ks ls : List Keyed) (x first j : ℕ) → At s a ks ls x first j → list_any (λ m. m == n) (map (λ k. k.input) ks) ≡ true → (list_any (λ m. m == n) (map (λ k. k.input) ls) ≡ true) ⊎ (n ≡ x)
  back_over n _ _ _ _ _ _ _ (here s a k ks h) name = elim (one_of (k.input == n) (any_of ks n) name) [
    | inl e ↦ inr (sym (eqb-true k.input n e))
    | inr e ↦ inl (or_right (i == n) (any_of ks n) e)
  ]
  back_over n _ _ _ _ _ _ _ (later s a k ks ls x first j p) name = elim (one_of (k.input == n) (any_of ks n) name) [
    | inl e ↦ inl (ap (λ b. b || any_of ls n) e)
    | inr e ↦ elim (back_over n (s + width k.input) (a + 1) ks ls x first j p e) [
      | inl more ↦ inl (or_right (k.input == n) (any_of ls n) more)
      | inr is ↦ inr is
    ]
  ]

  -- the kinds of the joined rows go by those of the inputs
  module _ (before after : Before) where
    keyed_each : (s a : ℕ) (ks ls : List Keyed) (x first j : ℕ) → At s a ks ls x first j → after i ≡ before x → AllByRecursion (λ k. after k.input ≡ before k.input) ks
        → all_of (keyed_kinds after) ls ≡ all_of (keyed_kinds before) ks
    keyed_each _ _ _ _ _ _ _ (here s a k ks h) own same = λ z. all_step (keyed_kinds (λ n. own z) k) (keyed_same before after ks same.1 z)
    keyed_each _ _ _ _ _ _ _ (later s a k ks ls x first j p) own same =
        λ z. all_step (keyed_kinds (λ n. same.0 z) k) (keyed_each (s + width k.input) (a + 1) ks ls x first j p own same.1 z)

    none_inner : (s a : ℕ) (ks ls : List Keyed) (x first j : ℕ) → At s a ks ls x first j → list_all (λ k. not k.inner) ls ≡ list_all (λ k. not k.inner) ks
    none_inner _ _ _ _ _ _ _ (here s a k ks h) = refl
    none_inner _ _ _ _ _ _ _ (later s a k ks ls x first j p) = ap (λ b. not k.inner && b) (none_inner (s + width k.input) (a + 1) ks ls x first j p)

    joined_same : (s a : ℕ) (ks ls : List Keyed) (x first j : ℕ) → At s a ks ls x first j → after i ≡ before x → AllByRecursion (λ k. after k.input ≡ before k.input) ks
        → (sd : Side) (replicated : Bool) → joined_kinds after ls sd replicated ≡ joined_kinds before ks sd replicated
    joined_same s a ks ls x first j p own same sd replicated =
        λ z. unwrap_or (gives_joined sd replicated (none_inner s a ks ls x first j p z) (keyed_each s a ks ls x first j p own same z)) None

-- ---- what stands below and above, by the operator

data Exchanged (width : ℕ → ℕ) (i : ℕ) (cond : Typed) (below low high : PlanOp) : Type 0 where
  joins : (x : ℕ) (first : Typed) (path : List ℕ) (delim : ℕ) → below ≡ p_filter x first → low ≡ p_load path delim [] → high ≡ p_filter x (conjoined first cond) → Exchanged width i cond below low high
  passes_distinct : (x : ℕ) → below ≡ p_distinct x → low ≡ p_filter x cond → high ≡ p_distinct i → Exchanged width i cond below low high
  passes_foreach : (x : ℕ) (block : TypedBlock) → below ≡ p_foreach x block → hands_all block cond ≡ true → low ≡ p_filter x (put (handed_on block) cond) → high ≡ p_foreach i block
      → Exchanged width i cond below low high
  passes_group : (keyed : Keyed) → below ≡ p_group (keyed ∷ []) → hands_key keyed.keys cond ≡ true → low ≡ p_filter keyed.input (put (from_key keyed.keys) cond)
      → high ≡ p_group (record { input = i; keys = keyed.keys; inner = keyed.inner } ∷ []) → Exchanged width i cond below low high
  passes_join : (ks ls : List Keyed) (sd : Side) (replicated : Bool) (x first j : ℕ) → below ≡ p_join ks sd replicated → Place width cond i 0 0 ks ls x first j → opens sd j ≡ true
      → low ≡ p_filter x (put (λ n. x_field (n - first)) cond) → high ≡ p_join ls sd replicated → Exchanged width i cond below low high

module _ (width : ℕ → ℕ) (i : ℕ) (c : Typed) where
  by_spot : (ks : List Keyed) (sd : Side) (replicated : Bool) (o : Option Spot) → spot_for width ks c ≡ o → is_open sd o ≡ true
      → Exchanged width i c (p_join ks sd replicated) (filter_as (at_spot (spot_for width ks c) c)) (p_join (over_spot i (spot_for width ks c) ks) sd replicated)
  by_spot ks sd replicated None e h = absurd (true≢false (sym h))
  by_spot ks sd replicated (Some spot) e h =
      passes_join ks (over_at i spot.place 0 ks) sd replicated spot.input spot.first spot.place refl (place_found width c i 0 0 ks spot e) h
      (ap (λ o. filter_as (at_spot o c)) e) (ap (λ o. p_join (over_spot i o ks) sd replicated) e)

  exchanged : (o : PlanOp) → may_pass width o c ≡ true → Exchanged width i c o (low_of width o c) (high_of width i o c)
  exchanged (p_filter x first) h = joins x first [] 9 refl refl refl
  exchanged (p_distinct x) h = passes_distinct x refl refl refl
  exchanged (p_foreach x block) h = passes_foreach x block refl h refl refl
  exchanged (p_load path delim columns) h = absurd (true≢false (sym h))
  exchanged (p_group_all input) h = absurd (true≢false (sym h))
  exchanged (p_group []) h = absurd (true≢false (sym h))
  exchanged (p_group (keyed ∷ [])) h = passes_group keyed refl h refl refl
  exchanged (p_group (a ∷ b ∷ inputs)) h = absurd (true≢false (sym h))
  exchanged (p_join inputs sd replicated) h = by_spot inputs sd replicated (spot_for width inputs c) refl (both (names_some (fields_in c)) (is_open sd (spot_for width inputs c)) h).1
  exchanged (p_union inputs) h = absurd (true≢false (sym h))
  exchanged (p_order input keys) h = absurd (true≢false (sym h))
  exchanged (p_limit input count) h = absurd (true≢false (sym h))
  exchanged (p_store input path delim) h = absurd (true≢false (sym h))
  exchanged (p_assert input test message) h = absurd (true≢false (sym h))
  exchanged (p_rank input keys dense) h = absurd (true≢false (sym h))

-- ---- what the operators read, and what they are

pub only_one : (a n : ℕ) → ((a == n) || false) ≡ true → n ≡ a
only_one a n h = by_test (a == n) refl h
  where
    by_test : (b : Bool) → (a == n) ≡ b → (b || false) ≡ true → n ≡ a
    by_test true e g = sym (eqb-true a n e)
    by_test false e g = absurd (true≢false (sym g))

pub itself : (a : ℕ) → ((a == a) || false) ≡ true
itself a = ap (λ b. b || false) (eq-eqb a a refl)

-- both together read what the one did, and none of them is an end
pub record Shape (i : ℕ) (below low high : PlanOp) : Type 0 where
  pub from_low : (n : ℕ) → names low n ≡ true → names below n ≡ true
  pub from_high : (n : ℕ) → names high n ≡ true → (n ≡ i) ⊎ (names below n ≡ true)
  pub back : (n : ℕ) → names below n ≡ true → (names high n ≡ true) ⊎ ((names high i ≡ true) × (names low n ≡ true))
  pub own : (inputs_of low ≡ []) ⊎ (names high i ≡ true)
  pub below_end : is_end below ≡ false
  pub low_end : is_end low ≡ false
  pub high_end : is_end high ≡ false
  pub high_sorts : (sorted : ℕ → Bool) → sorts high sorted ≡ false
  pub high_lists : (sorted listed : ℕ → Bool) → lists sorted high listed ≡ false

as_equal : (i : ℕ) (b l h below low high : PlanOp) → below ≡ b → low ≡ l → high ≡ h → Shape i b l h → Shape i below low high
as_equal i b l h below low high e f g s = subst (λ o. Shape i o low high) (sym e) (subst (λ o. Shape i b o high) (sym f) (subst (λ o. Shape i b l o) (sym g) s))

-- of an operator with one input, and a FILTER below it
swapped : (i x : ℕ) (below high : PlanOp) (c : Typed) → inputs_of below ≡ x ∷ [] → inputs_of high ≡ i ∷ [] → is_end below ≡ false → is_end high ≡ false
    → ((sorted : ℕ → Bool) → sorts high sorted ≡ false) → ((sorted listed : ℕ → Bool) → lists sorted high listed ≡ false) → Shape i below (p_filter x c) high
swapped i x below high c reads over a b f g =
    let here : names high i ≡ true = ap (λ ns. list_any (λ j. j == i) ns) over ∙ itself i in
    record {
      from_low = λ n h. ap (λ ns. list_any (λ j. j == n) ns) reads ∙ h;
      from_high = λ n h. inl (only_one i n (sym (ap (λ ns. list_any (λ j. j == n) ns) over) ∙ h));
      back = λ n h. inr (here, sym (ap (λ ns. list_any (λ j. j == n) ns) reads) ∙ h);
      own = inr here;
      below_end = a;
      low_end = refl;
      high_end = b;
      high_sorts = f;
      high_lists = g;
    }

shape_of : (width : ℕ → ℕ) (i : ℕ) (c : Typed) (below low high : PlanOp) → Exchanged width i c below low high → Shape i below low high
shape_of width i c below low high (joins x first path delim e f g) = as_equal i (p_filter x first) (p_load path delim []) (p_filter x (conjoined first c)) below low high e f g (record {
  from_low = λ n h. absurd (true≢false (sym h));
  from_high = λ n h. inr h;
  back = λ n h. inl h;
  own = inl refl;
  below_end = refl;
  low_end = refl;
  high_end = refl;
  high_sorts = λ sorted. refl;
  high_lists = λ sorted listed. refl;
})
shape_of width i c below low high (passes_distinct x e f g) = as_equal i (p_distinct x) (p_filter x c) (p_distinct i) below low high e f g
    (swapped i x (p_distinct x) (p_distinct i) c refl refl refl refl (λ sorted. refl) (λ sorted listed. refl))
shape_of width i c below low high (passes_foreach x block e all f g) = as_equal i (p_foreach x block) (p_filter x (put (handed_on block) c)) (p_foreach i block) below low high e f g
    (swapped i x (p_foreach x block) (p_foreach i block) (put (handed_on block) c) refl refl refl refl (λ sorted. refl) (λ sorted listed. refl))
shape_of width i c below low high (passes_group keyed e all f g) = as_equal i (p_group (keyed ∷ [])) (p_filter keyed.input (put (from_key keyed.keys) c)) (p_group (record { input = i; keys = keyed.keys; inner = keyed.inner } ∷ [])) below low high e f g
    (swapped i keyed.input (p_group (keyed ∷ [])) (p_group (record { input = i; keys = keyed.keys; inner = keyed.inner } ∷ [])) (put (from_key keyed.keys) c) refl refl refl refl (λ sorted. refl) (λ sorted listed. refl))
shape_of width i c below low high (passes_join ks ls sd replicated x first j e p opened f g) =
    as_equal i (p_join ks sd replicated) (p_filter x (put (λ n. x_field (n - first)) c)) (p_join ls sd replicated) below low high e f g (record {
      from_low = λ n h. subst (λ m. names (p_join ks sd replicated) m ≡ true) (sym (only_one x n h)) (names_source width c i 0 0 ks ls x first j p);
      from_high = λ n h. from_over width c i n 0 0 ks ls x first j p h;
      back = λ n h. elim (back_over width c i n 0 0 ks ls x first j p h) [
        | inl more ↦ inl more
        | inr is ↦ inr (names_own width c i 0 0 ks ls x first j p, subst (λ m. ((x == m) || false) ≡ true) (sym is) (itself x))
      ];
      own = inr (names_own width c i 0 0 ks ls x first j p);
      below_end = refl;
      low_end = refl;
      high_end = refl;
      high_sorts = λ sorted. refl;
      high_lists = λ sorted listed. refl;
    })

pub shape_at : (width : ℕ → ℕ) (i : ℕ) (c : Typed) (o : PlanOp) → all_pass width o c ≡ true → Shape i o (low_of width o c) (high_of width i o c)
shape_at width i c o passes =
    shape_of width i c o (low_of width o c) (high_of width i o c) (exchanged width i c o (both (may_pass width o c) (list_all (may_pass width o) (conjuncts c)) passes).0)

-- ---- one move

module _ (p q : Plan) (valid : IsPlan p) (valid_q : IsPlan q) (i k : ℕ) (m : IsMove p q i k) (tidy : IsTidy p) where
  abbrev pub below : PlanNode
  below = m.can.below

  abbrev pub low : PlanOp
  low = low_of (width_at p) m.can.below.op m.can.cond

  abbrev pub high : PlanOp
  high = high_of (width_at p) i m.can.below.op m.can.cond

  exchanges : Exchanged (width_at p) i m.can.cond m.can.below.op low high
  exchanges = exchanged (width_at p) i m.can.cond m.can.below.op
      (both (may_pass (width_at p) m.can.below.op m.can.cond) _ m.can.passes).0

  abbrev pub filter_node : PlanNode
  filter_node = node_with (p_filter i m.can.cond) m.can.statement

  abbrev pub low_node : PlanNode
  low_node = node_with low m.can.statement

  abbrev pub high_node : PlanNode
  high_node = node_with high m.can.below.statement

  shape : Shape i m.can.below.op low high
  shape = shape_of (width_at p) i m.can.cond m.can.below.op low high exchanges

  pub goes_down : i < k
  goes_down = (names_lower p valid k filter_node m.can.above).0

  within_k : k < length p
  within_k = slice_get_within p k filter_node m.can.above

  pub same_length : length q ≡ length p
  same_length = ap (λ xs. length xs) m.is ∙ set_length (slice_set p i low_node) k high_node ∙ set_length p i low_node

  pub at_low : slice_get q i ≡ Some low_node
  at_low =
      let down = goes_down in
      let within = within_k in
      ap (λ xs. slice_get xs i) m.is
      ∙ set_other (slice_set p i low_node) k i high_node (λ e. omega (arith, e, down))
      ∙ set_there p i low_node (omega (arith, down, within))

  pub at_high : slice_get q k ≡ Some high_node
  at_high =
      let within = within_k in
      let long = set_length p i low_node in
      ap (λ xs. slice_get xs k) m.is ∙ set_there (slice_set p i low_node) k high_node (omega (arith, long, within))

  pub at_other : (n : ℕ) → (n ≡ i → ⊥) → (n ≡ k → ⊥) → slice_get q n ≡ slice_get p n
  at_other n a b = ap (λ xs. slice_get xs n) m.is ∙ set_other (slice_set p i low_node) k n high_node b ∙ set_other p i n low_node a

  -- ---- it is a change in place, of the one node below

  abbrev inner : ℕ → Bool
  inner n = n == i

  is_low : (n : ℕ) → inner n ≡ true → n ≡ i
  is_low n e = eqb-true n i e

  not_low : (n : ℕ) → inner n ≡ false → n ≡ i → ⊥
  not_low n h e = true≢false (sym (eq-eqb n i e) ∙ h)

  op_below : (n : ℕ) (u : PlanNode) → inner n ≡ true → slice_get p n ≡ Some u → u ≡ m.can.below
  op_below n u within stands = some_same u m.can.below (sym stands ∙ ap (slice_get p) (is_low n within) ∙ m.can.stands)

  op_low : (n : ℕ) (u : PlanNode) → inner n ≡ true → slice_get q n ≡ Some u → u ≡ low_node
  op_low n u within there = some_same u low_node (sym there ∙ ap (slice_get q) (is_low n within) ∙ at_low)

  reads_nothing_not : (x : ℕ) (xs : List ℕ) → x ∷ xs ≡ [] → ⊥
  reads_nothing_not x xs e = absurd (cc)

  -- the FILTER of a move is live, since it reads something
  pub filter_lives : is_live p k ≡ true
  filter_lives = either_way (is_live p k) (λ e. e) (λ e. absurd (reads_nothing_not i [] (tidy k filter_node m.can.above e)))

  in_place : InPlace p q k inner filter_node high_node
  in_place = record {
    size = same_length;
    above_p = m.can.above;
    above_q = at_high;
    alive = filter_lives;
    low = λ n within. subst (λ l. l < k) (sym (is_low n within)) goes_down;
    other = λ n out other. at_other n (not_low n out) other;
    own = λ n l u within stands name. inr (m.can.only n u stands (ap (names u.op) (sym (is_low l within)) ∙ name));
    near_p = λ n u within stands. inr (subst (λ l. names (p_filter i m.can.cond) l ≡ true) (sym (is_low n within)) (itself i));
    near_q = λ n u within there. elim shape.own [
      | inl nothing ↦ inl (ap (λ x. inputs_of x.op) (op_low n u within there) ∙ nothing)
      | inr named ↦ inr (subst (λ l. names high l ≡ true) (sym (is_low n within)) named)
    ];
    goes = goes;
    comes = comes;
    end_p = λ n u within stands. ap (λ x. is_end x.op) (op_below n u within stands) ∙ shape.below_end;
    end_q = λ n u within there. ap (λ x. is_end x.op) (op_low n u within there) ∙ shape.low_end;
    above_end_p = refl;
    above_end_q = shape.high_end;
  }
    where
      low_within : inner i ≡ true
      low_within = eq-eqb i i refl

      goes : (n : ℕ) → inner n ≡ false → Reads inner p filter_node n → Reads inner q high_node n
      goes n out (by_above name) = absurd (not_low n out (only_one i n name))
      goes n out (by_inner b) =
          let was : b.w ≡ m.can.below = op_below b.m b.w b.within b.stands in
          elim (shape.back n (ap (λ x. names x.op n) (sym was) ∙ b.name)) [
            | inl high_names ↦ by_above high_names
            | inr two ↦ by_inner (record { m = i; w = low_node; within = low_within; stands = at_low; name = two.1 })
          ]

      comes : (n : ℕ) → inner n ≡ false → Reads inner q high_node n → Reads inner p filter_node n
      comes n out (by_above name) = elim (shape.from_high n name) [
        | inl is ↦ absurd (not_low n out is)
        | inr below_names ↦ by_inner (record { m = i; w = m.can.below; within = low_within; stands = m.can.stands; name = below_names })
      ]
      comes n out (by_inner b) =
          let is : b.w ≡ low_node = op_low b.m b.w b.within b.stands in
          by_inner (record { m = i; w = m.can.below; within = low_within; stands = m.can.stands; name = shape.from_low n (ap (λ x. names x.op n) (sym is) ∙ b.name) })

  below_lives : is_live p i ≡ true
  below_lives = live_input p k filter_node m.can.above filter_lives i goes_down m.can.below m.can.stands (itself i)

  pub stays_tidy : IsTidy q
  stays_tidy = in_place_tidy p q valid valid_q k inner filter_node high_node in_place tidy

  module _ (functions : FunctionsKeepKinds) (inputs : List Input) (kept : List Kept) (allowed : Allowed p q inputs kept) (earlier : Earlier p q (λ j. j) inputs kept inner k) where
    abbrev Same : ℕ → Type 0
    Same n = IsSame p q (λ j. j) inputs kept n

    -- what the operator reads stays the same, and its rows are of their kinds, and as wide
    record Source (n : ℕ) : Type 0 where
      same : Same n
      row : RowKinds
      row_is : kinds_at p n ≡ Some row
      are : AllByRecursion (λ r. IsRowOf r row) (meaning p inputs kept n)
      long : AllByRecursion (λ r. length r ≡ width_at p n) (meaning p inputs kept n)
      other : n ≡ i → ⊥

    is_relation : AllByRecursion (λ n. is_some (kinds_at p n) ≡ true) (inputs_of m.can.below.op)
    is_relation = by_gives (node_gives (kinds_at p) m.can.below.op) refl (gives_some p valid i m.can.below m.can.stands)
      where
        by_gives : (o : NodeGives) → node_gives (kinds_at p) m.can.below.op ≡ o → is_some o ≡ true → AllByRecursion (λ n. is_some (kinds_at p n) ≡ true) (inputs_of m.can.below.op)
        by_gives None e h = absurd (true≢false (sym h))
        by_gives (Some g) e h = inputs_found (kinds_at p) m.can.below.op g e

    sources : AllByRecursion Source (inputs_of m.can.below.op)
    sources =
        each_both (IsInput p i) (λ n. is_some (kinds_at p n) ≡ true) Source
        (λ n input found.
        let down = goes_down in
        let lower = input.lower in
        let other : n ≡ i → ⊥ = λ e. omega (arith, e, lower) in
        let out : inner n ≡ false = either_way (n == i) (λ e. absurd (other (eqb-true n i e))) (λ e. e) in
        let same : Same n = earlier n (omega (arith, down, lower)) input.lives out in
        by_kinds n input same other out (kinds_at p n) refl found)
        (inputs_of m.can.below.op) (inputs_live p valid i m.can.below m.can.stands below_lives) is_relation
      where
        by_kinds : (n : ℕ) → IsInput p i n → IsSame p q (λ j. j) inputs kept n → (n ≡ i → ⊥) → inner n ≡ false → (o : Option RowKinds) → kinds_at p n ≡ o → is_some o ≡ true → Source n
        by_kinds n input same other out None e h = absurd (true≢false (sym h))
        by_kinds n input same other out (Some ks) e h = record {
          same = same;
          row = ks;
          row_is = e;
          are = of_kinds p q valid valid_q k inner filter_node high_node in_place functions inputs kept allowed n input.node input.stands input.lives out same ks e;
          long = wide p q valid valid_q k inner filter_node high_node in_place functions inputs kept allowed n input.node input.stands input.lives out same ks e;
          other = other;
        }

    abbrev Node : Plan → ℕ → PlanOp → ℕ → Type 0
    Node plan n o statement = slice_get plan n ≡ Some (node_with o statement)

    gives : (b l h : PlanOp) → m.can.below.op ≡ b → low ≡ l → high ≡ h → Exchanged (width_at p) i m.can.cond b l h → AllByRecursion Source (inputs_of b) → Node p i b below.statement → Node q i l m.can.statement → Node q k h below.statement → Gives p q inputs kept k
    gives b l h e f g (joins x first path delim bs ls hs) all at_b at_l at_h =
        let src : AllByRecursion Source (x ∷ []) = subst (λ o. AllByRecursion Source (inputs_of o)) bs all in
        let same : Same x = src.0.same in
        let was : Node p i (p_filter x first) below.statement = at_b ∙ ap (λ o. Some (node_with o below.statement)) bs in
        let is : Node q k (p_filter x (conjoined first m.can.cond)) below.statement = at_h ∙ ap (λ o. Some (node_with o below.statement)) hs in
        record {
          kinds = filter_kinds q valid_q k x (conjoined first m.can.cond) below.statement is ∙ same.kinds ∙ sym (filter_kinds p valid i x first below.statement was)
              ∙ sym (filter_kinds p valid k i m.can.cond m.can.statement m.can.above);
          rows = meaning_of_node q inputs kept valid_q k (node_with (p_filter x (conjoined first m.can.cond)) below.statement) is
              ∙ ap (λ rows. bag_of (filter_rows (conjoined first m.can.cond) rows)) same.rows
              ∙ filter_joins first m.can.cond (meaning p inputs kept x)
              ∙ ap (λ rows. bag_of (filter_rows m.can.cond rows)) (sym (meaning_of_node p inputs kept valid i (node_with (p_filter x first) below.statement) was))
              ∙ sym (meaning_of_node p inputs kept valid k filter_node m.can.above);
        }
    gives b l h e f g (passes_distinct x bs ls hs) all at_b at_l at_h =
        let src : AllByRecursion Source (x ∷ []) = subst (λ o. AllByRecursion Source (inputs_of o)) bs all in
        let same : Same x = src.0.same in
        let was : Node p i (p_distinct x) below.statement = at_b ∙ ap (λ o. Some (node_with o below.statement)) bs in
        let under : Node q i (p_filter x m.can.cond) m.can.statement = at_l ∙ ap (λ o. Some (node_with o m.can.statement)) ls in
        let is : Node q k (p_distinct i) below.statement = at_h ∙ ap (λ o. Some (node_with o below.statement)) hs in
        record {
          kinds = distinct_kinds q valid_q k i below.statement is ∙ filter_kinds q valid_q i x m.can.cond m.can.statement under ∙ same.kinds
              ∙ sym (distinct_kinds p valid i x below.statement was) ∙ sym (filter_kinds p valid k i m.can.cond m.can.statement m.can.above);
          rows = meaning_of_node q inputs kept valid_q k (node_with (p_distinct i) below.statement) is
              ∙ ap (distinct row_cmp) (meaning_of_node q inputs kept valid_q i (node_with (p_filter x m.can.cond) m.can.statement) under)
              ∙ ap (λ rows. distinct row_cmp (bag_of (filter_rows m.can.cond rows))) same.rows
              ∙ filter_below_distinct m.can.cond (meaning p inputs kept x)
              ∙ ap (λ rows. bag_of (filter_rows m.can.cond rows)) (sym (meaning_of_node p inputs kept valid i (node_with (p_distinct x) below.statement) was))
              ∙ sym (meaning_of_node p inputs kept valid k filter_node m.can.above);
        }
    gives b l h e f g (passes_foreach x block bs hands ls hs) all at_b at_l at_h =
        let src : AllByRecursion Source (x ∷ []) = subst (λ o. AllByRecursion Source (inputs_of o)) bs all in
        let same : Same x = src.0.same in
        let was : Node p i (p_foreach x block) below.statement = at_b ∙ ap (λ o. Some (node_with o below.statement)) bs in
        let under : Node q i (p_filter x (put (handed_on block) m.can.cond)) m.can.statement = at_l ∙ ap (λ o. Some (node_with o m.can.statement)) ls in
        let is : Node q k (p_foreach i block) below.statement = at_h ∙ ap (λ o. Some (node_with o below.statement)) hs in
        record {
          kinds = foreach_kinds q valid_q k i block below.statement is
              ∙ ap (made_kinds block) (filter_kinds q valid_q i x (put (handed_on block) m.can.cond) m.can.statement under ∙ same.kinds)
              ∙ sym (foreach_kinds p valid i x block below.statement was) ∙ sym (filter_kinds p valid k i m.can.cond m.can.statement m.can.above);
          rows = meaning_of_node q inputs kept valid_q k (node_with (p_foreach i block) below.statement) is
              ∙ ap (λ rows. bag_of (foreach_all block rows)) (meaning_of_node q inputs kept valid_q i (node_with (p_filter x (put (handed_on block) m.can.cond)) m.can.statement) under)
              ∙ ap (λ rows. bag_of (foreach_all block (bag_of (filter_rows (put (handed_on block) m.can.cond) rows)))) same.rows
              ∙ filter_below_foreach functions src.0.row block (foreach_typed p valid i x block below.statement was src.0.row src.0.row_is) m.can.cond hands
              (meaning p inputs kept x) src.0.are
              ∙ ap (λ rows. bag_of (filter_rows m.can.cond rows)) (sym (meaning_of_node p inputs kept valid i (node_with (p_foreach x block) below.statement) was))
              ∙ sym (meaning_of_node p inputs kept valid k filter_node m.can.above);
        }
    gives b l h e f g (passes_group keyed bs hands ls hs) all at_b at_l at_h =
        let src : AllByRecursion Source (keyed.input ∷ []) = subst (λ o. AllByRecursion Source (inputs_of o)) bs all in
        let same : Same keyed.input = src.0.same in
        let was : Node p i (p_group (keyed ∷ [])) below.statement = at_b ∙ ap (λ o. Some (node_with o below.statement)) bs in
        let under : Node q i (p_filter keyed.input (put (from_key keyed.keys) m.can.cond)) m.can.statement = at_l ∙ ap (λ o. Some (node_with o m.can.statement)) ls in
        let is : Node q k (p_group (record { input = i; keys = keyed.keys; inner = keyed.inner } ∷ [])) below.statement = at_h ∙ ap (λ o. Some (node_with o below.statement)) hs in
        record {
          kinds = group_kinds_of q valid_q k (record { input = i; keys = keyed.keys; inner = keyed.inner }) below.statement is
              ∙ ap (grouped_kinds keyed) (filter_kinds q valid_q i keyed.input (put (from_key keyed.keys) m.can.cond) m.can.statement under ∙ same.kinds)
              ∙ sym (group_kinds_of p valid i keyed below.statement was) ∙ sym (filter_kinds p valid k i m.can.cond m.can.statement m.can.above);
          rows = meaning_of_node q inputs kept valid_q k (node_with (p_group (record { input = i; keys = keyed.keys; inner = keyed.inner } ∷ [])) below.statement) is
              ∙ ap (λ rows. bag_of (group_rows (record { input = i; keys = keyed.keys; inner = keyed.inner } ∷ []) (λ n. rows)))
              (meaning_of_node q inputs kept valid_q i (node_with (p_filter keyed.input (put (from_key keyed.keys) m.can.cond)) m.can.statement) under)
              ∙ ap (λ rows. bag_of (group_rows (record { input = i; keys = keyed.keys; inner = keyed.inner } ∷ []) (λ n. bag_of (filter_rows (put (from_key keyed.keys) m.can.cond) rows)))) same.rows
              ∙ filter_below_group keyed i m.can.cond (group_columns p valid k i keyed m.can.cond m.can.statement below.statement m.can.above was) (meaning p inputs kept keyed.input) hands
              ∙ ap (λ rows. bag_of (filter_rows m.can.cond rows)) (sym (meaning_of_node p inputs kept valid i (node_with (p_group (keyed ∷ [])) below.statement) was))
              ∙ sym (meaning_of_node p inputs kept valid k filter_node m.can.above);
        }
    gives b l h e f g (passes_join ks ls sd replicated x first j bs place opened ls_are hs) all at_b at_l at_h =
        let c : Typed = put (λ n. x_field (n - first)) m.can.cond in
        let src : AllByRecursion Source (map (λ u. u.input) ks) = subst (λ o. AllByRecursion Source (inputs_of o)) bs all in
        let each : AllByRecursion (λ u. Source u.input) ks = each_mapped Source (λ u. u.input) ks src in
        let from : Source x = member_of Source x (map (λ u. u.input) ks) src (names_source (width_at p) m.can.cond i 0 0 ks ls x first j place) in
        let was : Node p i (p_join ks sd replicated) below.statement = at_b ∙ ap (λ o. Some (node_with o below.statement)) bs in
        let under : Node q i (p_filter x c) m.can.statement = at_l ∙ ap (λ o. Some (node_with o m.can.statement)) ls_are in
        let is : Node q k (p_join ls sd replicated) below.statement = at_h ∙ ap (λ o. Some (node_with o below.statement)) hs in
        let own_kinds : kinds_at q i ≡ kinds_at p x = filter_kinds q valid_q i x c m.can.statement under ∙ from.same.kinds in
        let rows_below : meaning q inputs kept i ≡ bag_of (filter_rows c (meaning p inputs kept x)) =
        meaning_of_node q inputs kept valid_q i (node_with (p_filter x c) m.can.statement) under ∙ ap (λ rows. bag_of (filter_rows c rows)) from.same.rows in
        record {
          kinds = join_kinds_of q valid_q k ls sd replicated below.statement is
              ∙ joined_same (width_at p) m.can.cond i (kinds_at p) (kinds_at q) 0 0 ks ls x first j place own_kinds
              (each_weaker (λ u. Source u.input) (λ u. kinds_at q u.input ≡ kinds_at p u.input) (λ u s. s.same.kinds) ks each) sd replicated
              ∙ sym (join_kinds_of p valid i ks sd replicated below.statement was) ∙ sym (filter_kinds p valid k i m.can.cond m.can.statement m.can.above);
          rows = meaning_of_node q inputs kept valid_q k (node_with (p_join ls sd replicated) below.statement) is
              ∙ filter_below_join (width_at p) m.can.cond i (meaning p inputs kept) (width_at q) (meaning q inputs kept) sd ks ls x first j place opened
              (each_weaker (λ u. Source u.input) (λ u. AllByRecursion (λ row. length row ≡ width_at p u.input) (meaning p inputs kept u.input)) (λ u s. s.long) ks each)
              (each_weaker (λ u. Source u.input) (λ u. u.input ≡ i → ⊥) (λ u s. s.other) ks each)
              (ap (λ o. option_map_or length o 0) own_kinds)
              (each_weaker (λ u. Source u.input) (λ u. width_at q u.input ≡ width_at p u.input) (λ u s. ap (λ o. option_map_or length o 0) s.same.kinds) ks each)
              rows_below
              (each_weaker (λ u. Source u.input) (λ u. meaning q inputs kept u.input ≡ meaning p inputs kept u.input) (λ u s. s.same.rows) ks each)
              ∙ ap (λ rows. bag_of (filter_rows m.can.cond rows)) (sym (meaning_of_node p inputs kept valid i (node_with (p_join ks sd replicated) below.statement) was))
              ∙ sym (meaning_of_node p inputs kept valid k filter_node m.can.above);
        }

    move_gives : Gives p q inputs kept k
    move_gives = gives m.can.below.op low high refl refl refl exchanges sources m.can.stands at_low at_high

  pub move_means : FunctionsKeepKinds → SameMeaning p q
  move_means functions =
      in_place_means p q valid valid_q k inner filter_node high_node in_place (λ sorted. refl) shape.high_sorts (λ sorted listed. refl) shape.high_lists
      (λ inputs kept allowed earlier. move_gives functions inputs kept allowed earlier)
