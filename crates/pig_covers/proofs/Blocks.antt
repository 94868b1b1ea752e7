-- LOAD and FOREACH keep what is needed of them, and a block sees what it names.
use Rattle.std.specs.Prelude.{⊤, ◌≡◌, ◌<◌, ◌≤◌, ◌==◌, ◌&&◌, ◌||◌, ◌+◌, ◌-◌, ◌++◌, ℕ, suc, zero, Bool, true, false, not, List, [], ◌∷◌, map, length, nat_le, Option, Some, None, slice_get, refl, if◌then◌else◌}
use Rattle.std.specs.List.{AllByRecursion, find, flat_map, list_all, list_any, position_or_len, range_with_len}
use Rattle.std.specs.Option.{is_some, option_and_then, option_map}
use Rattle.std.proofs.Common.{ap, sym, ◌∙◌, subst, arith, cond, true≢false}
use Rattle.std.proofs.lemmas.Bool.{and_from, and_parts, eq-eqb, eqb-true, leb-false, leb-true}
use Rattle.std.proofs.lemmas.List.{length-append}
use Rattle.std.proofs.lemmas.Option.{none-some}
use Rattle.pig_value.proofs.list_laws.Bags.{either_way}
use Rattle.pig_value.proofs.list_laws.Elementwise.{range_above}
use Rattle.pig_value.proofs.list_laws.Listing.{each-append, each-map, each_weaker, some_same}
use Rattle.pig_value.specs.Trees.{KindTree, bag_kinds}
use Rattle.pig_typed.specs.BlockKinds.{bag_rows, filtered_kind, given_kinds, item_kinds, items_kinds, of_width, row_kinds, sorted_kind, step_kind, steps_kinds}
use Rattle.pig_typed.specs.ExprKinds.{expr_kind}
use Rattle.pig_typed.specs.Typed.{Typed, TypedBlock, TypedItem, TypedStep, s_filter, s_order, s_limit, s_distinct, s_take}
use Rattle.pig_plan.specs.NodeKinds.{RowKinds}
use Rattle.pig_cuts.proofs.LeftItems.{AreItems, items_are}
use Rattle.pig_cuts.proofs.Staying.{each_staying}
use Rattle.pig_cuts.specs.declared.kept.KeptField.{KeptField}
use Rattle.pig_cuts.specs.Cuts.{NodeCut, is_whole, left_of, place_of}
use Rattle.pig_cuts.specs.Fits.{bag_in, leads, sees}
use Rattle.pig_cuts.specs.Plans.{all_stay, cut_unless, flattens_stay, going, items_kept, items_see, load_kept, spans, staying, steps_see, whole_field}
use Rattle.pig_needs.specs.declared.lists.Need.{Need}
use Rattle.pig_needs.specs.Needed.{block_names, column_marks, field, is_named, is_needed, item_marks, kept_items, names_in, step_bag, value_names, whole_fields}
use Rattle.pig_covers.proofs.Covered.{AreCovered, IsBagOf, found_first, seen, whole_covers, whole_seen}
use Rattle.pig_covers.proofs.Naming.{any_back, any_front, either_of, first_of, second_of}

abbrev pub has : ℕ → List ℕ → Bool
has p ps = list_any (λ i. i == p) ps

pub has_front : (p : ℕ) (xs ys : List ℕ) → has p xs ≡ true → has p (xs ++ ys) ≡ true
has_front p [] ys h = absurd (true≢false (sym h))
has_front p (x ∷ xs) ys h = either_of (x == p) (has p xs) h (λ e. first_of (x == p) (has p (xs ++ ys)) e) (λ e. second_of (x == p) (has p (xs ++ ys)) (has_front p xs ys e))

pub has_back : (p : ℕ) (xs ys : List ℕ) → has p ys ≡ true → has p (xs ++ ys) ≡ true
has_back p [] ys h = h
has_back p (x ∷ xs) ys h = second_of (x == p) (has p (xs ++ ys)) (has_back p xs ys h)

pub has_range : (first n p : ℕ) → first ≤ p → p < first + n → has p (range_with_len first n) ≡ true
has_range first zero p low high = absurd (omega (arith, low, high))
has_range first (suc n) p low high =
    either_way (first == p) (λ e. first_of (first == p) (has p (range_with_len (first + 1) n)) e)
    (λ e. let other : first + 1 ≤ p = above e in second_of (first == p) (has p (range_with_len (first + 1) n)) (has_range (first + 1) n p other (omega (arith, high))))
  where
    above : (first == p) ≡ false → first + 1 ≤ p
    above e = by_order e
      where
        by_order : (first == p) ≡ false → first + 1 ≤ p
        by_order g = let differs : first ≡ p → ⊥ = λ s. true≢false (sym (eq-eqb first p s) ∙ g) in omega (arith, differs, low)

-- what is left of whole fields
pub whole_left : (ps : List ℕ) (p : ℕ) → has p ps ≡ true → left_of (Some (map whole_field ps)) p ≡ Some None
whole_left [] p h = absurd (true≢false (sym h))
whole_left (x ∷ ps) p h = by_test (x == p) h (whole_left ps p)
  where
    by_test : (b : Bool) → (b || has p ps) ≡ true → (has p ps ≡ true → left_of (Some (map whole_field ps)) p ≡ Some None) → option_map (λ f. f.like) (cond b (Some (whole_field x)) (find (λ f. f.position == p) (map whole_field ps))) ≡ Some None
    by_test true g rest = refl
    by_test false g rest = rest g

pub no_like : (ps : List ℕ) (p m : ℕ) → left_of (Some (map whole_field ps)) p ≡ Some (Some m) → ⊥
no_like [] p m h = none-some (Some m) h
no_like (x ∷ ps) p m h = by_test (x == p) h (no_like ps p m)
  where
    by_test : (b : Bool) → option_map (λ f. f.like) (cond b (Some (whole_field x)) (find (λ f. f.position == p) (map whole_field ps))) ≡ Some (Some m) → (left_of (Some (map whole_field ps)) p ≡ Some (Some m) → ⊥) → ⊥
    by_test true g rest = none-some m (some_same None (Some m) g)
    by_test false g rest = rest g

-- ---- the first position is first

-- fields that begin with the first position, or are without it
pub data FieldsLed : List KeptField → Type 0 where
  begins : (f : KeptField) (fs : List KeptField) → f.position ≡ 0 → FieldsLed (f ∷ fs)
  above : (fs : List KeptField) → AllByRecursion (λ f. 1 ≤ f.position) fs → FieldsLed fs

abbrev pub OwnLed : NodeCut → Type 0
OwnLed None = ⊤
OwnLed (Some kept) = FieldsLed kept

none_first : (fs : List KeptField) → AllByRecursion (λ f. 1 ≤ f.position) fs → left_of (Some fs) 0 ≡ None
none_first [] h = refl
none_first (f ∷ fs) h =
    let low = h.0 in
    let differs : (f.position == 0) ≡ false = either_way (f.position == 0) (λ e. let same : f.position ≡ 0 = eqb-true f.position 0 e in absurd (omega (arith, same, low))) (λ e. e) in
    ap (λ b. option_map (λ x. x.like) (cond b (Some f) (find (λ x. x.position == 0) fs))) differs ∙ none_first fs h.1

pub leads_of : (own : NodeCut) → OwnLed own → is_whole (left_of own 0) ≡ true → leads own ≡ true
leads_of None led h = refl
leads_of (Some fs) (begins f gs e) h =
    and_from (place_of (Some (f ∷ gs)) 0 == 0) (is_whole (left_of (Some (f ∷ gs)) 0))
    (ap (λ b. cond (not b) (1 + position_or_len (λ x. x.position == 0) gs) 0 == 0) (eq-eqb f.position 0 e)) h
leads_of (Some fs) (above gs a) h = absurd (true≢false (sym h ∙ ap is_whole (none_first gs a)))

wholes_above : (ps : List ℕ) → AllByRecursion (λ p. 1 ≤ p) ps → AllByRecursion (λ f. 1 ≤ f.position) (map whole_field ps)
wholes_above ps h = each-map (λ f. 1 ≤ f.position) whole_field ps h

unless_led : (b : Bool) (kept : List KeptField) → FieldsLed kept → OwnLed (cut_unless b kept)
unless_led true kept h = tt
unless_led false kept h = h

range_led : (marks : List Bool) (n first : ℕ) → first ≡ 0 → FieldsLed (map whole_field (staying marks (range_with_len first n)))
range_led marks zero first e = subst (λ ps. FieldsLed (map whole_field ps)) (sym (none_of marks)) (above [] tt)
  where
    none_of : (ms : List Bool) → staying {X = ℕ} ms [] ≡ []
    none_of [] = refl
    none_of (m ∷ ms) = refl
range_led [] (suc n) first e = begins (whole_field first) _ e
range_led (true ∷ marks) (suc n) first e = begins (whole_field first) _ e
range_led (false ∷ marks) (suc n) first e =
    above _ (wholes_above (staying marks (range_with_len (first + 1) n))
    (each_staying (λ p. 1 ≤ p) marks (range_with_len (first + 1) n) (each_weaker (λ p. first + 1 ≤ p) (λ p. 1 ≤ p) (λ p h. omega (arith, h)) (range_with_len (first + 1) n) (range_above (first + 1) n))))

abbrev flat : List (List ℕ) → List ℕ
flat = flat_map (λ span. span)

-- ---- LOAD

module _ (need : List Need) where
  -- marks that a test gives
  pub tested_stays : (xs : List ℕ) (p : ℕ) → has p xs ≡ true → is_named need p ≡ true → has p (staying (map (is_named need) xs) xs) ≡ true
  tested_stays [] p h g = absurd (true≢false (sym h))
  tested_stays (x ∷ xs) p h g =
      either_of (x == p) (has p xs) h
      (λ e. let named : is_named need x ≡ true = ap (is_named need) (eqb-true x p e) ∙ g in
      subst (λ b. has p (if b then x ∷ staying (map (is_named need) xs) xs else staying (map (is_named need) xs) xs) ≡ true) (sym named) (first_of (x == p) _ e))
      (λ e. by_test (is_named need x) (tested_stays xs p e g))
    where
      by_test : (b : Bool) → has p (staying (map (is_named need) xs) xs) ≡ true → has p (if b then x ∷ staying (map (is_named need) xs) xs else staying (map (is_named need) xs) xs) ≡ true
      by_test true r = second_of (x == p) (has p (staying (map (is_named need) xs) xs)) r
      by_test false r = r

  pub all_tested : (first n : ℕ) → ((p : ℕ) → first ≤ p → p < first + n → is_named need p ≡ true) → all_stay (map (is_named need) (range_with_len first n)) ≡ true
  all_tested first zero h = refl
  all_tested first (suc n) h =
      and_from (is_named need first) (all_stay (map (is_named need) (range_with_len (first + 1) n))) (h first (omega arith) (omega arith))
      (all_tested (first + 1) n (λ p low high. h p (omega (arith, low)) (omega (arith, high))))

  -- ---- FOREACH

  pub marked_items : (first : ℕ) (items : List TypedItem) → staying (item_marks need first items) items ≡ kept_items need first items
  marked_items first [] = refl
  marked_items first (item ∷ items) = ap (λ more. if item.flatten || is_named need first then item ∷ more else more) (marked_items (first + item.width) items)

  pub flattens_marked : (first : ℕ) (items : List TypedItem) → list_all (λ item. not item.flatten) (going (item_marks need first items) items) ≡ true
  flattens_marked first [] = refl
  flattens_marked first (item ∷ items) = by_flat item.flatten (is_named need first) (flattens_marked (first + item.width) items) refl
    where
      by_flat : (b c : Bool) → list_all (λ item. not item.flatten) (going (item_marks need (first + item.width) items) items) ≡ true → item.flatten ≡ b
          → list_all (λ item. not item.flatten) (if b || c then going (item_marks need (first + item.width) items) items else item ∷ going (item_marks need (first + item.width) items) items) ≡ true
      by_flat true c h e = h
      by_flat false true h e = h
      by_flat false false h e = and_from (not item.flatten) _ (ap not e) h

  module _ (ks locals : RowKinds) where
    plain_width : (item : TypedItem) (kinds : RowKinds) → item_kinds item ks locals ≡ Some kinds → item.flatten ≡ false → item.width ≡ 1
    plain_width item kinds h plain =
        let one = found_first (expr_kind item.value ks locals) (λ k. option_and_then (of_width item.width) (given_kinds item.flatten k)) kinds h in
        let two : of_width item.width (one.0 ∷ []) ≡ Some kinds = sym (ap (λ b. option_and_then (of_width item.width) (given_kinds b one.0)) plain) ∙ one.2 in
        by_test one.0 (1 == item.width) refl two
      where
        by_test : (k : KindTree) (b : Bool) → (1 == item.width) ≡ b → (if b then Some (k ∷ []) else None) ≡ Some kinds → item.width ≡ 1
        by_test k true e g = sym (eqb-true 1 item.width e)
        by_test k false e g = absurd (none-some kinds g)

    -- a field that is needed is made by an item that stays
    pub item_stays : (items : List TypedItem) (first : ℕ) (given : RowKinds) → items_kinds items ks locals ≡ Some given → (p : ℕ) → first ≤ p → p < first + length given → is_named need p ≡ true
        → has p (flat (staying (item_marks need first items) (spans first items))) ≡ true
    item_stays [] first given h p low high named =
        let none : length given ≡ 0 = ap length (sym (some_same [] given h)) in
        absurd (omega (arith, none, low, high))
    item_stays (item ∷ items) first given h p low high named =
        let are = items_are item items ks locals given h in
        let long : length given ≡ item.width + length are.more = ap length are.are ∙ length-append are.kinds are.more ∙ ap (λ n. n + length are.more) are.wide in
        by_place are long (nat_le (first + item.width) p) refl (λ behind high. item_stays items (first + item.width) are.more are.others p behind high named)
      where
        rest : List (List ℕ)
        rest = staying (item_marks need (first + item.width) items) (spans (first + item.width) items)

        kept_rest : (b : Bool) → has p (flat rest) ≡ true → has p (flat (if b then range_with_len first item.width ∷ rest else rest)) ≡ true
        kept_rest true r = has_back p (range_with_len first item.width) (flat rest) r
        kept_rest false r = r

        kept_here : (b c : Bool) → item.flatten ≡ b → is_named need first ≡ c → (item.flatten ≡ false → item.width ≡ 1) → p < first + item.width
            → has p (flat (if b || c then range_with_len first item.width ∷ rest else rest)) ≡ true
        kept_here true c e g plain inside = has_front p (range_with_len first item.width) (flat rest) (has_range first item.width p low inside)
        kept_here false true e g plain inside = has_front p (range_with_len first item.width) (flat rest) (has_range first item.width p low inside)
        kept_here false false e g plain inside =
            let one = plain e in
            let same : p ≡ first = omega (arith, one, inside, low) in
            absurd (true≢false (sym named ∙ ap (is_named need) same ∙ g))

        by_place : (are : AreItems item items ks locals given) → length given ≡ item.width + length are.more → (b : Bool) → nat_le (first + item.width) p ≡ b
            → (first + item.width ≤ p → p < first + item.width + length are.more → has p (flat rest) ≡ true) → has p (flat (staying (item_marks need first (item ∷ items)) (spans first (item ∷ items)))) ≡ true
        by_place are long true e later =
            let behind : first + item.width ≤ p = leb-true (first + item.width) p e in
            kept_rest (item.flatten || is_named need first) (later behind (omega (arith, long, high)))
        by_place are long false e later =
            let inside : p < first + item.width = leb-false (first + item.width) p e in
            kept_here item.flatten (is_named need first) refl refl (plain_width item are.kinds are.first) inside

    -- where each field is needed each item stays
    pub items_stay : (items : List TypedItem) (first : ℕ) (given : RowKinds) → items_kinds items ks locals ≡ Some given → ((p : ℕ) → first ≤ p → p < first + length given → is_named need p ≡ true)
        → all_stay (item_marks need first items) ≡ true
    items_stay [] first given h named = refl
    items_stay (item ∷ items) first given h named =
        let are = items_are item items ks locals given h in
        let long : length given ≡ item.width + length are.more = ap length are.are ∙ length-append are.kinds are.more ∙ ap (λ n. n + length are.more) are.wide in
        and_from (item.flatten || is_named need first) (all_stay (item_marks need (first + item.width) items))
        (by_flat item.flatten refl (λ flat. let one = plain_width item are.kinds are.first flat in named first (omega arith) (omega (arith, one, long))))
        (items_stay items (first + item.width) are.more are.others (λ p low high. named p (omega (arith, low)) (omega (arith, high, long))))
      where
        by_flat : (b : Bool) → item.flatten ≡ b → (item.flatten ≡ false → is_named need first ≡ true) → (b || is_named need first) ≡ true
        by_flat true e g = refl
        by_flat false e g = g e

-- ---- the first position of a FOREACH

spans_above : (marks : List Bool) (first : ℕ) (items : List TypedItem) → 1 ≤ first → AllByRecursion (λ p. 1 ≤ p) (flat (staying marks (spans first items)))
spans_above [] first [] h = tt
spans_above (mark ∷ marks) first [] h = tt
spans_above [] first (item ∷ items) h =
    each-append (λ p. 1 ≤ p) (range_with_len first item.width) (flat (spans (first + item.width) items))
    (each_weaker (λ p. first ≤ p) (λ p. 1 ≤ p) (λ p low. omega (arith, low, h)) (range_with_len first item.width) (range_above first item.width)) (spans_above [] (first + item.width) items (omega (arith, h)))
spans_above (true ∷ marks) first (item ∷ items) h =
    each-append (λ p. 1 ≤ p) (range_with_len first item.width) (flat (staying marks (spans (first + item.width) items)))
    (each_weaker (λ p. first ≤ p) (λ p. 1 ≤ p) (λ p low. omega (arith, low, h)) (range_with_len first item.width) (range_above first item.width)) (spans_above marks (first + item.width) items (omega (arith, h)))
spans_above (false ∷ marks) first (item ∷ items) h = spans_above marks (first + item.width) items (omega (arith, h))

stay_led : (w first : ℕ) (rest : List ℕ) → first ≡ 0 → (w ≡ 0 → FieldsLed (map whole_field rest)) → FieldsLed (map whole_field (range_with_len first w ++ rest))
stay_led zero first rest e h = h refl
stay_led (suc w) first rest e h = begins (whole_field first) _ e

go_led : (w first : ℕ) (rest : List ℕ) → (w ≡ 0 → FieldsLed (map whole_field rest)) → (1 ≤ w → AllByRecursion (λ p. 1 ≤ p) rest) → FieldsLed (map whole_field rest)
go_led zero first rest h g = h refl
go_led (suc w) first rest h g = above (map whole_field rest) (wholes_above rest (g (omega arith)))

pub spans_led : (marks : List Bool) (first : ℕ) (items : List TypedItem) → first ≡ 0 → FieldsLed (map whole_field (flat (staying marks (spans first items))))
spans_led [] first [] e = above [] tt
spans_led (mark ∷ marks) first [] e = above [] tt
spans_led [] first (item ∷ items) e = stay_led item.width first (flat (spans (first + item.width) items)) e (λ w. spans_led [] (first + item.width) items (omega (arith, e, w)))
spans_led (true ∷ marks) first (item ∷ items) e =
    stay_led item.width first (flat (staying marks (spans (first + item.width) items))) e (λ w. spans_led marks (first + item.width) items (omega (arith, e, w)))
spans_led (false ∷ marks) first (item ∷ items) e =
    go_led item.width first (flat (staying marks (spans (first + item.width) items))) (λ w. spans_led marks (first + item.width) items (omega (arith, e, w))) (λ w. spans_above marks (first + item.width) items (omega (arith, w)))

pub load_led : (marks : List Bool) (n : ℕ) → OwnLed (cut_unless (all_stay marks) (load_kept marks n))
load_led marks n = unless_led (all_stay marks) (load_kept marks n) (range_led marks n 0 refl)

pub items_led : (marks : List Bool) (items : List TypedItem) → OwnLed (cut_unless (all_stay marks) (items_kept marks items))
items_led marks items = unless_led (all_stay marks) (items_kept marks items) (spans_led marks 0 items refl)

-- ---- a block sees what it names

module _ (C : ℕ → NodeCut) (W : ℕ → ℕ) (own : NodeCut) (ks : RowKinds) (likes : (p m : ℕ) → left_of own p ≡ Some (Some m) → IsBagOf C W ks p m) where
  abbrev Covered : List Need → Type 0
  Covered = AreCovered C W own ks

  front : (xs ys : List Need) → Covered (xs ++ ys) → Covered xs
  front xs ys h n e low = h n (any_front n xs ys e) low

  back : (xs ys : List Need) → Covered (xs ++ ys) → Covered ys
  back xs ys h n e low = h n (any_back n xs ys e) low

  bag_typed : (from : Typed) (locals rows : RowKinds) → bag_rows from ks locals ≡ Some rows → (k : KindTree) × (expr_kind from ks locals ≡ Some k)
  bag_typed from locals rows h = let found = found_first (expr_kind from ks locals) bag_kinds rows h in (found.0, found.1)

  mapped : {X Y : Type 0} (g : X → Y) (o : Option X) (y : Y) → option_map g o ≡ Some y → (x : X) × (o ≡ Some x)
  mapped g None y h = absurd (none-some y h)
  mapped g (Some x) y h = (x, refl)

  step_typed : (s : TypedStep) (locals : RowKinds) (k : KindTree) → step_kind s ks locals ≡ Some k → (j : KindTree) × (expr_kind (bag_in s) ks locals ≡ Some j)
  step_typed (s_filter from c) locals k h = let found = found_first (bag_rows from ks locals) (filtered_kind c) k h in bag_typed from locals found.0 found.1
  step_typed (s_order from keys) locals k h = let found = found_first (bag_rows from ks locals) (sorted_kind keys) k h in bag_typed from locals found.0 found.1
  step_typed (s_limit from count) locals k h = let found = mapped _ (bag_rows from ks locals) k h in bag_typed from locals found.0 found.1
  step_typed (s_distinct from) locals k h = let found = mapped _ (bag_rows from ks locals) k h in bag_typed from locals found.0 found.1
  step_typed (s_take from) locals k h = let found = mapped _ (bag_rows from ks locals) k h in bag_typed from locals found.0 found.1

  same_bag : (s : TypedStep) → step_bag s ≡ bag_in s
  same_bag (s_filter from c) = refl
  same_bag (s_order from keys) = refl
  same_bag (s_limit from count) = refl
  same_bag (s_distinct from) = refl
  same_bag (s_take from) = refl

  steps_seen : (steps : List TypedStep) (locals last : RowKinds) → steps_kinds steps ks locals ≡ Some last → Covered (flat_map (λ s. whole_fields (step_bag s)) steps) → list_all (λ s. sees C own (bag_in s)) steps ≡ true
  steps_seen [] locals last h c = refl
  steps_seen (s ∷ steps) locals last h c =
      let one = found_first (step_kind s ks locals) (λ k. steps_kinds steps ks (locals ++ k ∷ [])) last h in
      let typed = step_typed s locals one.0 one.1 in
      and_from (sees C own (bag_in s)) (list_all (λ s. sees C own (bag_in s)) steps)
      (whole_seen C W own ks locals likes (bag_in s) typed.0 typed.1
      (subst (λ e. Covered (whole_fields e)) (same_bag s) (front (whole_fields (step_bag s)) (flat_map (λ s. whole_fields (step_bag s)) steps) c)))
      (steps_seen steps (locals ++ one.0 ∷ []) last one.2 (back (whole_fields (step_bag s)) (flat_map (λ s. whole_fields (step_bag s)) steps) c))

  value_seen : (steps : List TypedStep) (locals : RowKinds) (e : Typed) (k : KindTree) → expr_kind e ks locals ≡ Some k → Covered (value_names steps e) → sees C own e ≡ true
  value_seen [] locals e k g c = seen C W own ks locals likes e k g c
  value_seen (s ∷ steps) locals e k g c = whole_seen C W own ks locals likes e k g c

  items_seen : (need : List Need) (steps : List TypedStep) (locals : RowKinds) (first : ℕ) (items : List TypedItem) (given : RowKinds) → items_kinds items ks locals ≡ Some given
      → Covered (flat_map (λ item. value_names steps item.value) (kept_items need first items)) → list_all (λ item. sees C own item.value) (kept_items need first items) ≡ true
  items_seen need steps locals first [] given h c = refl
  items_seen need steps locals first (item ∷ items) given h c =
      by_mark (item.flatten || is_named need first) c (items_seen need steps locals (first + item.width) items (items_are item items ks locals given h).more (items_are item items ks locals given h).others)
    where
      are : AreItems item items ks locals given
      are = items_are item items ks locals given h

      by_mark : (b : Bool) → Covered (flat_map (λ item. value_names steps item.value) (if b then item ∷ kept_items need (first + item.width) items else kept_items need (first + item.width) items))
          → (Covered (flat_map (λ item. value_names steps item.value) (kept_items need (first + item.width) items)) → list_all (λ item. sees C own item.value) (kept_items need (first + item.width) items) ≡ true)
          → list_all (λ item. sees C own item.value) (if b then item ∷ kept_items need (first + item.width) items else kept_items need (first + item.width) items) ≡ true
      by_mark true d rest =
          let one = found_first (expr_kind item.value ks locals) (λ k. option_and_then (of_width item.width) (given_kinds item.flatten k)) are.kinds are.first in
          and_from (sees C own item.value) _
          (value_seen steps locals item.value one.0 one.1 (front (value_names steps item.value) (flat_map (λ item. value_names steps item.value) (kept_items need (first + item.width) items)) d))
          (rest (back (value_names steps item.value) (flat_map (λ item. value_names steps item.value) (kept_items need (first + item.width) items)) d))
      by_mark false d rest = rest d

  pub block_seen : (need : List Need) (block : TypedBlock) (given : RowKinds) → row_kinds block ks ≡ Some given → Covered (block_names need block)
      → (steps_see C own block && (items_see C own (item_marks need 0 block.items) block && flattens_stay (item_marks need 0 block.items) block)) ≡ true
  block_seen need block given h c =
      let one = found_first (steps_kinds block.steps ks []) (λ locals. items_kinds block.items ks locals) given h in
      let steps_named = flat_map (λ s. whole_fields (step_bag s)) block.steps in
      let items_named = flat_map (λ item. value_names block.steps item.value) (kept_items need 0 block.items) in
      and_from (steps_see C own block) (items_see C own (item_marks need 0 block.items) block && flattens_stay (item_marks need 0 block.items) block)
      (steps_seen block.steps [] one.0 one.1 (front steps_named items_named c))
      (and_from (items_see C own (item_marks need 0 block.items) block) (flattens_stay (item_marks need 0 block.items) block)
      (ap (list_all (λ item. sees C own item.value)) (marked_items need 0 block.items) ∙ items_seen need block.steps one.0 0 block.items given one.2 (back steps_named items_named c))
      (flattens_marked need 0 block.items))
