-- What is left of a GROUP's rows, position by position, and what a GROUP names of its inputs.
use Rattle.std.specs.Prelude.{⊤, ◌≡◌, ◌<◌, ◌≤◌, ◌==◌, ◌&&◌, ◌||◌, ◌+◌, ◌++◌, ℕ, suc, zero, Bool, true, false, not, List, [], ◌∷◌, map, length, Option, Some, None, slice_get, refl, if◌then◌else◌}
use Rattle.std.specs.List.{AllByRecursion, cons_option, filter_map, find, list_all, range_with_len}
use Rattle.std.specs.Option.{is_some, option_and_then, option_map}
use Rattle.std.proofs.Common.{ap, sym, ◌∙◌, subst, arith, cond, true≢false}
use Rattle.std.proofs.lemmas.Bool.{and_from, and_parts, eq-eqb, eqb-true}
use Rattle.std.proofs.lemmas.Option.{none-some}
use Rattle.pig_value.proofs.list_laws.Bags.{either_way}
use Rattle.pig_value.proofs.list_laws.Listing.{some_same}
use Rattle.pig_value.specs.FieldReader.{all_of}
use Rattle.pig_value.specs.Trees.{k_bag, kinds_of}
use Rattle.pig_plan.specs.NodeKinds.{Before, KeyedKinds, RowKinds, all_keyed, key_kinds, keyed_bags, keyed_kinds, keys_agree, only_if}
use Rattle.pig_plan.specs.Plans.{Keyed}
use Rattle.pig_cuts.specs.declared.kept.KeptField.{KeptField}
use Rattle.pig_cuts.specs.Cuts.{NodeCut, left_of}
use Rattle.pig_cuts.specs.Plans.{are_whole, bags_kept, group_kept, whole_field}
use Rattle.pig_needs.specs.declared.lists.Need.{Need}
use Rattle.pig_needs.specs.declared.lists.Part.{Part}
use Rattle.pig_needs.specs.declared.lists.Part.TheVariants as part
use Rattle.pig_needs.specs.declared.lists.Use.{Use}
use Rattle.pig_needs.specs.Needed.{all_fields, bag_names, column_in, column_named, column_of, field, group_uses, is_needed, key_names, same_need}
use Rattle.pig_covers.proofs.Covered.{found_first}
use Rattle.pig_covers.proofs.Naming.{any_back, any_front, are_uses, either_of, first_of, is_use, need_itself, need_sound, second_of}

-- ---- positions

-- how the bag of an input is left
abbrev pub bag_of_input : (ℕ → NodeCut) → ℕ → Option ℕ
bag_of_input C i = option_map (λ kept. i) (C i)

module _ (C : ℕ → NodeCut) where
  pub bags_at : (n : ℕ) (ins : List ℕ) (j : ℕ) → left_of (Some (bags_kept C n ins)) (n + j) ≡ option_map (bag_of_input C) (slice_get ins j)
  bags_at n [] j = refl
  bags_at n (i ∷ ins) zero =
      let here : n ≡ n + 0 = omega arith in
      ap (λ b. option_map (λ f. f.like) (cond b (Some (record { position = n; like = bag_of_input C i })) (find (λ f. f.position == n + 0) (bags_kept C (suc n) ins)))) (eq-eqb n (n + 0) here)
  bags_at n (i ∷ ins) (suc j) =
      let next : n + suc j ≡ suc n + j = omega arith in
      let other : (n == n + suc j) ≡ false = either_way (n == n + suc j) (λ e. let same = eqb-true n (n + suc j) e in absurd (omega (arith, same))) (λ e. e) in
      ap (λ b. option_map (λ f. f.like) (cond b (Some (record { position = n; like = bag_of_input C i })) (find (λ f. f.position == n + suc j) (bags_kept C (suc n) ins)))) other
      ∙ ap (left_of (Some (bags_kept C (suc n) ins))) next ∙ bags_at (suc n) ins j

  pub group_at : (ins : List ℕ) (j : ℕ) → left_of (Some (group_kept C ins)) (suc j) ≡ option_map (bag_of_input C) (slice_get ins j)
  group_at ins j =
      let e : suc j ≡ 1 + j = omega arith in
      let other : (0 == suc j) ≡ false = either_way (0 == suc j) (λ s. let same = eqb-true 0 (suc j) s in absurd (omega (arith, same))) (λ s. s) in
      ap (λ b. option_map (λ f. f.like) (cond b (Some (whole_field 0)) (find (λ f. f.position == suc j) (bags_kept C 1 ins)))) other
      ∙ ap (left_of (Some (bags_kept C 1 ins))) e ∙ bags_at 1 ins j

  pub bags_within : (n : ℕ) (ins : List ℕ) (end : ℕ) → n + length ins ≤ end → AllByRecursion (λ f. f.position < end) (bags_kept C n ins)
  bags_within n [] end h = tt
  bags_within n (i ∷ ins) end h = (omega (arith, h), bags_within (suc n) ins end (omega (arith, h)))

  pub all_are_whole : (ins : List ℕ) → ((j i : ℕ) → slice_get ins j ≡ Some i → C i ≡ None) → are_whole C ins ≡ true
  all_are_whole [] h = refl
  all_are_whole (i ∷ ins) h = and_from (not (is_some (C i))) (are_whole C ins) (ap (λ o. not (is_some o)) (h 0 i refl)) (all_are_whole ins (λ j k e. h (suc j) k e))

-- ---- kinds

module _ (before : Before) where
  keyed_row : (i : Keyed) (f : KeyedKinds) → keyed_kinds before i ≡ Some f → before i.input ≡ Some f.row
  keyed_row i f h =
      let one = found_first (before i.input) _ f h in
      let two = found_first (key_kinds one.0 i.keys) _ f one.2 in
      one.1 ∙ ap (λ x. Some x.row) (some_same _ f two.2)

  -- what is found of the input at a place
  pub record IsAt (inputs : List Keyed) (fs : List KeyedKinds) (j : ℕ) (i : Keyed) : Type 0 where
    pub found : KeyedKinds
    pub stands : slice_get fs j ≡ Some found
    pub is : keyed_kinds before i ≡ Some found
    pub row : before i.input ≡ Some found.row

  pub found_at : (inputs : List Keyed) (fs : List KeyedKinds) → all_of (keyed_kinds before) inputs ≡ Some fs → (j : ℕ) (i : Keyed) → slice_get inputs j ≡ Some i → IsAt inputs fs j i
  found_at [] fs h j i at = absurd (none-some i at)
  found_at (first ∷ inputs) fs h j i at =
      let one = found_first (keyed_kinds before first) (λ f. option_map (λ more. f ∷ more) (all_of (keyed_kinds before) inputs)) fs h in
      by_more (all_of (keyed_kinds before) inputs) refl one.0 one.1 one.2 j at (λ more k e g. found_at inputs more k e i g)
    where
      by_more : (o : Option (List KeyedKinds)) → all_of (keyed_kinds before) inputs ≡ o → (f : KeyedKinds) → keyed_kinds before first ≡ Some f → option_map (λ more. f ∷ more) o ≡ Some fs → (j : ℕ) → slice_get (first ∷ inputs) j ≡ Some i
          → ((more : List KeyedKinds) → all_of (keyed_kinds before) inputs ≡ Some more → (k : ℕ) → slice_get inputs k ≡ Some i → IsAt inputs more k i) → IsAt (first ∷ inputs) fs j i
      by_more None e f g m j at rest = absurd (none-some fs m)
      by_more (Some more) e f g m zero at rest =
          let same : first ≡ i = some_same first i at in
          record {
            found = f;
            stands = ap (λ xs. slice_get xs 0) (sym (some_same (f ∷ more) fs m));
            is = ap (keyed_kinds before) (sym same) ∙ g;
            row = ap (λ x. before x.input) (sym same) ∙ keyed_row first f g;
          }
      by_more (Some more) e f g m (suc k) at rest =
          let later = rest more e k at in
          record { found = later.found; stands = ap (λ xs. slice_get xs (suc k)) (sym (some_same (f ∷ more) fs m)) ∙ later.stands; is = later.is; row = later.row }

  pub found_size : (inputs : List Keyed) (fs : List KeyedKinds) → all_of (keyed_kinds before) inputs ≡ Some fs → length fs ≡ length inputs
  found_size [] fs h = ap length (sym (some_same [] fs h))
  found_size (first ∷ inputs) fs h =
      let one = found_first (keyed_kinds before first) (λ f. option_map (λ more. f ∷ more) (all_of (keyed_kinds before) inputs)) fs h in
      by_more (all_of (keyed_kinds before) inputs) refl one.0 one.2 (found_size inputs)
    where
      by_more : (o : Option (List KeyedKinds)) → all_of (keyed_kinds before) inputs ≡ o → (f : KeyedKinds) → option_map (λ more. f ∷ more) o ≡ Some fs
          → ((more : List KeyedKinds) → all_of (keyed_kinds before) inputs ≡ Some more → length more ≡ length inputs) → length fs ≡ length (first ∷ inputs)
      by_more None e f g rest = absurd (none-some fs g)
      by_more (Some more) e f g rest = ap length (sym (some_same (f ∷ more) fs g)) ∙ ap suc (rest more e)

  pub agreed : (inputs : List Keyed) (fs : List KeyedKinds) → all_keyed before inputs ≡ Some fs → all_of (keyed_kinds before) inputs ≡ Some fs
  agreed inputs fs h =
      let one = found_first (all_of (keyed_kinds before) inputs) (λ found. only_if (keys_agree found) (Some found)) fs h in
      one.1 ∙ by_test one.0 (keys_agree one.0) one.2
    where
      by_test : (xs : List KeyedKinds) (b : Bool) → only_if b (Some xs) ≡ Some fs → Some xs ≡ Some fs
      by_test xs true g = g
      by_test xs false g = absurd (none-some fs g)

pub bags_found : (fs : List KeyedKinds) (j : ℕ) (f : KeyedKinds) → slice_get fs j ≡ Some f → slice_get (keyed_bags fs) j ≡ Some (k_bag (kinds_of f.row))
bags_found [] j f h = absurd (none-some f h)
bags_found (g ∷ fs) zero f h = ap (λ x. Some (k_bag (kinds_of x.row))) (some_same g f h)
bags_found (g ∷ fs) (suc j) f h = bags_found fs j f h

-- ---- uses

pub use_itself : (i : ℕ) (m : Need) (named : List Need) → is_needed m named ≡ true → is_use i m (record { input = i; named = named }) ≡ true
use_itself i m named h = and_from (i == i) (is_needed m named) (eq-eqb i i refl) h

pub group_use : (width : ℕ → ℕ) (own : List Need) (bag : ℕ) (inputs : List Keyed) (j : ℕ) (i : Keyed) (m : Need) → slice_get inputs j ≡ Some i
    → is_needed m (key_names i.keys ++ bag_names (width i.input) (bag + j) own) ≡ true → are_uses i.input m (group_uses width own bag inputs) ≡ true
group_use width own bag [] j i m at h = absurd (none-some i at)
group_use width own bag (first ∷ inputs) zero i m at h =
    let same : first ≡ i = some_same first i at in
    let here : bag + 0 ≡ bag = omega arith in
    first_of _ (are_uses i.input m (group_uses width own (bag + 1) inputs))
    (subst (λ x. is_use i.input m (record { input = x.input; named = key_names x.keys ++ bag_names (width x.input) bag own }) ≡ true) (sym same)
    (use_itself i.input m (key_names i.keys ++ bag_names (width i.input) bag own) (subst (λ b. is_needed m (key_names i.keys ++ bag_names (width i.input) b own) ≡ true) here h)))
group_use width own bag (first ∷ inputs) (suc j) i m at h =
    let next : bag + suc j ≡ bag + 1 + j = omega arith in
    second_of (is_use i.input m (record { input = first.input; named = key_names first.keys ++ bag_names (width first.input) bag own })) _
    (group_use width own (bag + 1) inputs j i m at (subst (λ b. is_needed m (key_names i.keys ++ bag_names (width i.input) b own) ≡ true) next h))

in_range : (first n q : ℕ) → first ≤ q → q < first + n → is_needed (field q) (map field (range_with_len first n)) ≡ true
in_range first zero q low high = absurd (omega (arith, low, high))
in_range first (suc n) q low high =
    either_way (q == first)
    (λ e. first_of (same_need (field q) (field first)) (is_needed (field q) (map field (range_with_len (first + 1) n))) (and_from (q == first) true e refl))
    (λ e. let differs : q ≡ first → ⊥ = λ s. true≢false (sym (eq-eqb q first s) ∙ e) in
    second_of (same_need (field q) (field first)) (is_needed (field q) (map field (range_with_len (first + 1) n))) (in_range (first + 1) n q (omega (arith, differs, low)) (omega (arith, high))))

-- all positions
pub in_all : (width q : ℕ) → q < width → is_needed (field q) (all_fields width) ≡ true
in_all width q low = in_range 0 width q (omega arith) (omega (arith, low))

-- where a bag is needed whole all of its input is, and else its columns
pub whole_bag : (width bag : ℕ) (own : List Need) → is_needed (field bag) own ≡ true → (q : ℕ) → q < width → is_needed (field q) (bag_names width bag own) ≡ true
whole_bag width bag own h q low =
    subst (λ b. is_needed (field q) ((if b then all_fields width else []) ++ filter_map (column_in bag) own) ≡ true) (sym h)
    (any_front (field q) (all_fields width) (filter_map (column_in bag) own) (in_all width q low))

column_found : (bag q : ℕ) (own : List Need) → is_needed (column_of bag q) own ≡ true → is_needed (field q) (filter_map (column_in bag) own) ≡ true
column_found bag q [] h = absurd (true≢false (sym h))
column_found bag q (n ∷ own) h =
    either_of (same_need (column_of bag q) n) (is_needed (column_of bag q) own) h
    (λ e. subst (λ x. is_needed (field q) (cons_option (column_in bag x) (filter_map (column_in bag) own)) ≡ true) (need_sound (column_of bag q) n e)
    (subst (λ b. is_needed (field q) (cons_option (if b then column_named (part.Column q) else None) (filter_map (column_in bag) own)) ≡ true) (sym (eq-eqb bag bag refl))
    (first_of (same_need (field q) (field q)) (is_needed (field q) (filter_map (column_in bag) own)) (need_itself (field q)))))
    (λ e. put_on (column_in bag n) (column_found bag q own e))
  where
    put_on : (o : Option Need) → is_needed (field q) (filter_map (column_in bag) own) ≡ true → is_needed (field q) (cons_option o (filter_map (column_in bag) own)) ≡ true
    put_on None g = g
    put_on (Some m) g = second_of (same_need (field q) m) (is_needed (field q) (filter_map (column_in bag) own)) g

pub bag_column : (width bag q : ℕ) (own : List Need) → is_needed (column_of bag q) own ≡ true → is_needed (field q) (bag_names width bag own) ≡ true
bag_column width bag q own h = any_back (field q) (if is_needed (field bag) own then all_fields width else []) (filter_map (column_in bag) own) (column_found bag q own h)
