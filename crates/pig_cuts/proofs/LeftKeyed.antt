-- Fitted operators by key are valid on the kinds of their cut inputs, and give the kinds that are left.
use Rattle.std.specs.Prelude.{⊤, ◌≡◌, ◌+◌, ◌&&◌, ℕ, suc, Bool, true, false, not, List, [], ◌∷◌, map, length, nat_lt, Option, Some, None, slice_get, refl}
use Rattle.std.specs.List.{AllByRecursion, flat_map, list_all}
use Rattle.std.specs.Option.{is_some, option_and_then, option_map}
use Rattle.std.proofs.Common.{ap, sym, ◌∙◌, subst, arith, true≢false}
use Rattle.std.proofs.lemmas.Bool.{and_parts}
use Rattle.std.proofs.lemmas.Option.{none-some, slice_get_within}
use Rattle.pig_value.proofs.list_laws.Elementwise.{each_joined, get-behind}
use Rattle.pig_value.proofs.list_laws.Listing.{some_same}
use Rattle.pig_value.specs.Elementwise.{Each}
use Rattle.pig_value.specs.FieldReader.{all_of}
use Rattle.pig_value.specs.Kinds.{has_bag_or_map, kinds_eq}
use Rattle.pig_value.specs.Trees.{KindTree, k_bag, k_chars, kinds_of}
use Rattle.pig_typed.specs.Typed.{Typed}
use Rattle.pig_plan.proofs.Unfolds.{get-front}
use Rattle.pig_plan.specs.NodeKinds.{Before, KeyedKinds, RowKinds, all_keyed, group_kind, group_kinds, key_kind, key_kinds, keyed_bags, keyed_kinds, keys_agree, only_if}
use Rattle.pig_plan.specs.Plans.{Keyed}
use Rattle.pig_cuts.specs.Cuts.{NodeCut}
use Rattle.pig_cuts.specs.Fits.{fit, sees}
use Rattle.pig_cuts.specs.Plans.{are_whole, bags_kept, behind, cut_unless, fields_of_cut, fit_keyed, group_kept, keys_see, sides_kept}
use Rattle.pig_cuts.proofs.Gives.{all_fields, each_behind}
use Rattle.pig_cuts.proofs.LeftKinds.{AreLeft, IsFieldLeft, IsKindLeft, kind_fits, whole_kind}

module _ (cuts : ℕ → NodeCut) (width : ℕ → ℕ) (before after : Before) where
  -- the kinds of an input's rows, and what is left of them
  pub record IsInputLeft (i : ℕ) : Type 0 where
    pub kinds : RowKinds
    pub kinds_left : RowKinds
    pub was : before i ≡ Some kinds
    pub is : after i ≡ Some kinds_left
    pub are : AreLeft cuts (cuts i) kinds kinds_left
    pub wide : width i ≡ length kinds

  -- ---- keys

  keys_left : (own : NodeCut) (ks ls : RowKinds) → AreLeft cuts own ks ls → (keys : List Typed) → list_all (sees cuts own) keys ≡ true → all_of (key_kind ls) (map (fit cuts own) keys) ≡ all_of (key_kind ks) keys
  keys_left own ks ls left [] h = refl
  keys_left own ks ls left (e ∷ keys) h =
      let both = and_parts (sees cuts own e) (list_all (sees cuts own) keys) h in
      λ i. option_and_then (λ k. option_map (λ found. k ∷ found) (keys_left own ks ls left keys both.1 i)) (option_and_then (λ k. only_if (not (has_bag_or_map k)) (Some k)) (kind_fits cuts own ks ls left [] e both.0 i))

  -- an input by key, and the same input once it is cut
  pub record IsKeyedLeft (i : Keyed) (f g : KeyedKinds) : Type 0 where
    pub keys : g.keys ≡ f.keys
    pub rows : AreLeft cuts (cuts i.input) f.row g.row
    pub wide : width i.input ≡ length f.row

  record IsKeyed (i : Keyed) (f : KeyedKinds) : Type 0 where
    made : KeyedKinds
    is : keyed_kinds after (fit_keyed cuts i) ≡ Some made
    left : IsKeyedLeft i f made

  keyed_left : (i : Keyed) → IsInputLeft i.input → keys_see cuts i ≡ true → (f : KeyedKinds) → keyed_kinds before i ≡ Some f → IsKeyed i f
  keyed_left i input h f e = by_keys (key_kinds input.kinds i.keys) refl (sym (ap (option_and_then (λ row. option_and_then (λ keys. Some (record { row = row; keys = keys })) (key_kinds row i.keys))) input.was) ∙ e)
    where
      same : key_kinds input.kinds_left (map (fit cuts (cuts i.input)) i.keys) ≡ key_kinds input.kinds i.keys
      same = ap (option_and_then (λ found. only_if (nat_lt 0 (length found)) (Some found))) (keys_left (cuts i.input) input.kinds input.kinds_left input.are i.keys h)

      by_keys : (o : Option RowKinds) → key_kinds input.kinds i.keys ≡ o → option_and_then (λ keys. Some (record { row = input.kinds; keys = keys })) o ≡ Some f → IsKeyed i f
      by_keys None g k = absurd (none-some f k)
      by_keys (Some keys) g k =
          let is_f : record { row = input.kinds; keys = keys } ≡ f = some_same (record { row = input.kinds; keys = keys }) f k in
          subst (IsKeyed i) is_f (record {
            made = record { row = input.kinds_left; keys = keys };
            is = ap (option_and_then (λ row. option_and_then (λ keys. Some (record { row = row; keys = keys })) (key_kinds row (map (fit cuts (cuts i.input)) i.keys)))) input.is
                ∙ ap (option_and_then (λ keys. Some (record { row = input.kinds_left; keys = keys }))) (same ∙ g);
            left = record { keys = refl; rows = input.are; wide = input.wide };
          })

  abbrev pub AllLeft : List Keyed → List KeyedKinds → List KeyedKinds → Type 0
  AllLeft [] [] [] = ⊤
  AllLeft (i ∷ inputs) (f ∷ fs) (g ∷ gs) = IsKeyedLeft i f g × AllLeft inputs fs gs
  AllLeft inputs fs gs = ⊥

  record AreKeyed (inputs : List Keyed) (fs : List KeyedKinds) : Type 0 where
    made : List KeyedKinds
    is : all_of (keyed_kinds after) (map (fit_keyed cuts) inputs) ≡ Some made
    left : AllLeft inputs fs made

  abbrev numbers : List Keyed → List ℕ
  numbers inputs = map (λ i. i.input) inputs

  all_left : (inputs : List Keyed) → AllByRecursion IsInputLeft (numbers inputs) → list_all (keys_see cuts) inputs ≡ true → (fs : List KeyedKinds) → all_of (keyed_kinds before) inputs ≡ Some fs → AreKeyed inputs fs
  all_left [] are h fs e = subst (AreKeyed []) (some_same [] fs e) (record { made = []; is = refl; left = tt })
  all_left (i ∷ inputs) are h fs e = by_first (keyed_kinds before i) refl (all_of (keyed_kinds before) inputs) refl e (λ more g. all_left inputs are.1 both.1 more g)
    where
      both : (keys_see cuts i ≡ true) × (list_all (keys_see cuts) inputs ≡ true)
      both = and_parts (keys_see cuts i) (list_all (keys_see cuts) inputs) h

      by_first : (o : Option KeyedKinds) → keyed_kinds before i ≡ o → (r : Option (List KeyedKinds)) → all_of (keyed_kinds before) inputs ≡ r
          → option_and_then (λ f. option_map (λ more. f ∷ more) r) o ≡ Some fs → ((more : List KeyedKinds) → all_of (keyed_kinds before) inputs ≡ Some more → AreKeyed inputs more) → AreKeyed (i ∷ inputs) fs
      by_first None g r k eq rest = absurd (none-some fs eq)
      by_first (Some f) g None k eq rest = absurd (none-some fs eq)
      by_first (Some f) g (Some more) k eq rest =
          let first = keyed_left i are.0 both.0 f g in
          let others = rest more k in
          subst (AreKeyed (i ∷ inputs)) (some_same (f ∷ more) fs eq) (record {
            made = first.made ∷ others.made;
            is = λ d. option_and_then (λ x. option_map (λ xs. x ∷ xs) (others.is d)) (first.is d);
            left = (first.left, others.left);
          })

  agree_same : (keys lefts : RowKinds) → lefts ≡ keys → (inputs : List Keyed) (fs gs : List KeyedKinds) → AllLeft inputs fs gs
      → list_all (λ other. kinds_eq (kinds_of lefts) (kinds_of other.keys)) gs ≡ list_all (λ other. kinds_eq (kinds_of keys) (kinds_of other.keys)) fs
  agree_same keys lefts e [] [] [] h = refl
  agree_same keys lefts e (i ∷ inputs) (f ∷ fs) (g ∷ gs) h = λ d. kinds_eq (kinds_of (e d)) (kinds_of (h.0.keys d)) && agree_same keys lefts e inputs fs gs h.1 d
  agree_same keys lefts e [] [] (g ∷ gs) h = absurd h
  agree_same keys lefts e [] (f ∷ fs) gs h = absurd h
  agree_same keys lefts e (i ∷ inputs) [] gs h = absurd h
  agree_same keys lefts e (i ∷ inputs) (f ∷ fs) [] h = absurd h

  all_agree : (inputs : List Keyed) (fs gs : List KeyedKinds) → AllLeft inputs fs gs → keys_agree gs ≡ keys_agree fs
  all_agree [] [] [] h = refl
  all_agree (i ∷ inputs) (f ∷ fs) (g ∷ gs) h = agree_same f.keys g.keys h.0.keys inputs fs gs h.1
  all_agree [] [] (g ∷ gs) h = absurd h
  all_agree [] (f ∷ fs) gs h = absurd h
  all_agree (i ∷ inputs) [] gs h = absurd h
  all_agree (i ∷ inputs) (f ∷ fs) [] h = absurd h

  pub record AreAllKeyed (inputs : List Keyed) (fs : List KeyedKinds) : Type 0 where
    pub made : List KeyedKinds
    pub is : all_keyed after (map (fit_keyed cuts) inputs) ≡ Some made
    pub left : AllLeft inputs fs made
    pub agree : keys_agree fs ≡ true

  -- the inputs by key
  pub all_keyed_left : (inputs : List Keyed) → AllByRecursion IsInputLeft (numbers inputs) → list_all (keys_see cuts) inputs ≡ true → (fs : List KeyedKinds) → all_keyed before inputs ≡ Some fs → AreAllKeyed inputs fs
  all_keyed_left inputs are h fs e = by_found (all_of (keyed_kinds before) inputs) refl e
    where
      by_test : (found : List KeyedKinds) → all_of (keyed_kinds before) inputs ≡ Some found → (b : Bool) → keys_agree found ≡ b → only_if b (Some found) ≡ Some fs → AreAllKeyed inputs fs
      by_test found g false t k = absurd (none-some fs k)
      by_test found g true t k =
          let made = all_left inputs are h found g in
          subst (AreAllKeyed inputs) (some_same found fs k) (record {
            made = made.made;
            is = ap (option_and_then (λ xs. only_if (keys_agree xs) (Some xs))) made.is ∙ ap (λ b. only_if b (Some made.made)) (all_agree inputs found made.made made.left ∙ t);
            left = made.left;
            agree = t;
          })

      by_found : (o : Option (List KeyedKinds)) → all_of (keyed_kinds before) inputs ≡ o → option_and_then (λ found. only_if (keys_agree found) (Some found)) o ≡ Some fs → AreAllKeyed inputs fs
      by_found None g k = absurd (none-some fs k)
      by_found (Some found) g k = by_test found g (keys_agree found) refl k

  -- ---- GROUP

  pub none_is : (o : NodeCut) → not (is_some o) ≡ true → o ≡ None
  none_is None h = refl
  none_is (Some kept) h = absurd (true≢false (sym h))

  pub bag_left : (i : ℕ) (o : NodeCut) → cuts i ≡ o → (ks ls : RowKinds) → AreLeft cuts o ks ls → IsFieldLeft cuts (option_map (λ kept. i) o) (k_bag (kinds_of ks)) (k_bag (kinds_of ls))
  bag_left i None e ks ls h = ap (λ xs. k_bag (kinds_of xs)) h
  bag_left i (Some kept) e ks ls h = record { rows = ks; rows_left = ls; was = refl; is = refl; columns = whole_kind cuts (cuts i) ks ls (subst (λ o. AreLeft cuts o ks ls) (sym e) h) }

  bags_each : (whole : RowKinds) (n : ℕ) (inputs : List Keyed) (fs gs : List KeyedKinds) → AllLeft inputs fs gs → ((j : ℕ) (k : KindTree) → slice_get (keyed_bags fs) j ≡ Some k → slice_get whole (n + j) ≡ Some k)
      → Each (IsKindLeft cuts whole) (bags_kept cuts n (numbers inputs)) (keyed_bags gs)
  bags_each whole n [] [] [] h at = tt
  bags_each whole n (i ∷ inputs) (f ∷ fs) (g ∷ gs) h at =
      let here : n ≡ n + 0 = omega arith in (
        record { kind = k_bag (kinds_of f.row); stands = ap (slice_get whole) here ∙ at 0 (k_bag (kinds_of f.row)) refl; is = bag_left i.input (cuts i.input) refl f.row g.row h.0.rows },
        bags_each whole (suc n) inputs fs gs h.1 (λ j k e. let next : suc n + j ≡ n + suc j = omega arith in ap (slice_get whole) next ∙ at (suc j) k e),
      )
  bags_each whole n [] [] (g ∷ gs) h at = absurd h
  bags_each whole n [] (f ∷ fs) gs h at = absurd h
  bags_each whole n (i ∷ inputs) [] gs h at = absurd h
  bags_each whole n (i ∷ inputs) (f ∷ fs) [] h at = absurd h

  -- of whole inputs all is left
  whole_same : (inputs : List Keyed) (fs gs : List KeyedKinds) → AllLeft inputs fs gs → are_whole cuts (numbers inputs) ≡ true → gs ≡ fs
  whole_same [] [] [] h e = refl
  whole_same (i ∷ inputs) (f ∷ fs) (g ∷ gs) h e =
      let both = and_parts (not (is_some (cuts i.input))) (are_whole cuts (numbers inputs)) e in
      let rows : g.row ≡ f.row = subst (λ o. AreLeft cuts o f.row g.row) (none_is (cuts i.input) both.0) h.0.rows in
      λ d. record { row = rows d; keys = h.0.keys d } ∷ whole_same inputs fs gs h.1 both.1 d
  whole_same [] [] (g ∷ gs) h e = absurd h
  whole_same [] (f ∷ fs) gs h e = absurd h
  whole_same (i ∷ inputs) [] gs h e = absurd h
  whole_same (i ∷ inputs) (f ∷ fs) [] h e = absurd h

  pub groups_left : (inputs : List Keyed) (fs gs : List KeyedKinds) → AllLeft inputs fs gs → keys_agree fs ≡ true → (b : Bool) → are_whole cuts (numbers inputs) ≡ b
      → AreLeft cuts (cut_unless b (group_kept cuts (numbers inputs))) (group_kinds fs) (group_kinds gs)
  groups_left inputs fs gs h agree true e = ap group_kinds (whole_same inputs fs gs h e)
  groups_left [] [] gs h agree false e = absurd (true≢false (sym agree))
  groups_left (i ∷ inputs) (f ∷ fs) (g ∷ gs) h agree false e = (
    record { kind = group_kind f.keys; stands = refl; is = ap group_kind h.0.keys },
    bags_each (group_kinds (f ∷ fs)) 1 (i ∷ inputs) (f ∷ fs) (g ∷ gs) h (λ j k at. let next : 1 + j ≡ suc j = omega arith in ap (slice_get (group_kinds (f ∷ fs))) next ∙ at),
  )
  groups_left [] (f ∷ fs) gs h agree false e = absurd h
  groups_left (i ∷ inputs) [] gs h agree false e = absurd h
  groups_left (i ∷ inputs) (f ∷ fs) [] h agree false e = absurd h

  pub group_all_left : (i : ℕ) (ks ls : RowKinds) → AreLeft cuts (cuts i) ks ls → (b : Bool) → are_whole cuts (i ∷ []) ≡ b
      → AreLeft cuts (cut_unless b (group_kept cuts (i ∷ []))) (k_chars ∷ k_bag (kinds_of ks) ∷ []) (k_chars ∷ k_bag (kinds_of ls) ∷ [])
  group_all_left i ks ls h true e =
      let same : ls ≡ ks = subst (λ o. AreLeft cuts o ks ls) (none_is (cuts i) (and_parts (not (is_some (cuts i))) true e).0) h in
      ap (λ xs. k_chars ∷ k_bag (kinds_of xs) ∷ []) same
  group_all_left i ks ls h false e = (record { kind = k_chars; stands = refl; is = refl }, (record { kind = k_bag (kinds_of ks); stands = refl; is = bag_left i (cuts i) refl ks ls h }, tt))

  -- ---- JOIN

  abbrev rows_of_all : List KeyedKinds → RowKinds
  rows_of_all fs = flat_map (λ f. f.row) fs

  sides_each : (whole : RowKinds) (first : ℕ) (inputs : List Keyed) (fs gs : List KeyedKinds) → AllLeft inputs fs gs → ((j : ℕ) (k : KindTree) → slice_get (rows_of_all fs) j ≡ Some k → slice_get whole (first + j) ≡ Some k)
      → Each (IsKindLeft cuts whole) (sides_kept cuts width first (numbers inputs)) (rows_of_all gs)
  sides_each whole first [] [] [] h at = tt
  sides_each whole first (i ∷ inputs) (f ∷ fs) (g ∷ gs) h at =
      each_joined (IsKindLeft cuts whole) (map (behind first) (fields_of_cut (width i.input) (cuts i.input))) (sides_kept cuts width (first + width i.input) (numbers inputs)) g.row (rows_of_all gs)
      (each_behind cuts whole first f.row (fields_of_cut (width i.input) (cuts i.input)) g.row
      (λ j k e. at j k (get-front f.row (rows_of_all fs) j (slice_get_within f.row j k e) ∙ e))
      (subst (λ n. Each (IsKindLeft cuts f.row) (fields_of_cut n (cuts i.input)) g.row) (sym h.0.wide) (all_fields cuts (cuts i.input) f.row g.row h.0.rows)))
      (sides_each whole (first + width i.input) inputs fs gs h.1
      (λ j k e. let next : first + width i.input + j ≡ first + (width i.input + j) = omega arith in
      ap (slice_get whole) next ∙ at (width i.input + j) k (ap (λ n. slice_get (rows_of_all (f ∷ fs)) (n + j)) h.0.wide ∙ get-behind f.row (rows_of_all fs) j ∙ e)))
  sides_each whole first [] [] (g ∷ gs) h at = absurd h
  sides_each whole first [] (f ∷ fs) gs h at = absurd h
  sides_each whole first (i ∷ inputs) [] gs h at = absurd h
  sides_each whole first (i ∷ inputs) (f ∷ fs) [] h at = absurd h

  pub joins_left : (inputs : List Keyed) (fs gs : List KeyedKinds) → AllLeft inputs fs gs → (b : Bool) → are_whole cuts (numbers inputs) ≡ b
      → AreLeft cuts (cut_unless b (sides_kept cuts width 0 (numbers inputs))) (rows_of_all fs) (rows_of_all gs)
  joins_left inputs fs gs h true e = ap rows_of_all (whole_same inputs fs gs h e)
  joins_left inputs fs gs h false e = sides_each (rows_of_all fs) 0 inputs fs gs h (λ j k at. let same : 0 + j ≡ j = omega arith in ap (slice_get (rows_of_all fs)) same ∙ at)

  pub as_many_left : (inputs : List Keyed) (fs gs : List KeyedKinds) → AllLeft inputs fs gs → (length gs ≡ length fs) × (length fs ≡ length inputs)
  as_many_left [] [] [] h = (refl, refl)
  as_many_left (i ∷ inputs) (f ∷ fs) (g ∷ gs) h = let more = as_many_left inputs fs gs h.1 in (ap suc more.0, ap suc more.1)
  as_many_left [] [] (g ∷ gs) h = absurd h
  as_many_left [] (f ∷ fs) gs h = absurd h
  as_many_left (i ∷ inputs) [] gs h = absurd h
  as_many_left (i ∷ inputs) (f ∷ fs) [] h = absurd h
