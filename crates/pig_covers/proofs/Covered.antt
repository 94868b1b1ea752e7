-- An expression sees what it looks at where each part of the row that it names is left.
use Rattle.std.specs.Prelude.{⊤, ◌≡◌, ◌<◌, ◌==◌, ◌&&◌, ◌||◌, ◌++◌, ℕ, suc, zero, Bool, true, false, not, List, [], ◌∷◌, map, length, Option, Some, None, slice_get, refl, if◌then◌else◌}
use Rattle.std.specs.List.{list_all, list_any}
use Rattle.std.specs.Option.{is_some, option_and_then, option_map, option_map_or}
use Rattle.std.proofs.Common.{ap, sym, ◌∙◌, subst, arith, true≢false}
use Rattle.std.proofs.lemmas.Bool.{and_from, eq-eqb, eqb-true}
use Rattle.std.proofs.lemmas.Option.{none-some, slice_get_within}
use Rattle.pig_value.proofs.TreeLaws.{kinds_back}
use Rattle.pig_value.proofs.list_laws.Listing.{some_same}
use Rattle.pig_value.specs.FieldReader.{all_of}
use Rattle.pig_value.specs.FunctionKinds.{function_kind}
use Rattle.pig_value.specs.Trees.{KindTree, k_bag, kinds_list, kinds_of, look_kind}
use Rattle.pig_value.specs.declared.functions.Function.{Function}
use Rattle.pig_value.specs.declared.functions.Function.TheVariants as f
use Rattle.pig_typed.specs.ExprKinds.{args_kinds, cast_kind, chain_kind, choose_kind, compare_kind, expr_kind, is_selection, links_kind, minus_kind, not_kind, picked_kinds, project_kind, selected_kind}
use Rattle.pig_typed.specs.Typed.{Typed, TypedArgs, TypedLinks, x_null, x_bool, x_int, x_long, x_chars, x_field, x_local, x_chain, x_compare, x_is_null, x_not, x_minus, x_choose, x_cast, x_project, x_look, x_call, no_links, more_links, no_args, more_args}
use Rattle.pig_plan.specs.Moves.{arg_fields, field_of, fields_in, link_fields}
use Rattle.pig_plan.specs.NodeKinds.{RowKinds}
use Rattle.pig_cuts.proofs.Fields.{whole_is}
use Rattle.pig_cuts.proofs.Fitted.{field_form}
use Rattle.pig_cuts.specs.Cuts.{Left, NodeCut, is_whole, left_of, place_of}
use Rattle.pig_cuts.specs.Fits.{argument_seen, args_see, columns_seen, leads, left_of_field, links_see, sees}
use Rattle.pig_needs.specs.declared.lists.Need.{Need}
use Rattle.pig_needs.specs.declared.lists.Part.{Part}
use Rattle.pig_needs.specs.declared.lists.Part.TheVariants as part
use Rattle.pig_needs.specs.Needed.{arg_names, column_of, counted, counted_part, field, is_needed, link_names, names_in, only_field, part_at, same_need, whole_fields}
use Rattle.pig_covers.proofs.Naming.{any_back, any_front, either_of, first_of, need_itself, need_sound, second_of}

module _ {A B : Type 0} where
  -- what a step goes on from, where the whole is there
  pub found_first : (o : Option A) (g : A → Option B) (b : B) → option_and_then g o ≡ Some b → (a : A) × (o ≡ Some a) × (g a ≡ Some b)
  found_first None g b h = absurd (none-some b h)
  found_first (Some a) g b h = (a, refl, h)

module _ (C : ℕ → NodeCut) (W : ℕ → ℕ) where
  -- what is left of a field has this part of it
  abbrev pub CoveredBy : Part → Left → Type 0
  CoveredBy part.Whole l = is_whole l ≡ true
  CoveredBy part.Rows l = is_some l ≡ true
  CoveredBy (part.Column q) None = ⊥
  CoveredBy (part.Column q) (Some None) = ⊤
  CoveredBy (part.Column q) (Some (Some m)) = q < W m → is_whole (left_of (C m) q) ≡ true

  pub whole_covers : (asked : Part) (l : Left) → l ≡ Some None → CoveredBy asked l
  whole_covers part.Whole l e = ap is_whole e
  whole_covers part.Rows l e = ap is_some e
  whole_covers (part.Column q) l e = subst (CoveredBy (part.Column q)) (sym e) tt

  -- a bag of cut rows has the kind of its node's rows, of which the first column leads where it is left
  pub record IsBagOf (ks : RowKinds) (p m : ℕ) : Type 0 where
    pub rows : RowKinds
    pub kind : slice_get ks p ≡ Some (k_bag (kinds_of rows))
    pub wide : W m ≡ length rows
    pub lead : (0 < W m → is_whole (left_of (C m) 0) ≡ true) → leads (C m) ≡ true

  module _ (own : NodeCut) where
    abbrev pub IsCovered : Need → Type 0
    IsCovered n = CoveredBy n.part (left_of own n.position)

    module _ (ks : RowKinds) where
      -- of a need that which stands in the row
      abbrev pub AreCovered : List Need → Type 0
      AreCovered ns = (n : Need) → is_needed n ns ≡ true → n.position < length ks → IsCovered n

      cover_front : (xs ys : List Need) → AreCovered (xs ++ ys) → AreCovered xs
      cover_front xs ys h n e low = h n (any_front n xs ys e) low

      cover_back : (xs ys : List Need) → AreCovered (xs ++ ys) → AreCovered ys
      cover_back xs ys h n e low = h n (any_back n xs ys e) low

      module _ (locals : RowKinds) (likes : (p m : ℕ) → left_of own p ≡ Some (Some m) → IsBagOf ks p m) where
        one_here : (n : Need) → is_needed n (n ∷ []) ≡ true
        one_here n = first_of (same_need n n) false (need_itself n)

        field_seen : (p : ℕ) (k : KindTree) → slice_get ks p ≡ Some k → AreCovered (field p ∷ []) → is_whole (left_of own p) ≡ true
        field_seen p k e h = h (field p) (one_here (field p)) (slice_get_within ks p k e)

        -- ---- columns

        picked_within : (q : ℕ) (rows picked : RowKinds) (columns : List ℕ) → picked_kinds (q ∷ columns) rows ≡ Some picked → (q < length rows) × ((more : RowKinds) × (picked_kinds columns rows ≡ Some more))
        picked_within q rows picked columns h =
            let first = found_first (slice_get rows q) (λ k. option_map (λ ks. k ∷ ks) (picked_kinds columns rows)) picked h in
            (slice_get_within rows q first.0 first.1, rest first.0 (picked_kinds columns rows) first.2)
          where
            rest : (k : KindTree) (o : Option RowKinds) → option_map (λ ks. k ∷ ks) o ≡ Some picked → (more : RowKinds) × (o ≡ Some more)
            rest k None g = absurd (none-some picked g)
            rest k (Some more) g = (more, refl)

        all_columns : (p m : ℕ) (rows : RowKinds) → W m ≡ length rows → left_of own p ≡ Some (Some m) → p < length ks → (columns : List ℕ) (picked : RowKinds) → picked_kinds columns rows ≡ Some picked
            → AreCovered (map (column_of p) columns) → list_all (λ q. is_whole (left_of (C m) q)) columns ≡ true
        all_columns p m rows wide e low [] picked g h = refl
        all_columns p m rows wide e low (q ∷ columns) picked g h =
            let both = picked_within q rows picked columns g in
            let inside = both.0 in
            let here : CoveredBy (part.Column q) (Some (Some m)) = subst (CoveredBy (part.Column q)) e (h (column_of p q) (first_of (same_need (column_of p q) (column_of p q)) _ (need_itself (column_of p q))) low) in
            and_from (is_whole (left_of (C m) q)) (list_all (λ q. is_whole (left_of (C m) q)) columns) (here (omega (arith, inside, wide)))
            (all_columns p m rows wide e low columns both.1.0 both.1.1 (λ n f. h n (second_of (same_need n (column_of p q)) _ f)))

        bag_picked : (columns : List ℕ) (single : Bool) (rows : RowKinds) (k : KindTree) → project_kind columns single (k_bag (kinds_of rows)) ≡ Some k → (picked : RowKinds) × (picked_kinds columns rows ≡ Some picked)
        bag_picked columns single rows k h = by_test (is_selection columns single) h
          where
            by_picked : (o : Option RowKinds) → option_map (λ picked. k_bag (kinds_of picked)) o ≡ Some k → (picked : RowKinds) × (o ≡ Some picked)
            by_picked None g = absurd (none-some k g)
            by_picked (Some picked) g = (picked, refl)

            by_test : (b : Bool) → (if b then selected_kind columns single (k_bag (kinds_of rows)) else None) ≡ Some k → (picked : RowKinds) × (picked_kinds columns rows ≡ Some picked)
            by_test false g = absurd (none-some k g)
            by_test true g =
                let found = by_picked (picked_kinds columns (kinds_list (kinds_of rows))) g in
                (found.0, ap (picked_kinds columns) (sym (kinds_back rows)) ∙ found.1)

        none_picked : (single : Bool) (what k : KindTree) → project_kind [] single what ≡ Some k → ⊥
        none_picked single what k h = none-some k h

        columns_of_field : (p : ℕ) (columns : List ℕ) (single : Bool) (what k : KindTree) → slice_get ks p ≡ Some what → project_kind columns single what ≡ Some k → AreCovered (map (column_of p) columns)
            → (l : Left) → left_of own p ≡ l → columns_seen C l columns (is_whole l) ≡ true
        columns_of_field p columns single what k e g h (Some None) f = refl
        columns_of_field p columns single what k e g h (Some (Some m)) f =
            let bag = likes p m f in
            let same : what ≡ k_bag (kinds_of bag.rows) = some_same what (k_bag (kinds_of bag.rows)) (sym e ∙ bag.kind) in
            let picked = bag_picked columns single bag.rows k (subst (λ x. project_kind columns single x ≡ Some k) same g) in
            all_columns p m bag.rows bag.wide f (slice_get_within ks p what e) columns picked.0 picked.1 h
        columns_of_field p [] single what k e g h None f = absurd (none_picked single what k g)
        columns_of_field p (q ∷ columns) single what k e g h None f =
            absurd (subst (CoveredBy (part.Column q)) f (h (column_of p q) (first_of (same_need (column_of p q) (column_of p q)) _ (need_itself (column_of p q))) (slice_get_within ks p what e)))

        projected : (a : Typed) (columns : List ℕ) (single : Bool) (k : KindTree) (o : Option ℕ) → field_of a ≡ o → expr_kind (x_project a columns single) ks locals ≡ Some k
            → AreCovered (option_map_or (λ p. map (column_of p) columns) o (names_in a))
            → ((j : KindTree) → expr_kind a ks locals ≡ Some j → AreCovered (names_in a) → sees C own a ≡ true)
            → columns_seen C (left_of_field own o) columns (sees C own a) ≡ true
        projected a columns single k None e g h rest =
            let found = found_first (expr_kind a ks locals) (project_kind columns single) k g in
            rest found.0 found.1 h
        projected a columns single k (Some p) e g h rest =
            let form : a ≡ x_field p = field_form a p e in
            let found = found_first (expr_kind a ks locals) (project_kind columns single) k g in
            ap (λ x. columns_seen C (left_of own p) columns (sees C own x)) form
            ∙ columns_of_field p columns single found.0 k (ap (λ x. expr_kind x ks locals) (sym form) ∙ found.1) found.2 h (left_of own p) refl

        -- ---- functions of a plain field

        counted_by : (function : Function) (p : ℕ) (what : KindTree) → slice_get ks p ≡ Some what → AreCovered (option_map_or (λ n. n ∷ []) (counted function (Some p)) (field p ∷ []))
            → (l : Left) → left_of own p ≡ l → argument_seen C function l (is_whole l && true) ≡ true
        counted_by f.Count p what e h (Some None) g = refl
        counted_by f.Count p what e h (Some (Some m)) g =
            (likes p m g).lead (subst (CoveredBy (part.Column 0)) g (h (part_at p (part.Column 0)) (one_here (part_at p (part.Column 0))) (slice_get_within ks p what e)))
        counted_by f.Count p what e h None g = absurd (subst (CoveredBy (part.Column 0)) g (h (part_at p (part.Column 0)) (one_here (part_at p (part.Column 0))) (slice_get_within ks p what e)))
        counted_by f.CountStar p what e h (Some None) g = refl
        counted_by f.CountStar p what e h (Some (Some m)) g = refl
        counted_by f.CountStar p what e h None g = sym (ap is_some g) ∙ h (part_at p part.Rows) (one_here (part_at p part.Rows)) (slice_get_within ks p what e)
        counted_by f.Size p what e h (Some None) g = refl
        counted_by f.Size p what e h (Some (Some m)) g = refl
        counted_by f.Size p what e h None g = sym (ap is_some g) ∙ h (part_at p part.Rows) (one_here (part_at p part.Rows)) (slice_get_within ks p what e)
        counted_by f.IsEmpty p what e h (Some None) g = refl
        counted_by f.IsEmpty p what e h (Some (Some m)) g = refl
        counted_by f.IsEmpty p what e h None g = sym (ap is_some g) ∙ h (part_at p part.Rows) (one_here (part_at p part.Rows)) (slice_get_within ks p what e)
        counted_by f.Sum p what e h l g = and_from (is_whole l) true (sym (ap is_whole g) ∙ field_seen p what e h) refl
        counted_by f.Min p what e h l g = and_from (is_whole l) true (sym (ap is_whole g) ∙ field_seen p what e h) refl
        counted_by f.Max p what e h l g = and_from (is_whole l) true (sym (ap is_whole g) ∙ field_seen p what e h) refl
        counted_by f.Concat p what e h l g = and_from (is_whole l) true (sym (ap is_whole g) ∙ field_seen p what e h) refl
        counted_by f.Tokenize p what e h l g = and_from (is_whole l) true (sym (ap is_whole g) ∙ field_seen p what e h) refl
        counted_by f.Substring p what e h l g = and_from (is_whole l) true (sym (ap is_whole g) ∙ field_seen p what e h) refl
        counted_by f.StartsWith p what e h l g = and_from (is_whole l) true (sym (ap is_whole g) ∙ field_seen p what e h) refl
        counted_by f.EndsWith p what e h l g = and_from (is_whole l) true (sym (ap is_whole g) ∙ field_seen p what e h) refl
        counted_by f.IndexOf p what e h l g = and_from (is_whole l) true (sym (ap is_whole g) ∙ field_seen p what e h) refl
        counted_by f.Abs p what e h l g = and_from (is_whole l) true (sym (ap is_whole g) ∙ field_seen p what e h) refl
        counted_by f.ToTuple p what e h l g = and_from (is_whole l) true (sym (ap is_whole g) ∙ field_seen p what e h) refl
        counted_by (f.ToBag width) p what e h l g = and_from (is_whole l) true (sym (ap is_whole g) ∙ field_seen p what e h) refl

        whole_argument : (function : Function) (seen : Bool) → argument_seen C function (Some None) seen ≡ seen
        whole_argument f.Count seen = refl
        whole_argument f.CountStar seen = refl
        whole_argument f.Size seen = refl
        whole_argument f.IsEmpty seen = refl
        whole_argument f.Sum seen = refl
        whole_argument f.Min seen = refl
        whole_argument f.Max seen = refl
        whole_argument f.Concat seen = refl
        whole_argument f.Tokenize seen = refl
        whole_argument f.Substring seen = refl
        whole_argument f.StartsWith seen = refl
        whole_argument f.EndsWith seen = refl
        whole_argument f.IndexOf seen = refl
        whole_argument f.Abs seen = refl
        whole_argument f.ToTuple seen = refl
        whole_argument (f.ToBag width) seen = refl

        -- what a call sees of its one argument
        one_called : (function : Function) (a : Typed) (o : Option ℕ) → field_of a ≡ o → (j : KindTree) → expr_kind a ks locals ≡ Some j
            → AreCovered (option_map_or (λ n. n ∷ []) (counted function o) (names_in a ++ [])) → (AreCovered (names_in a) → sees C own a ≡ true)
            → argument_seen C function (left_of_field own o) (sees C own a && true) ≡ true
        one_called function a None e j g h rest =
            whole_argument function (sees C own a && true) ∙ and_from (sees C own a) true (rest (cover_front (names_in a) [] h)) refl
        one_called function a (Some p) e j g h rest =
            let form : a ≡ x_field p = field_form a p e in
            ap (λ x. argument_seen C function (left_of own p) (sees C own x && true)) form
            ∙ counted_by function p j (ap (λ x. expr_kind x ks locals) (sym form) ∙ g) (subst (λ x. AreCovered (option_map_or (λ n. n ∷ []) (counted function (Some p)) (names_in x ++ []))) form h) (left_of own p) refl

        -- ---- expressions

        mutual
          pub seen : (e : Typed) (k : KindTree) → expr_kind e ks locals ≡ Some k → AreCovered (names_in e) → sees C own e ≡ true
          seen x_null k g h = refl
          seen (x_bool b) k g h = refl
          seen (x_int z) k g h = refl
          seen (x_long z) k g h = refl
          seen (x_chars text) k g h = refl
          seen (x_field n) k g h = field_seen n k g h
          seen (x_local n) k g h = refl
          seen (x_chain first links) k g h =
              let found = found_first (expr_kind first ks locals) (λ j. links_kind j links ks locals) k g in
              and_from (sees C own first) (links_see C own links) (seen first found.0 found.1 (cover_front (names_in first) (link_names links) h)) (links_seen links found.0 k found.2 (cover_back (names_in first) (link_names links) h))
          seen (x_compare r a b) k g h =
              let one = found_first (expr_kind a ks locals) _ k g in
              let two = found_first (expr_kind b ks locals) (compare_kind r one.0) k one.2 in
              and_from (sees C own a) (sees C own b) (seen a one.0 one.1 (cover_front (names_in a) (names_in b) h)) (seen b two.0 two.1 (cover_back (names_in a) (names_in b) h))
          seen (x_is_null a negated) k g h = let found = found_first (expr_kind a ks locals) _ k g in seen a found.0 found.1 h
          seen (x_not a) k g h = let found = found_first (expr_kind a ks locals) not_kind k g in seen a found.0 found.1 h
          seen (x_minus a) k g h = let found = found_first (expr_kind a ks locals) minus_kind k g in seen a found.0 found.1 h
          seen (x_choose test a b) k g h =
              let one = found_first (expr_kind test ks locals) _ k g in
              let two = found_first (expr_kind a ks locals) _ k one.2 in
              let three = found_first (expr_kind b ks locals) (choose_kind one.0 two.0) k two.2 in
              let rest = cover_back (names_in test) (names_in a ++ names_in b) h in
              and_from (sees C own test) (sees C own a && sees C own b) (seen test one.0 one.1 (cover_front (names_in test) (names_in a ++ names_in b) h))
              (and_from (sees C own a) (sees C own b) (seen a two.0 two.1 (cover_front (names_in a) (names_in b) rest)) (seen b three.0 three.1 (cover_back (names_in a) (names_in b) rest)))
          seen (x_cast to a) k g h = let found = found_first (expr_kind a ks locals) (cast_kind to) k g in seen a found.0 found.1 h
          seen (x_project a columns single) k g h = projected a columns single k (field_of a) refl g h (λ j e c. seen a j e c)
          seen (x_look a key) k g h = let found = found_first (expr_kind a ks locals) look_kind k g in seen a found.0 found.1 h
          seen (x_call function args) k g h = let found = found_first (args_kinds args ks locals) (function_kind function) k g in call_seen function args found.0 found.1 h

          call_seen : (function : Function) (args : TypedArgs) (kinds : RowKinds) → args_kinds args ks locals ≡ Some kinds → AreCovered (option_map_or (λ n. n ∷ []) (counted function (only_field args)) (arg_names args))
              → sees C own (x_call function args) ≡ true
          call_seen function no_args kinds g h = whole_argument function true
          call_seen function (more_args e no_args) kinds g h =
              let found = found_first (expr_kind e ks locals) _ kinds g in
              one_called function e (field_of e) refl found.0 found.1 h (λ c. seen e found.0 found.1 c)
          call_seen function (more_args e (more_args a args)) kinds g h =
              let one = found_first (expr_kind e ks locals) _ kinds g in
              let two = found_first (args_kinds (more_args a args) ks locals) _ kinds one.2 in
              whole_argument function (args_see C own (more_args e (more_args a args)))
              ∙ and_from (sees C own e) (args_see C own (more_args a args)) (seen e one.0 one.1 (cover_front (names_in e) (arg_names (more_args a args)) h))
              (args_seen (more_args a args) two.0 two.1 (cover_back (names_in e) (arg_names (more_args a args)) h))

          links_seen : (links : TypedLinks) (so_far k : KindTree) → links_kind so_far links ks locals ≡ Some k → AreCovered (link_names links) → links_see C own links ≡ true
          links_seen no_links so_far k g h = refl
          links_seen (more_links operator a links) so_far k g h =
              let one = found_first (expr_kind a ks locals) _ k g in
              let two = found_first (chain_kind operator so_far one.0) (λ next. links_kind next links ks locals) k one.2 in
              and_from (sees C own a) (links_see C own links) (seen a one.0 one.1 (cover_front (names_in a) (link_names links) h)) (links_seen links two.0 k two.2 (cover_back (names_in a) (link_names links) h))

          args_seen : (args : TypedArgs) (kinds : RowKinds) → args_kinds args ks locals ≡ Some kinds → AreCovered (arg_names args) → args_see C own args ≡ true
          args_seen no_args kinds g h = refl
          args_seen (more_args e args) kinds g h =
              let one = found_first (expr_kind e ks locals) _ kinds g in
              let two = found_first (args_kinds args ks locals) _ kinds one.2 in
              and_from (sees C own e) (args_see C own args) (seen e one.0 one.1 (cover_front (names_in e) (arg_names args) h)) (args_seen args two.0 two.1 (cover_back (names_in e) (arg_names args) h))

-- ---- fields that are whole

in_fields : (j : ℕ) (xs : List ℕ) → list_any (λ i. i == j) xs ≡ true → is_needed (field j) (map field xs) ≡ true
in_fields j [] h = absurd (true≢false (sym h))
in_fields j (x ∷ xs) h =
    either_of (x == j) (list_any (λ i. i == j) xs) h
    (λ e. first_of (same_need (field j) (field x)) (is_needed (field j) (map field xs)) (and_from (j == x) true (eq-eqb j x (sym (eqb-true x j e))) refl))
    (λ e. second_of (same_need (field j) (field x)) (is_needed (field j) (map field xs)) (in_fields j xs e))

abbrev named_at : ℕ → List ℕ → Bool
named_at j xs = list_any (λ i. i == j) xs

at_front : (j : ℕ) (xs ys : List ℕ) → named_at j xs ≡ true → named_at j (xs ++ ys) ≡ true
at_front j [] ys h = absurd (true≢false (sym h))
at_front j (x ∷ xs) ys h = either_of (x == j) (named_at j xs) h (λ e. first_of (x == j) (named_at j (xs ++ ys)) e) (λ e. second_of (x == j) (named_at j (xs ++ ys)) (at_front j xs ys e))

at_back : (j : ℕ) (xs ys : List ℕ) → named_at j ys ≡ true → named_at j (xs ++ ys) ≡ true
at_back j [] ys h = h
at_back j (x ∷ xs) ys h = second_of (x == j) (named_at j (xs ++ ys)) (at_back j xs ys h)

pub split_named : {G : Type 0} (n : Need) (xs ys : List Need) → is_needed n (xs ++ ys) ≡ true → (is_needed n xs ≡ true → G) → (is_needed n ys ≡ true → G) → G
split_named n [] ys h f g = g h
split_named n (x ∷ xs) ys h f g =
    either_of (same_need n x) (is_needed n (xs ++ ys)) h (λ e. f (first_of (same_need n x) (is_needed n xs) e)) (λ e. split_named n xs ys e (λ i. f (second_of (same_need n x) (is_needed n xs) i)) g)

one_named : (n m : Need) → is_needed n (m ∷ []) ≡ true → n ≡ m
one_named n m h = either_of (same_need n m) false h (need_sound n m) (λ e. absurd (true≢false (sym e)))

-- a column of a field is named at its position
columns_at : (n : Need) (p : ℕ) (columns : List ℕ) → is_needed n (map (column_of p) columns) ≡ true → n.position ≡ p
columns_at n p [] h = absurd (true≢false (sym h))
columns_at n p (q ∷ columns) h = either_of (same_need n (column_of p q)) (is_needed n (map (column_of p) columns)) h (λ e. ap (λ m. m.position) (need_sound n (column_of p q) e)) (columns_at n p columns)

here_at : (j p : ℕ) → j ≡ p → named_at j (p ∷ []) ≡ true
here_at j p e = first_of (p == j) false (eq-eqb p j (sym e))

projected_at : (n : Need) (a : Typed) (columns : List ℕ) (o : Option ℕ) → field_of a ≡ o → is_needed n (option_map_or (λ p. map (column_of p) columns) o (names_in a)) ≡ true
    → (is_needed n (names_in a) ≡ true → named_at n.position (fields_in a) ≡ true) → named_at n.position (fields_in a) ≡ true
projected_at n a columns None e h rest = rest h
projected_at n a columns (Some p) e h rest = ap (λ x. named_at n.position (fields_in x)) (field_form a p e) ∙ here_at n.position p (columns_at n p columns h)

called_at : (n : Need) (function : Function) (a : Typed) (o : Option ℕ) → field_of a ≡ o → is_needed n (option_map_or (λ n. n ∷ []) (counted function o) (names_in a ++ [])) ≡ true
    → (is_needed n (names_in a) ≡ true → named_at n.position (fields_in a) ≡ true) → named_at n.position (fields_in a ++ []) ≡ true
called_at n function a None e h rest = at_front n.position (fields_in a) [] (rest (split_named n (names_in a) [] h (λ i. i) (λ i. absurd (true≢false (sym i)))))
called_at n function a (Some p) e h rest = by_part (counted_part function) h
  where
    by_part : (o : Option Part) → is_needed n (option_map_or (λ n. n ∷ []) (option_map (part_at p) o) (names_in a ++ [])) ≡ true → named_at n.position (fields_in a ++ []) ≡ true
    by_part None i = at_front n.position (fields_in a) [] (rest (split_named n (names_in a) [] i (λ j. j) (λ j. absurd (true≢false (sym j)))))
    by_part (Some asked) i = ap (λ x. named_at n.position (fields_in x ++ [])) (field_form a p e) ∙ here_at n.position p (ap (λ m. m.position) (one_named n (part_at p asked) i))

-- what is named is a part of a field that is named
mutual
  names_at : (e : Typed) (n : Need) → is_needed n (names_in e) ≡ true → named_at n.position (fields_in e) ≡ true
  names_at x_null n h = absurd (true≢false (sym h))
  names_at (x_bool b) n h = absurd (true≢false (sym h))
  names_at (x_int z) n h = absurd (true≢false (sym h))
  names_at (x_long z) n h = absurd (true≢false (sym h))
  names_at (x_chars text) n h = absurd (true≢false (sym h))
  names_at (x_field p) n h = here_at n.position p (ap (λ m. m.position) (one_named n (field p) h))
  names_at (x_local p) n h = absurd (true≢false (sym h))
  names_at (x_chain first links) n h =
      split_named n (names_in first) (link_names links) h (λ i. at_front n.position (fields_in first) (link_fields links) (names_at first n i)) (λ i. at_back n.position (fields_in first) (link_fields links) (links_at links n i))
  names_at (x_compare r a b) n h =
      split_named n (names_in a) (names_in b) h (λ i. at_front n.position (fields_in a) (fields_in b) (names_at a n i)) (λ i. at_back n.position (fields_in a) (fields_in b) (names_at b n i))
  names_at (x_is_null a negated) n h = names_at a n h
  names_at (x_not a) n h = names_at a n h
  names_at (x_minus a) n h = names_at a n h
  names_at (x_choose test a b) n h =
      split_named n (names_in test) (names_in a ++ names_in b) h (λ i. at_front n.position (fields_in test) (fields_in a ++ fields_in b) (names_at test n i))
      (λ i. at_back n.position (fields_in test) (fields_in a ++ fields_in b)
      (split_named n (names_in a) (names_in b) i (λ j. at_front n.position (fields_in a) (fields_in b) (names_at a n j)) (λ j. at_back n.position (fields_in a) (fields_in b) (names_at b n j))))
  names_at (x_cast to a) n h = names_at a n h
  names_at (x_project a columns single) n h = projected_at n a columns (field_of a) refl h (λ i. names_at a n i)
  names_at (x_look a key) n h = names_at a n h
  names_at (x_call function args) n h = call_at function args n h

  call_at : (function : Function) (args : TypedArgs) (n : Need) → is_needed n (names_in (x_call function args)) ≡ true → named_at n.position (arg_fields args) ≡ true
  call_at function no_args n h = absurd (true≢false (sym h))
  call_at function (more_args e no_args) n h = called_at n function e (field_of e) refl h (λ i. names_at e n i)
  call_at function (more_args e (more_args a args)) n h =
      split_named n (names_in e) (arg_names (more_args a args)) h (λ i. at_front n.position (fields_in e) (arg_fields (more_args a args)) (names_at e n i)) (λ i. at_back n.position (fields_in e) (arg_fields (more_args a args)) (args_at (more_args a args) n i))

  links_at : (links : TypedLinks) (n : Need) → is_needed n (link_names links) ≡ true → named_at n.position (link_fields links) ≡ true
  links_at no_links n h = absurd (true≢false (sym h))
  links_at (more_links operator a links) n h =
      split_named n (names_in a) (link_names links) h (λ i. at_front n.position (fields_in a) (link_fields links) (names_at a n i)) (λ i. at_back n.position (fields_in a) (link_fields links) (links_at links n i))

  args_at : (args : TypedArgs) (n : Need) → is_needed n (arg_names args) ≡ true → named_at n.position (arg_fields args) ≡ true
  args_at no_args n h = absurd (true≢false (sym h))
  args_at (more_args e args) n h =
      split_named n (names_in e) (arg_names args) h (λ i. at_front n.position (fields_in e) (arg_fields args) (names_at e n i)) (λ i. at_back n.position (fields_in e) (arg_fields args) (args_at args n i))

-- where each field that is named is left whole, all is seen
pub whole_seen : (C : ℕ → NodeCut) (W : ℕ → ℕ) (own : NodeCut) (ks locals : RowKinds) → ((p m : ℕ) → left_of own p ≡ Some (Some m) → IsBagOf C W ks p m)
    → (e : Typed) (k : KindTree) → expr_kind e ks locals ≡ Some k → AreCovered C W own ks (whole_fields e) → sees C own e ≡ true
whole_seen C W own ks locals likes e k g h =
    seen C W own ks locals likes e k g
    (λ n named low. whole_covers C W n.part (left_of own n.position) (whole_is (left_of own n.position) (h (field n.position) (in_fields n.position (fields_in e) (names_at e n named)) low)))
