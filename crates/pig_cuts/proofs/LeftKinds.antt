-- The kinds of cut rows: those of the fields that are left, and of a bag of cut rows those of its columns that are left. A fitted expression has
-- the kind on them that it had.
use Rattle.std.specs.Prelude.{◌≡◌, ◌==◌, ◌+◌, ◌&&◌, ℕ, suc, Bool, true, false, not, List, [], ◌∷◌, ◌++◌, map, Option, Some, None, slice_get, refl, if◌then◌else◌}
use Rattle.std.specs.List.{find, list_all, position_or_len}
use Rattle.std.specs.Option.{option_and_then, option_map}
use Rattle.std.proofs.Common.{ap, sym, ◌∙◌, subst, arith, cond}
use Rattle.std.proofs.lemmas.Bool.{and_parts, eqb-true}
use Rattle.std.proofs.lemmas.Option.{none-some}
use Rattle.pig_value.proofs.TreeLaws.{kinds_back}
use Rattle.pig_value.proofs.list_laws.Listing.{some_same}
use Rattle.pig_value.specs.Elementwise.{Each}
use Rattle.pig_value.specs.FunctionKinds.{function_kind}
use Rattle.pig_value.specs.Trees.{KindTree, bag_kinds, k_bag, k_boolean, k_long, kinds_of, look_kind}
use Rattle.pig_value.specs.declared.functions.Function.{Function}
use Rattle.pig_value.specs.declared.functions.Function.TheVariants as f
use Rattle.pig_typed.specs.BlockKinds.{bag_rows, filtered_kind, given_kinds, item_kinds, of_width, sorted_kind, step_kind, steps_kinds}
use Rattle.pig_typed.specs.ExprKinds.{args_kinds, cast_kind, chain_kind, choose_kind, compare_kind, expr_kind, is_selection, links_kind, minus_kind, not_kind, picked_kinds, project_kind, selected_kind}
use Rattle.pig_typed.specs.Typed.{Typed, TypedArgs, TypedItem, TypedLinks, TypedStep, x_null, x_bool, x_int, x_long, x_chars, x_field, x_local, x_chain, x_compare, x_is_null, x_not, x_minus, x_choose, x_cast, x_project, x_look, x_call, no_links, more_links, no_args, more_args, s_filter, s_order, s_limit, s_distinct, s_take}
use Rattle.pig_plan.specs.Moves.{field_of}
use Rattle.pig_plan.specs.NodeKinds.{RowKinds}
use Rattle.pig_cuts.specs.declared.kept.KeptField.{KeptField}
use Rattle.pig_cuts.specs.Cuts.{Left, NodeCut, is_whole, left_of, place_of}
use Rattle.pig_cuts.specs.Fits.{argument_seen, args_see, bag_in, columns_seen, fit, fit_args, fit_columns, fit_item, fit_links, fit_step, left_of_field, links_see, only_field, sees}
use Rattle.pig_cuts.proofs.Fields.{whole_is}
use Rattle.pig_cuts.proofs.Fitted.{cut_field_is, field_form, only_form}

module _ (cuts : ℕ → NodeCut) where
  -- the columns of a node's rows that are left whole have their kinds
  abbrev pub ColumnsKept : ℕ → RowKinds → RowKinds → Type 0
  ColumnsKept n rows left = (q : ℕ) → is_whole (left_of (cuts n) q) ≡ true → slice_get left (place_of (cuts n) q) ≡ slice_get rows q

  -- a bag of cut rows
  pub record IsBagLeft (n : ℕ) (kind left : KindTree) : Type 0 where
    pub rows : RowKinds
    pub rows_left : RowKinds
    pub was : kind ≡ k_bag (kinds_of rows)
    pub is : left ≡ k_bag (kinds_of rows_left)
    pub columns : ColumnsKept n rows rows_left

  abbrev pub IsFieldLeft : Option ℕ → KindTree → KindTree → Type 0
  IsFieldLeft None kind left = left ≡ kind
  IsFieldLeft (Some n) kind left = IsBagLeft n kind left

  pub record IsKindLeft (ks : RowKinds) (f : KeptField) (left : KindTree) : Type 0 where
    pub kind : KindTree
    pub stands : slice_get ks f.position ≡ Some kind
    pub is : IsFieldLeft f.like kind left

  -- the kinds of rows, and those of the rows cut
  abbrev pub AreLeft : NodeCut → RowKinds → RowKinds → Type 0
  AreLeft None ks ls = ls ≡ ks
  AreLeft (Some kept) ks ls = Each (IsKindLeft ks) kept ls

  -- ---- fields

  -- what stands at a position, and what is left of it at its place
  pub record IsFound (ks ls : RowKinds) (p place : ℕ) (l : Option ℕ) : Type 0 where
    pub kind : KindTree
    pub left : KindTree
    pub was : slice_get ks p ≡ Some kind
    pub stands : slice_get ls place ≡ Some left
    pub is : IsFieldLeft l kind left

  find_step : (ks ls : RowKinds) (f : KeptField) (kept : List KeptField) (k : KindTree) (p : ℕ) (l : Option ℕ) (b : Bool) → (f.position == p) ≡ b → IsKindLeft ks f k
      → (option_map (λ f. f.like) (find (λ f. f.position == p) kept) ≡ Some l → IsFound ks ls p (position_or_len (λ f. f.position == p) kept) l)
      → option_map (λ f. f.like) (cond b (Some f) (find (λ f. f.position == p) kept)) ≡ Some l
      → IsFound ks (k ∷ ls) p (cond (not b) (1 + position_or_len (λ f. f.position == p) kept) 0) l
  find_step ks ls f kept k p l true e here rest h =
      record { kind = here.kind; left = k; was = ap (slice_get ks) (sym (eqb-true f.position p e)) ∙ here.stands; stands = refl; is = subst (λ m. IsFieldLeft m here.kind k) (some_same f.like l h) here.is }
  find_step ks ls f kept k p l false e here rest h =
      let next : 1 + position_or_len (λ f. f.position == p) kept ≡ suc (position_or_len (λ f. f.position == p) kept) = omega arith in
      let found = rest h in
      record { kind = found.kind; left = found.left; was = found.was; stands = ap (slice_get (k ∷ ls)) next ∙ found.stands; is = found.is }

  pub found_in : (kept : List KeptField) (ks ls : RowKinds) → Each (IsKindLeft ks) kept ls → (p : ℕ) (l : Option ℕ) → left_of (Some kept) p ≡ Some l → IsFound ks ls p (place_of (Some kept) p) l
  found_in [] ks ls h p l e = absurd (none-some l e)
  found_in (f ∷ kept) ks [] h p l e = absurd h
  found_in (f ∷ kept) ks (k ∷ ls) h p l e = find_step ks ls f kept k p l (f.position == p) refl h.0 (found_in kept ks ls h.1 p l) e

  pub whole_kind : (own : NodeCut) (ks ls : RowKinds) → AreLeft own ks ls → (p : ℕ) → is_whole (left_of own p) ≡ true → slice_get ls (place_of own p) ≡ slice_get ks p
  whole_kind None ks ls h p e = ap (λ xs. slice_get xs p) h
  whole_kind (Some kept) ks ls h p e =
      let found = found_in kept ks ls h p None (whole_is (left_of (Some kept) p) e) in
      found.stands ∙ ap Some found.is ∙ sym found.was

  pub bag_kind : (own : NodeCut) (ks ls : RowKinds) → AreLeft own ks ls → (p n : ℕ) → left_of own p ≡ Some (Some n) → IsFound ks ls p (place_of own p) (Some n)
  bag_kind None ks ls h p n e = absurd (none-some n (some_same None (Some n) e))
  bag_kind (Some kept) ks ls h p n e = found_in kept ks ls h p (Some n) e

  -- ---- columns

  picked_left : (n : ℕ) (rows left : RowKinds) → ColumnsKept n rows left → (columns : List ℕ) → list_all (λ q. is_whole (left_of (cuts n) q)) columns ≡ true
      → picked_kinds (map (place_of (cuts n)) columns) left ≡ picked_kinds columns rows
  picked_left n rows left kept [] h = refl
  picked_left n rows left kept (q ∷ columns) h =
      let both = and_parts (is_whole (left_of (cuts n) q)) (list_all (λ q. is_whole (left_of (cuts n) q)) columns) h in
      λ i. option_and_then (λ k. option_map (λ ks. k ∷ ks) (picked_left n rows left kept columns both.1 i)) (kept q both.0 i)

  selection_left : (to : ℕ → ℕ) (columns : List ℕ) (single : Bool) → is_selection (map to columns) single ≡ is_selection columns single
  selection_left to [] single = refl
  selection_left to (q ∷ []) true = refl
  selection_left to (q ∷ []) false = refl
  selection_left to (q ∷ r ∷ columns) single = refl

  bag_selected : (n : ℕ) (whole left : KindTree) → IsBagLeft n whole left → (columns : List ℕ) (single : Bool) → list_all (λ q. is_whole (left_of (cuts n) q)) columns ≡ true
      → project_kind (map (place_of (cuts n)) columns) single left ≡ project_kind columns single whole
  bag_selected n whole left b columns single h =
      (λ i. if selection_left (place_of (cuts n)) columns single i then selected_kind (map (place_of (cuts n)) columns) single (b.is i) else None)
      ∙ ap (λ picked. if is_selection columns single then option_map (λ ks. k_bag (kinds_of ks)) picked else None)
      (ap (picked_kinds (map (place_of (cuts n)) columns)) (kinds_back b.rows_left) ∙ picked_left n b.rows b.rows_left b.columns columns h ∙ ap (picked_kinds columns) (sym (kinds_back b.rows)))
      ∙ (λ i. if is_selection columns single then selected_kind columns single (sym b.was i) else None)

  module _ (own : NodeCut) (ks ls : RowKinds) (left : AreLeft own ks ls) (locals : RowKinds) where
    projects : (a : Typed) (columns : List ℕ) (single : Bool) (l : Left) → left_of_field own (field_of a) ≡ l → columns_seen cuts l columns (sees cuts own a) ≡ true
        → (sees cuts own a ≡ true → expr_kind (fit cuts own a) ls locals ≡ expr_kind a ks locals)
        → option_and_then (project_kind (fit_columns cuts l columns) single) (expr_kind (fit cuts own a) ls locals) ≡ option_and_then (project_kind columns single) (expr_kind a ks locals)
    projects a columns single None e h rest = ap (option_and_then (project_kind columns single)) (rest h)
    projects a columns single (Some None) e h rest = ap (option_and_then (project_kind columns single)) (rest h)
    projects a columns single (Some (Some n)) e h rest =
        let field = cut_field_is own (field_of a) n e in
        let form : a ≡ x_field field.0 = field_form a field.0 field.1 in
        let found = bag_kind own ks ls left field.0 n field.2 in
        ap (λ x. option_and_then (project_kind (map (place_of (cuts n)) columns) single) (expr_kind (fit cuts own x) ls locals)) form
        ∙ ap (option_and_then (project_kind (map (place_of (cuts n)) columns) single)) found.stands
        ∙ bag_selected n found.kind found.left found.is columns single h
        ∙ ap (option_and_then (project_kind columns single)) (sym found.was)
        ∙ ap (λ x. option_and_then (project_kind columns single) (expr_kind x ks locals)) (sym form)

    counts : (function : Function) (k : KindTree) → ((rows : RowKinds) → function_kind function (k_bag (kinds_of rows) ∷ []) ≡ Some k)
        → (args : TypedArgs) (n : ℕ) → left_of_field own (only_field args) ≡ Some (Some n)
        → option_and_then (function_kind function) (args_kinds (fit_args cuts own args) ls locals) ≡ option_and_then (function_kind function) (args_kinds args ks locals)
    counts function k of_bag args n e =
        let field = cut_field_is own (only_field args) n e in
        let form : args ≡ more_args (x_field field.0) no_args = only_form args field.0 field.1 in
        let found = bag_kind own ks ls left field.0 n field.2 in
        ap (λ xs. option_and_then (function_kind function) (args_kinds (fit_args cuts own xs) ls locals)) form
        ∙ ap (λ o. option_and_then (function_kind function) (option_and_then (λ k. Some (k ∷ [])) o)) (found.stands ∙ ap Some found.is.is)
        ∙ of_bag found.is.rows_left ∙ sym (of_bag found.is.rows)
        ∙ ap (λ o. option_and_then (function_kind function) (option_and_then (λ k. Some (k ∷ [])) o)) (sym (found.was ∙ ap Some found.is.was))
        ∙ ap (λ xs. option_and_then (function_kind function) (args_kinds xs ks locals)) (sym form)

    calls : (function : Function) (args : TypedArgs) (l : Left) → left_of_field own (only_field args) ≡ l → argument_seen cuts function l (args_see cuts own args) ≡ true
        → (args_see cuts own args ≡ true → args_kinds (fit_args cuts own args) ls locals ≡ args_kinds args ks locals)
        → option_and_then (function_kind function) (args_kinds (fit_args cuts own args) ls locals) ≡ option_and_then (function_kind function) (args_kinds args ks locals)
    calls f.Count args (Some (Some n)) e h rest = counts f.Count k_long (λ rows. refl) args n e
    calls f.CountStar args (Some (Some n)) e h rest = counts f.CountStar k_long (λ rows. refl) args n e
    calls f.Size args (Some (Some n)) e h rest = counts f.Size k_long (λ rows. refl) args n e
    calls f.IsEmpty args (Some (Some n)) e h rest = counts f.IsEmpty k_boolean (λ rows. refl) args n e
    calls f.Count args None e h rest = ap (option_and_then (function_kind f.Count)) (rest h)
    calls f.Count args (Some None) e h rest = ap (option_and_then (function_kind f.Count)) (rest h)
    calls f.CountStar args None e h rest = ap (option_and_then (function_kind f.CountStar)) (rest h)
    calls f.CountStar args (Some None) e h rest = ap (option_and_then (function_kind f.CountStar)) (rest h)
    calls f.Size args None e h rest = ap (option_and_then (function_kind f.Size)) (rest h)
    calls f.Size args (Some None) e h rest = ap (option_and_then (function_kind f.Size)) (rest h)
    calls f.IsEmpty args None e h rest = ap (option_and_then (function_kind f.IsEmpty)) (rest h)
    calls f.IsEmpty args (Some None) e h rest = ap (option_and_then (function_kind f.IsEmpty)) (rest h)
    calls f.Sum args l e h rest = ap (option_and_then (function_kind f.Sum)) (rest h)
    calls f.Min args l e h rest = ap (option_and_then (function_kind f.Min)) (rest h)
    calls f.Max args l e h rest = ap (option_and_then (function_kind f.Max)) (rest h)
    calls f.Concat args l e h rest = ap (option_and_then (function_kind f.Concat)) (rest h)
    calls f.Tokenize args l e h rest = ap (option_and_then (function_kind f.Tokenize)) (rest h)
    calls f.Substring args l e h rest = ap (option_and_then (function_kind f.Substring)) (rest h)
    calls f.StartsWith args l e h rest = ap (option_and_then (function_kind f.StartsWith)) (rest h)
    calls f.EndsWith args l e h rest = ap (option_and_then (function_kind f.EndsWith)) (rest h)
    calls f.IndexOf args l e h rest = ap (option_and_then (function_kind f.IndexOf)) (rest h)
    calls f.Abs args l e h rest = ap (option_and_then (function_kind f.Abs)) (rest h)
    calls f.ToTuple args l e h rest = ap (option_and_then (function_kind f.ToTuple)) (rest h)
    calls (f.ToBag width) args l e h rest = ap (option_and_then (function_kind (f.ToBag width))) (rest h)

    -- ---- expressions

    mutual
      pub kind_fits : (e : Typed) → sees cuts own e ≡ true → expr_kind (fit cuts own e) ls locals ≡ expr_kind e ks locals
      kind_fits x_null h = refl
      kind_fits (x_bool b) h = refl
      kind_fits (x_int z) h = refl
      kind_fits (x_long z) h = refl
      kind_fits (x_chars text) h = refl
      kind_fits (x_field n) h = whole_kind own ks ls left n h
      kind_fits (x_local n) h = refl
      kind_fits (x_chain first links) h =
          let both = and_parts (sees cuts own first) (links_see cuts own links) h in
          ap (option_and_then (λ k. links_kind k (fit_links cuts own links) ls locals)) (kind_fits first both.0)
          ∙ (λ i. option_and_then (λ k. links_fit links k both.1 i) (expr_kind first ks locals))
      kind_fits (x_compare r a b) h =
          let both = and_parts (sees cuts own a) (sees cuts own b) h in
          λ i. option_and_then (λ k. option_and_then (compare_kind r k) (kind_fits b both.1 i)) (kind_fits a both.0 i)
      kind_fits (x_is_null a negated) h = ap (option_and_then (λ k. Some k_boolean)) (kind_fits a h)
      kind_fits (x_not a) h = ap (option_and_then not_kind) (kind_fits a h)
      kind_fits (x_minus a) h = ap (option_and_then minus_kind) (kind_fits a h)
      kind_fits (x_choose test a b) h =
          let both = and_parts (sees cuts own test) (sees cuts own a && sees cuts own b) h in
          let two = and_parts (sees cuts own a) (sees cuts own b) both.1 in
          λ i. option_and_then (λ c. option_and_then (λ k. option_and_then (choose_kind c k) (kind_fits b two.1 i)) (kind_fits a two.0 i)) (kind_fits test both.0 i)
      kind_fits (x_cast to a) h = ap (option_and_then (cast_kind to)) (kind_fits a h)
      kind_fits (x_project a columns single) h = projects a columns single (left_of_field own (field_of a)) refl h (λ seen. kind_fits a seen)
      kind_fits (x_look a key) h = ap (option_and_then look_kind) (kind_fits a h)
      kind_fits (x_call function args) h = calls function args (left_of_field own (only_field args)) refl h (λ seen. args_fit args seen)

      links_fit : (links : TypedLinks) (k : KindTree) → links_see cuts own links ≡ true → links_kind k (fit_links cuts own links) ls locals ≡ links_kind k links ks locals
      links_fit no_links k h = refl
      links_fit (more_links operator a links) k h =
          let both = and_parts (sees cuts own a) (links_see cuts own links) h in
          ap (option_and_then (λ l. option_and_then (λ next. links_kind next (fit_links cuts own links) ls locals) (chain_kind operator k l))) (kind_fits a both.0)
          ∙ (λ i. option_and_then (λ l. option_and_then (λ next. links_fit links next both.1 i) (chain_kind operator k l)) (expr_kind a ks locals))

      args_fit : (args : TypedArgs) → args_see cuts own args ≡ true → args_kinds (fit_args cuts own args) ls locals ≡ args_kinds args ks locals
      args_fit no_args h = refl
      args_fit (more_args e args) h =
          let both = and_parts (sees cuts own e) (args_see cuts own args) h in
          λ i. option_and_then (λ k. option_and_then (λ kinds. Some (k ∷ kinds)) (args_fit args both.1 i)) (kind_fits e both.0 i)

  -- ---- blocks

  module _ (own : NodeCut) (ks ls : RowKinds) (left : AreLeft own ks ls) where
    bag_fits : (from : Typed) (locals : RowKinds) → sees cuts own from ≡ true → bag_rows (fit cuts own from) ls locals ≡ bag_rows from ks locals
    bag_fits from locals h = ap (option_and_then bag_kinds) (kind_fits own ks ls left locals from h)

    step_fits : (s : TypedStep) (locals : RowKinds) → sees cuts own (bag_in s) ≡ true → step_kind (fit_step cuts own s) ls locals ≡ step_kind s ks locals
    step_fits (s_filter from c) locals h = ap (option_and_then (filtered_kind c)) (bag_fits from locals h)
    step_fits (s_order from keys) locals h = ap (option_and_then (sorted_kind keys)) (bag_fits from locals h)
    step_fits (s_limit from count) locals h = ap (option_map (λ rows. k_bag (kinds_of rows))) (bag_fits from locals h)
    step_fits (s_distinct from) locals h = ap (option_map (λ rows. k_bag (kinds_of rows))) (bag_fits from locals h)
    step_fits (s_take from) locals h = ap (option_map (λ rows. k_bag (kinds_of rows))) (bag_fits from locals h)

    pub steps_kinds_fit : (steps : List TypedStep) (locals : RowKinds) → list_all (λ s. sees cuts own (bag_in s)) steps ≡ true
        → steps_kinds (map (fit_step cuts own) steps) ls locals ≡ steps_kinds steps ks locals
    steps_kinds_fit [] locals h = refl
    steps_kinds_fit (s ∷ steps) locals h =
        let both = and_parts (sees cuts own (bag_in s)) (list_all (λ s. sees cuts own (bag_in s)) steps) h in
        ap (option_and_then (λ k. steps_kinds (map (fit_step cuts own) steps) ls (locals ++ k ∷ []))) (step_fits s locals both.0)
        ∙ (λ i. option_and_then (λ k. steps_kinds_fit steps (locals ++ k ∷ []) both.1 i) (step_kind s ks locals))

    pub item_kinds_fit : (item : TypedItem) (locals : RowKinds) → sees cuts own item.value ≡ true → item_kinds (fit_item cuts own item) ls locals ≡ item_kinds item ks locals
    item_kinds_fit item locals h = ap (option_and_then (λ k. option_and_then (of_width item.width) (given_kinds item.flatten k))) (kind_fits own ks ls left locals item.value h)
