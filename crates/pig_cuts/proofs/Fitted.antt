-- An expression at its new positions has, on a cut row, the value that it has on the row.
use Rattle.std.specs.Prelude.{◌≡◌, ◌&&◌, ℕ, Bool, true, List, [], ◌∷◌, ◌++◌, map, take, Option, Some, None, refl, if◌then◌else◌}
use Rattle.std.specs.List.{filter, list_all}
use Rattle.std.proofs.Common.{ap, sym, ◌∙◌}
use Rattle.std.proofs.lemmas.Bool.{and_parts}
use Rattle.std.proofs.lemmas.Option.{none-some}
use Rattle.pig_value.proofs.list_laws.Listing.{some_same}
use Rattle.pig_value.specs.Casts.{cast_of}
use Rattle.pig_value.specs.Functions.{apply_tree}
use Rattle.pig_value.specs.Orders.{row_cmp}
use Rattle.pig_value.specs.Sorts.{distinct, sort}
use Rattle.pig_value.specs.Trees.{Tree, at, tuples_of, v_bag, v_listed}
use Rattle.pig_value.specs.declared.functions.Function.{Function}
use Rattle.pig_value.specs.declared.functions.Function.TheVariants as f
use Rattle.pig_typed.specs.Blocks.{flattened, from_rows, item_lists, keys_cmp, on_rows, step_value, steps_values}
use Rattle.pig_typed.specs.Evaluation.{ev, ev_args, ev_links, passes}
use Rattle.pig_typed.specs.Operators.{chain_tree, chosen, compare_tree, is_true, look_tree, minus_tree, not_tree, null_test, project_tree, truth_of}
use Rattle.pig_typed.specs.Typed.{Typed, TypedArgs, TypedItem, TypedLinks, TypedStep, x_null, x_bool, x_int, x_long, x_chars, x_field, x_local, x_chain, x_compare, x_is_null, x_not, x_minus, x_choose, x_cast, x_project, x_look, x_call, no_links, more_links, no_args, more_args, s_filter, s_order, s_limit, s_distinct, s_take}
use Rattle.pig_plan.specs.Moves.{field_of}
use Rattle.pig_cuts.specs.Cuts.{Left, NodeCut, cut_bag, cut_row, left_of, place_of}
use Rattle.pig_cuts.specs.Fits.{argument_seen, args_see, bag_in, columns_seen, fit, fit_args, fit_columns, fit_item, fit_links, fit_step, left_of_field, links_see, only_field, sees}
use Rattle.pig_cuts.proofs.Fields.{IsRows, Unfolds, columns_cut, count_cut, count_star_cut, field_cut, isempty_cut, size_cut, whole_cut}

-- ---- operands that are plain fields

pub field_form : (e : Typed) (p : ℕ) → field_of e ≡ Some p → e ≡ x_field p
field_form (x_field n) p h = ap x_field (some_same n p h)
field_form x_null p h = absurd (none-some p h)
field_form (x_bool b) p h = absurd (none-some p h)
field_form (x_int z) p h = absurd (none-some p h)
field_form (x_long z) p h = absurd (none-some p h)
field_form (x_chars text) p h = absurd (none-some p h)
field_form (x_local n) p h = absurd (none-some p h)
field_form (x_chain first links) p h = absurd (none-some p h)
field_form (x_compare r a b) p h = absurd (none-some p h)
field_form (x_is_null a negated) p h = absurd (none-some p h)
field_form (x_not a) p h = absurd (none-some p h)
field_form (x_minus a) p h = absurd (none-some p h)
field_form (x_choose test a b) p h = absurd (none-some p h)
field_form (x_cast to a) p h = absurd (none-some p h)
field_form (x_project a ns single) p h = absurd (none-some p h)
field_form (x_look a key) p h = absurd (none-some p h)
field_form (x_call function args) p h = absurd (none-some p h)

pub only_form : (args : TypedArgs) (p : ℕ) → only_field args ≡ Some p → args ≡ more_args (x_field p) no_args
only_form no_args p h = absurd (none-some p h)
only_form (more_args e no_args) p h = ap (λ a. more_args a no_args) (field_form e p h)
only_form (more_args e (more_args a args)) p h = absurd (none-some p h)

-- an operand that is left as a cut bag is a plain field
pub cut_field_is : (own : NodeCut) (field : Option ℕ) (n : ℕ) → left_of_field own field ≡ Some (Some n) → (p : ℕ) × (field ≡ Some p) × (left_of own p ≡ Some (Some n))
cut_field_is own (Some p) n h = (p, refl, h)
cut_field_is own None n h = absurd (none-some n (some_same None (Some n) h))

module _ (cuts : ℕ → NodeCut) (cutter : ℕ → List Tree → List Tree) (own : NodeCut) (row : List Tree) where
  -- what is left as a bag of cut rows is a bag, whose rows are cut by their node's cut
  abbrev pub Suits : Type 0
  Suits = (p n : ℕ) → left_of own p ≡ Some (Some n) → Unfolds cuts cutter n × IsRows (at p row)

  abbrev cut : List Tree
  cut = cut_row cutter own row

  module _ (suits : Suits) (locals : List Tree) where
    -- a plain field that is left as a bag of cut rows
    record IsCutBag (n p : ℕ) : Type 0 where
      place : at (place_of own p) cut ≡ cut_bag (cutter n) (at p row)
      unfolds : Unfolds cuts cutter n
      bag : IsRows (at p row)

    cut_bag_at : (n p : ℕ) → left_of own p ≡ Some (Some n) → IsCutBag n p
    cut_bag_at n p h = let both = suits p n h in record { place = field_cut cuts cutter own row p (Some n) h; unfolds = both.0; bag = both.1 }

    projects : (a : Typed) (columns : List ℕ) (single : Bool) (l : Left) → left_of_field own (field_of a) ≡ l → columns_seen cuts l columns (sees cuts own a) ≡ true
        → (sees cuts own a ≡ true → ev (fit cuts own a) cut locals ≡ ev a row locals)
        → project_tree (fit_columns cuts l columns) single (ev (fit cuts own a) cut locals) ≡ project_tree columns single (ev a row locals)
    projects a columns single None e h rest = ap (project_tree columns single) (rest h)
    projects a columns single (Some None) e h rest = ap (project_tree columns single) (rest h)
    projects a columns single (Some (Some n)) e h rest =
        let field = cut_field_is own (field_of a) n e in
        let form : a ≡ x_field field.0 = field_form a field.0 field.1 in
        let is : IsCutBag n field.0 = cut_bag_at n field.0 field.2 in
        ap (λ x. project_tree (map (place_of (cuts n)) columns) single (ev (fit cuts own x) cut locals)) form
        ∙ ap (project_tree (map (place_of (cuts n)) columns) single) is.place
        ∙ columns_cut cuts cutter n is.unfolds columns single (at field.0 row) is.bag h
        ∙ ap (λ x. project_tree columns single (ev x row locals)) (sym form)

    counts : (function : Function) (args : TypedArgs) (n : ℕ) → left_of_field own (only_field args) ≡ Some (Some n)
        → ((v : Tree) → Unfolds cuts cutter n → IsRows v → apply_tree function (cut_bag (cutter n) v ∷ []) ≡ apply_tree function (v ∷ []))
        → apply_tree function (ev_args (fit_args cuts own args) cut locals) ≡ apply_tree function (ev_args args row locals)
    counts function args n e law =
        let field = cut_field_is own (only_field args) n e in
        let form : args ≡ more_args (x_field field.0) no_args = only_form args field.0 field.1 in
        let is : IsCutBag n field.0 = cut_bag_at n field.0 field.2 in
        ap (λ xs. apply_tree function (ev_args (fit_args cuts own xs) cut locals)) form
        ∙ ap (λ v. apply_tree function (v ∷ [])) is.place
        ∙ law (at field.0 row) is.unfolds is.bag
        ∙ ap (λ xs. apply_tree function (ev_args xs row locals)) (sym form)

    calls : (function : Function) (args : TypedArgs) (l : Left) → left_of_field own (only_field args) ≡ l → argument_seen cuts function l (args_see cuts own args) ≡ true
        → (args_see cuts own args ≡ true → ev_args (fit_args cuts own args) cut locals ≡ ev_args args row locals)
        → apply_tree function (ev_args (fit_args cuts own args) cut locals) ≡ apply_tree function (ev_args args row locals)
    calls f.Count args (Some (Some n)) e h rest = counts f.Count args n e (λ v unfolds is. count_cut cuts cutter n unfolds h v is)
    calls f.CountStar args (Some (Some n)) e h rest = counts f.CountStar args n e (λ v unfolds is. count_star_cut cuts cutter n unfolds v is)
    calls f.Size args (Some (Some n)) e h rest = counts f.Size args n e (λ v unfolds is. size_cut cuts cutter n unfolds v is)
    calls f.IsEmpty args (Some (Some n)) e h rest = counts f.IsEmpty args n e (λ v unfolds is. isempty_cut cuts cutter n unfolds v is)
    calls f.Count args None e h rest = ap (apply_tree f.Count) (rest h)
    calls f.Count args (Some None) e h rest = ap (apply_tree f.Count) (rest h)
    calls f.CountStar args None e h rest = ap (apply_tree f.CountStar) (rest h)
    calls f.CountStar args (Some None) e h rest = ap (apply_tree f.CountStar) (rest h)
    calls f.Size args None e h rest = ap (apply_tree f.Size) (rest h)
    calls f.Size args (Some None) e h rest = ap (apply_tree f.Size) (rest h)
    calls f.IsEmpty args None e h rest = ap (apply_tree f.IsEmpty) (rest h)
    calls f.IsEmpty args (Some None) e h rest = ap (apply_tree f.IsEmpty) (rest h)
    calls f.Sum args l e h rest = ap (apply_tree f.Sum) (rest h)
    calls f.Min args l e h rest = ap (apply_tree f.Min) (rest h)
    calls f.Max args l e h rest = ap (apply_tree f.Max) (rest h)
    calls f.Concat args l e h rest = ap (apply_tree f.Concat) (rest h)
    calls f.Tokenize args l e h rest = ap (apply_tree f.Tokenize) (rest h)
    calls f.Substring args l e h rest = ap (apply_tree f.Substring) (rest h)
    calls f.StartsWith args l e h rest = ap (apply_tree f.StartsWith) (rest h)
    calls f.EndsWith args l e h rest = ap (apply_tree f.EndsWith) (rest h)
    calls f.IndexOf args l e h rest = ap (apply_tree f.IndexOf) (rest h)
    calls f.Abs args l e h rest = ap (apply_tree f.Abs) (rest h)
    calls f.ToTuple args l e h rest = ap (apply_tree f.ToTuple) (rest h)
    calls (f.ToBag width) args l e h rest = ap (apply_tree (f.ToBag width)) (rest h)

    -- ---- expressions

    mutual
      pub fits : (e : Typed) → sees cuts own e ≡ true → ev (fit cuts own e) cut locals ≡ ev e row locals
      fits x_null h = refl
      fits (x_bool b) h = refl
      fits (x_int z) h = refl
      fits (x_long z) h = refl
      fits (x_chars text) h = refl
      fits (x_field n) h = whole_cut cuts cutter own row n h
      fits (x_local n) h = refl
      fits (x_chain first links) h =
          let both = and_parts (sees cuts own first) (links_see cuts own links) h in
          ap (λ v. ev_links v (fit_links cuts own links) cut locals) (fits first both.0) ∙ links_fit links (ev first row locals) both.1
      fits (x_compare r a b) h =
          let both = and_parts (sees cuts own a) (sees cuts own b) h in
          λ i. compare_tree r (fits a both.0 i) (fits b both.1 i)
      fits (x_is_null a negated) h = ap (λ v. null_test v negated) (fits a h)
      fits (x_not a) h = ap not_tree (fits a h)
      fits (x_minus a) h = ap minus_tree (fits a h)
      fits (x_choose test a b) h =
          let both = and_parts (sees cuts own test) (sees cuts own a && sees cuts own b) h in
          let two = and_parts (sees cuts own a) (sees cuts own b) both.1 in
          λ i. chosen (truth_of (fits test both.0 i)) (fits a two.0 i) (fits b two.1 i)
      fits (x_cast to a) h = ap (cast_of to) (fits a h)
      fits (x_project a columns single) h = projects a columns single (left_of_field own (field_of a)) refl h (λ seen. fits a seen)
      fits (x_look a key) h = ap (look_tree key) (fits a h)
      fits (x_call function args) h = calls function args (left_of_field own (only_field args)) refl h (λ seen. args_fit args seen)

      links_fit : (links : TypedLinks) (so_far : Tree) → links_see cuts own links ≡ true → ev_links so_far (fit_links cuts own links) cut locals ≡ ev_links so_far links row locals
      links_fit no_links so_far h = refl
      links_fit (more_links operator a links) so_far h =
          let both = and_parts (sees cuts own a) (links_see cuts own links) h in
          ap (λ v. ev_links (chain_tree operator so_far v) (fit_links cuts own links) cut locals) (fits a both.0)
          ∙ links_fit links (chain_tree operator so_far (ev a row locals)) both.1

      args_fit : (args : TypedArgs) → args_see cuts own args ≡ true → ev_args (fit_args cuts own args) cut locals ≡ ev_args args row locals
      args_fit no_args h = refl
      args_fit (more_args e args) h =
          let both = and_parts (sees cuts own e) (args_see cuts own args) h in
          λ i. fits e both.0 i ∷ args_fit args both.1 i

  -- ---- blocks

  module _ (suits : Suits) where
    pub passes_fit : (cond : Typed) → sees cuts own cond ≡ true → passes (fit cuts own cond) cut ≡ passes cond row
    passes_fit cond h = ap is_true (fits suits [] cond h)

    step_fits : (s : TypedStep) (locals : List Tree) → sees cuts own (bag_in s) ≡ true → step_value (fit_step cuts own s) cut locals ≡ step_value s row locals
    step_fits (s_filter from cond) locals h = ap (on_rows (filter (passes cond))) (fits suits locals from h)
    step_fits (s_order from keys) locals h = ap (from_rows (λ rows. v_listed (tuples_of (sort (keys_cmp keys) rows)))) (fits suits locals from h)
    step_fits (s_limit from count) locals h = ap (on_rows (take count)) (fits suits locals from h)
    step_fits (s_distinct from) locals h = ap (from_rows (λ rows. v_bag (tuples_of (distinct row_cmp rows)))) (fits suits locals from h)
    step_fits (s_take from) locals h = fits suits locals from h

    pub steps_fit : (steps : List TypedStep) (locals : List Tree) → list_all (λ s. sees cuts own (bag_in s)) steps ≡ true
        → steps_values (map (fit_step cuts own) steps) cut locals ≡ steps_values steps row locals
    steps_fit [] locals h = refl
    steps_fit (s ∷ steps) locals h =
        let both = and_parts (sees cuts own (bag_in s)) (list_all (λ s. sees cuts own (bag_in s)) steps) h in
        ap (λ v. steps_values (map (fit_step cuts own) steps) cut (locals ++ v ∷ [])) (step_fits s locals both.0)
        ∙ steps_fit steps (locals ++ step_value s row locals ∷ []) both.1

    pub item_fits : (item : TypedItem) (locals : List Tree) → sees cuts own item.value ≡ true → item_lists (fit_item cuts own item) cut locals ≡ item_lists item row locals
    item_fits item locals h = ap (λ v. if item.flatten then flattened item.width v else (v ∷ []) ∷ []) (fits suits locals item.value h)

    pub items_fit : (items : List TypedItem) (locals : List Tree) → list_all (λ item. sees cuts own item.value) items ≡ true
        → map (λ item. item_lists item cut locals) (map (fit_item cuts own) items) ≡ map (λ item. item_lists item row locals) items
    items_fit [] locals h = refl
    items_fit (item ∷ items) locals h =
        let both = and_parts (sees cuts own item.value) (list_all (λ item. sees cuts own item.value) items) h in
        λ i. item_fits item locals both.0 i ∷ items_fit items locals both.1 i
