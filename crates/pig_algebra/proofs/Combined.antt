-- Parts of rows that come in tasks are finished to what a FOREACH makes of each key and the bag of all its rows.
use Rattle.std.proofs.Common.{◌≡◌, refl, sym, ap, ◌∙◌, subst, append-nil, cond, true≢false, arith}
use Rattle.std.specs.Prelude.{◌==◌, ℕ, true, false, List, [], ◌∷◌, map, drop, Option, Some, None, ⊤}
use Rattle.std.specs.List.{flat_map}
use Rattle.std.specs.Option.{option_and_then, option_map}
use Rattle.std.proofs.lemmas.Bool.Decides.{nat_tests}
use Rattle.std.proofs.lemmas.List.Folds.{flat_map-map}
use Rattle.std.proofs.lemmas.List.Sorted.{IsPermutation-map, IsPermutation-sym}
use Rattle.std.proofs.lemmas.Simd.{map-map}
use Rattle.pig_value.specs.Elementwise.{Each}
use Rattle.pig_value.specs.FieldReader.{all_of}
use Rattle.pig_value.specs.Functions.{apply_tree, bag_tree, column_tree, looked_at}
use Rattle.pig_value.specs.Orders.{bag_of, row_cmp}
use Rattle.pig_value.specs.Trees.{Tree, at}
use Rattle.pig_value.specs.declared.functions.Function.{Function}
use Rattle.pig_value.proofs.TreeLaws.{tuples_back}
use Rattle.pig_value.proofs.list_laws.Bags.{either_way, sort_permutes}
use Rattle.pig_value.proofs.list_laws.Listing.{map-flat_map}
use Rattle.pig_typed.specs.Blocks.{foreach_all, foreach_rows, item_lists, steps_values}
use Rattle.pig_typed.specs.Evaluation.{ev}
use Rattle.pig_typed.specs.Operators.{pick, project_tree}
use Rattle.pig_typed.specs.Products.{joined, product}
use Rattle.pig_typed.specs.Typed.{Typed, TypedItem, TypedStep, more_args, no_args, x_call, x_field, x_project}
use Rattle.pig_builtins.specs.Folds.{is_algebraic}
use Rattle.pig_algebra.specs.Combining.{PartsFinishToTheRow, finished, part_tree, parts_by, seen_in}
use Rattle.pig_algebra.specs.Cuts.{TypedCut, c_key, c_part, c_row, cut_of, cut_of_bag, cuts_after, is_of_field, part_cut}
use Rattle.pig_algebra.specs.Parts.{merge_parts, merging}
use Rattle.pig_algebra.specs.PartLaws.{column_part, column_permuted, itself, merge_columns, same_merge, value_is}

abbrev Rows : Type 0
Rows = List (List Tree)

abbrev pub all_in : {X : Type 0} → List (List X) → List X
all_in = flat_map (λ xs. xs)

-- ---- parts of parts

-- what a function finds in each of some columns is brought together to what it finds in all of them
parts_together : (function : Function) → is_algebraic function ≡ true → (vs : List Tree) (more : List (List Tree))
    → column_tree (merging function) (map (column_tree function) (vs ∷ more)) ≡ column_tree function (all_in (vs ∷ more))
parts_together function h vs [] =
    itself function (column_tree function vs) (column_part function h vs) ∙ ap (column_tree function) (sym (append-nil vs))
parts_together function h vs (us ∷ more) =
    sym (merge_columns (merging function) (column_tree function vs ∷ []) (map (column_tree function) (us ∷ more)))
    ∙ ap (λ p. merge_parts (merging function) p (column_tree (merging function) (map (column_tree function) (us ∷ more)))) (itself function (column_tree function vs) (column_part function h vs))
    ∙ ap (merge_parts (merging function) (column_tree function vs)) (parts_together function h us more)
    ∙ same_merge function (column_tree function vs) (column_tree function (all_in (us ∷ more)))
    ∙ merge_columns function vs (all_in (us ∷ more))

-- the columns of joined rows
seen_flat : (columns : Option (List ℕ)) (lists : List Rows) → flat_map (seen_in columns) lists ≡ seen_in columns (all_in lists)
seen_flat None lists = refl
seen_flat (Some fields) lists = sym (map-flat_map (pick fields) (λ rows. rows) lists)

looked_flat : (function : Function) (columns : Option (List ℕ)) (lists : List Rows)
    → all_in (map (λ rows. map (looked_at function) (seen_in columns rows)) lists) ≡ map (looked_at function) (seen_in columns (all_in lists))
looked_flat function columns lists =
    flat_map-map (λ vs. vs) (λ rows. map (looked_at function) (seen_in columns rows)) lists
    ∙ sym (map-flat_map (looked_at function) (seen_in columns) lists)
    ∙ ap (map (looked_at function)) (seen_flat columns lists)

part_flat : (function : Function) → is_algebraic function ≡ true → (columns : Option (List ℕ)) (rows : Rows) (more : List Rows)
    → column_tree (merging function) (map (part_tree function columns) (rows ∷ more)) ≡ part_tree function columns (all_in (rows ∷ more))
part_flat function h columns rows more =
    ap (column_tree (merging function)) (sym (map-map (column_tree function) (λ rs. map (looked_at function) (seen_in columns rs)) (rows ∷ more)))
    ∙ parts_together function h (map (looked_at function) (seen_in columns rows)) (map (λ rs. map (looked_at function) (seen_in columns rs)) more)
    ∙ ap (column_tree function) (looked_flat function columns (rows ∷ more))

-- ---- what an item is on a key and a bag

-- an expression is made of the key alone, or is the part of the bag's rows
abbrev Gives : Typed → TypedCut → Type 0
Gives e (c_key k) = (key bag : Tree) → ev e (key ∷ bag ∷ []) [] ≡ ev k (key ∷ []) []
Gives e (c_part function columns) = (is_algebraic function ≡ true) × ((key : Tree) (rows : Rows) → ev e (key ∷ bag_tree rows ∷ []) [] ≡ part_tree function columns rows)
Gives e c_row = ⊥

abbrev MayGive : Typed → Option TypedCut → Type 0
MayGive e None = ⊤
MayGive e (Some c) = Gives e c

field_is : (n m : ℕ) → (n == m) ≡ true → n ≡ m
field_is n m h = grind (arith, nat_tests)

of_key : (e : Typed) → is_of_field 0 e ≡ true → Gives e (c_key e)
of_key (x_field n) h key bag =
    let zero_is : n ≡ 0 = field_is n 0 h in
    ap (λ m. at m (key ∷ bag ∷ [])) zero_is ∙ ap (λ m. at m (key ∷ [])) (sym zero_is)
of_key (x_project (x_field n) fields single) h key bag =
    let zero_is : n ≡ 0 = field_is n 0 h in
    ap (λ m. project_tree fields single (at m (key ∷ bag ∷ []))) zero_is ∙ ap (λ m. project_tree fields single (at m (key ∷ []))) (sym zero_is)
of_key e h key bag = absurd (true≢false (sym h))

-- a projection of the bag of rows is the bag of the projected rows
projected : (function : Function) → is_algebraic function ≡ true → (fields : List ℕ) (rows : Rows)
    → apply_tree function (bag_tree (map (pick fields) (bag_of rows)) ∷ []) ≡ part_tree function (Some fields) rows
projected function h fields rows =
    value_is function h (map (pick fields) (bag_of rows))
    ∙ column_permuted function (looked_at function) (map (pick fields) (bag_of rows)) (map (pick fields) rows)
    (IsPermutation-map (pick fields) (bag_of rows) rows (IsPermutation-sym rows (bag_of rows) (sort_permutes row_cmp rows)))

of_bag : (function : Function) → is_algebraic function ≡ true → (bag : Typed) → MayGive (x_call function (more_args bag no_args)) (cut_of_bag function bag)
of_bag function h (x_field n) = either_way (n == 1)
    (λ e. subst (λ b. MayGive (x_call function (more_args (x_field n) no_args)) (cond b (Some (c_part function None)) None)) (sym e)
    (h, λ key rows. ap (λ m. apply_tree function (at m (key ∷ bag_tree rows ∷ []) ∷ [])) (field_is n 1 e) ∙ value_is function h rows))
    (λ e. subst (λ b. MayGive (x_call function (more_args (x_field n) no_args)) (cond b (Some (c_part function None)) None)) (sym e) tt)
of_bag function h (x_project (x_field n) fields single) = either_way (n == 1)
    (λ e. subst (λ b. MayGive (x_call function (more_args (x_project (x_field n) fields single) no_args)) (cond b (Some (c_part function (Some fields))) None)) (sym e) (
      h,
      λ key rows.
          ap (λ m. apply_tree function (project_tree fields single (at m (key ∷ bag_tree rows ∷ [])) ∷ [])) (field_is n 1 e)
          ∙ ap (λ rs. apply_tree function (bag_tree (map (pick fields) rs) ∷ [])) (tuples_back (bag_of rows))
          ∙ projected function h fields rows,
    ))
    (λ e. subst (λ b. MayGive (x_call function (more_args (x_project (x_field n) fields single) no_args)) (cond b (Some (c_part function (Some fields))) None)) (sym e) tt)
of_bag function h bag = tt

of_part : (e : Typed) → MayGive e (part_cut e)
of_part (x_call function (more_args bag no_args)) = either_way (is_algebraic function)
    (λ e. subst (λ b. MayGive (x_call function (more_args bag no_args)) (cond b (cut_of_bag function bag) None)) (sym e) (of_bag function e bag))
    (λ e. subst (λ b. MayGive (x_call function (more_args bag no_args)) (cond b (cut_of_bag function bag) None)) (sym e) tt)
of_part e = tt

-- an item with its cut
abbrev IsMade : TypedItem → TypedCut → Type 0
IsMade item c = (item.flatten ≡ false) × Gives item.value c

abbrev MayBeMade : TypedItem → Option TypedCut → Type 0
MayBeMade item None = ⊤
MayBeMade item (Some c) = IsMade item c

plain : (item : TypedItem) → item.flatten ≡ false → (o : Option TypedCut) → MayGive item.value o → MayBeMade item o
plain item h None k = tt
plain item h (Some c) k = (h, k)

of_item : (item : TypedItem) → MayBeMade item (cut_of item)
of_item item = either_way item.flatten
    (λ e. subst (λ b. MayBeMade item (cond b None (cond (is_of_field 0 item.value) (Some (c_key item.value)) (part_cut item.value)))) (sym e) tt)
    (λ e. subst (λ b. MayBeMade item (cond b None (cond (is_of_field 0 item.value) (Some (c_key item.value)) (part_cut item.value)))) (sym e)
    (either_way (is_of_field 0 item.value)
    (λ k. subst (λ b. MayBeMade item (cond b (Some (c_key item.value)) (part_cut item.value))) (sym k) (e, of_key item.value k))
    (λ k. subst (λ b. MayBeMade item (cond b (Some (c_key item.value)) (part_cut item.value))) (sym k) (plain item e (part_cut item.value) (of_part item.value)))))

abbrev AreMade : List TypedItem → Option (List TypedCut) → Type 0
AreMade items None = ⊤
AreMade items (Some cuts) = Each IsMade items cuts

one_more : (item : TypedItem) (items : List TypedItem) (o : Option TypedCut) (os : Option (List TypedCut))
    → MayBeMade item o → AreMade items os → AreMade (item ∷ items) (option_and_then (λ c. option_map (λ cs. c ∷ cs) os) o)
one_more item items None os h k = tt
one_more item items (Some c) None h k = tt
one_more item items (Some c) (Some cs) h k = (h, k)

of_items : (items : List TypedItem) → AreMade items (all_of cut_of items)
of_items [] = tt
of_items (item ∷ items) = one_more item items (cut_of item) (all_of cut_of items) (of_item item) (of_items items)

-- ---- the row of a key

-- the values of items
abbrev values : List TypedItem → List Tree → List Tree
values items row = map (λ item. ev item.value row []) items

-- items without FLATTEN give one row
one_row : (items : List TypedItem) (cuts : List TypedCut) → Each IsMade items cuts → (row : List Tree)
    → product (map (λ item. item_lists item row []) items) ≡ values items row ∷ []
one_row [] [] h row = refl
one_row [] (c ∷ cuts) h row = absurd h
one_row (item ∷ items) [] h row = absurd h
one_row (item ∷ items) (c ∷ cuts) h row =
    ap (λ b. joined (cond b (Rattle.pig_typed.specs.Blocks.flattened item.width (ev item.value row [])) ((ev item.value row [] ∷ []) ∷ [])) (product (map (λ other. item_lists other row []) items))) h.0.0
    ∙ ap (joined ((ev item.value row [] ∷ []) ∷ [])) (one_row items cuts h.1 row)

finishes : (items : List TypedItem) (cuts : List TypedCut) → Each IsMade items cuts → (key : Tree) (rows : Rows) (more : List Rows)
    → finished cuts key (map (parts_by cuts key) (rows ∷ more)) ≡ values items (key ∷ bag_tree (all_in (rows ∷ more)) ∷ [])
finishes [] [] h key rows more = refl
finishes [] (c ∷ cuts) h key rows more = absurd h
finishes (item ∷ items) [] h key rows more = absurd h
finishes (item ∷ items) (c_key k ∷ cuts) h key rows more =
    λ i. sym (h.0.1 key (bag_tree (all_in (rows ∷ more)))) i ∷ finishes items cuts h.1 key rows more i
finishes (item ∷ items) (c_row ∷ cuts) h key rows more = absurd h.0.1
finishes (item ∷ items) (c_part function columns ∷ cuts) h key rows more =
    let lists : List Rows = rows ∷ more in
    let first : map (at 0) (map (parts_by (c_part function columns ∷ cuts) key) lists) ≡ map (part_tree function columns) lists =
    map-map (at 0) (parts_by (c_part function columns ∷ cuts) key) lists in
    let others : map (drop 1) (map (parts_by (c_part function columns ∷ cuts) key) lists) ≡ map (parts_by cuts key) lists =
    map-map (drop 1) (parts_by (c_part function columns ∷ cuts) key) lists in
    λ i.
    (ap (column_tree (merging function)) first ∙ part_flat function h.0.1.0 columns rows more ∙ sym (h.0.1.1 key (all_in lists))) i
    ∷ (ap (finished cuts key) others ∙ finishes items cuts h.1 key rows more) i

-- a block with cuts has no step
no_step : (steps : List TypedStep) (items : List TypedItem) (cuts : List TypedCut) → cuts_after steps items ≡ Some cuts
    → (row : List Tree) → steps_values steps row [] ≡ []
no_step [] items cuts h row = refl
no_step (step ∷ steps) items cuts h row = absurd (subst MustBeNone h tt)
  where
    MustBeNone : Option (List TypedCut) → Type 0
    MustBeNone None = ⊤
    MustBeNone (Some cs) = ⊥

made_all : (steps : List TypedStep) (items : List TypedItem) → AreMade items (cuts_after steps items)
made_all [] items = of_items items
made_all (step ∷ steps) items = tt

pub finishes_row : PartsFinishToTheRow
finishes_row block cuts h key rows more =
    let made : Each IsMade block.items cuts = subst (AreMade block.items) h (made_all block.steps block.items) in
    let row : List Tree = key ∷ bag_tree (all_in (rows ∷ more)) ∷ [] in
    ap (λ locals. product (map (λ item. item_lists item row locals) block.items)) (no_step block.steps block.items cuts h row)
    ∙ one_row block.items cuts made row
    ∙ ap (λ values. values ∷ []) (sym (finishes block.items cuts made key rows more))
