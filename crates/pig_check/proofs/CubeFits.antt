-- The FOREACH and the GROUP of a CUBE fit in turn, and the GROUP gives rows of the kinds of the statement's columns.
use Rattle.std.proofs.Common.{◌≡◌, ◌∙◌, ◌+◌, ◌<◌, ◌≤◌, ◌++◌, ℕ, zero, suc, Bool, true, false, List, [], ◌∷◌, map, length, refl, sym, ap, subst, arith}
use Rattle.std.specs.Prelude.{◌||◌, ◌==◌, not, Option, Some, None, cond, if◌then◌else◌, nat_lt, replicate, slice_get}
use Rattle.std.specs.List.{AllByRecursion, cons_option, filter, filter_map, range_with_len}
use Rattle.std.specs.Option.{option_map}
use Rattle.std.specs.declared.result.Result.TheVariants.{Ok, Err}
use Rattle.std.proofs.lemmas.Bool.{eqb-true, leb-true, ltb-false, ne_eqb, or_parts}
use Rattle.std.proofs.lemmas.List.{length-append, length-map, map-append}
use Rattle.std.proofs.lemmas.Option.{slice_get-get_or, slice_get-map, slice_get_within}
use Rattle.pig_value.specs.Kinds.{width_of}
use Rattle.pig_value.specs.Trees.{KindTree, k_bag, k_chars, k_tuple, kinds_list, kinds_of, more_kinds, no_kinds}
use Rattle.pig_value.proofs.TreeLaws.{kinds_back}
use Rattle.pig_schema.specs.FieldTrees.{FieldTree, IsColumn, a_field, no_inner, tree_kind}
use Rattle.pig_syntax.specs.declared.trees.FieldRef.{FieldRef}
use Rattle.pig_plan.specs.NodeKinds.{RowKinds, group_kind, kinds_at, node_gives}
use Rattle.pig_plan.specs.Plans.{Plan, PlanOp}
use Rattle.pig_typing.specs.declared.faults.CheckKind.TheVariants as kind
use Rattle.pig_typing.specs.Columns.{AreColumns, RefersTo}
use Rattle.pig_typing.specs.declared.limits.TheConstants.{MOST_KINDS}
use Rattle.pig_typing.specs.Limits.{any_too_many_fields, is_deep_row, is_wide_row, limited_row, row_kind, too_many, too_many_fields}
use Rattle.pig_typing.proofs.Inside.{meant_kind}
use Rattle.pig_relations.specs.Aliases.{Aliases, IsRelation, IsTable, RelationTree}
use Rattle.pig_relations.specs.Operators.{cube_columns, group_column}
use Rattle.pig_relations.proofs.Gives.{columns_append, cube_are, cube_kinds as columns_kinds}
use Rattle.pig_cube.specs.Dimensions.{AreDimensions, AreDistinct, is_in, other_positions}
use Rattle.pig_cube.specs.Expanding.{expanded_kinds}
use Rattle.pig_cube.specs.Laws.{cube_foreach, cube_group, cube_kinds}
use Rattle.pig_cube.proofs.Fits.{foreach_kinds, foreach_writes_none, group_kinds_are, group_writes_none}
use Rattle.pig_check.specs.Cubes.{Cubes, FieldsAre, TypedCube, are_dims, columns_at, cube_of, cubed, cubes, expanded_columns, is_text, more_fields, no_fields, repeats, typed_cube}
use Rattle.pig_check.specs.States.{AllFit, node_of_statement}
use Rattle.pig_check.proofs.CubesTold.{IsCubeTold, cube_told}
use Rattle.pig_check.proofs.Grown.{MayAdd, behind_all, it_fits, last_gives, never_twins}

-- ---- columns at positions

each_kind : (o : Option FieldTree) (cs : List FieldTree) → map tree_kind (cons_option o cs) ≡ cons_option (option_map tree_kind o) (map tree_kind cs)
each_kind None cs = refl
each_kind (Some c) cs = refl

kinds_of_columns : (columns : List FieldTree) (ns : List ℕ) → map tree_kind (columns_at columns ns) ≡ filter_map (slice_get (map tree_kind columns)) ns
kinds_of_columns columns [] = refl
kinds_of_columns columns (n ∷ ns) =
    each_kind (slice_get columns n) (columns_at columns ns)
    ∙ (λ i. cons_option (sym (slice_get-map tree_kind columns n) i) (kinds_of_columns columns ns i))

here_is : (columns : List FieldTree) (n : ℕ) (c : FieldTree) → AreColumns columns → slice_get columns n ≡ Some c → IsColumn c
here_is [] n c h e = absurd (cc)
here_is (d ∷ columns) zero c h e = let at : d ≡ c = cc in subst IsColumn at h.0
here_is (d ∷ columns) (suc n) c h e = here_is columns n c h.1 e

columns_are : (columns : List FieldTree) (ns : List ℕ) → AreColumns columns → AreColumns (columns_at columns ns)
columns_are columns [] h = tt
columns_are columns (n ∷ ns) h = by (slice_get columns n) refl (columns_are columns ns h)
  where
    by : (o : Option FieldTree) → slice_get columns n ≡ o → AreColumns (columns_at columns ns) → AreColumns (cons_option o (columns_at columns ns))
    by None e later = later
    by (Some c) e later = (here_is columns n c h e, later)

-- ---- the dimensions

refers_at : {columns : List FieldTree} {r : FieldRef} {n : ℕ} {c : FieldTree} → RefersTo columns r n c → slice_get columns n ≡ Some c
refers_at (RefersTo.by_name m e) = e
refers_at (RefersTo.by_position e) = e

text_is : (k : KindTree) → is_text k ≡ true → k ≡ k_chars
text_is k_chars e = refl
text_is k e = absurd (cc)

texts_there : {columns : List FieldTree} {dims : List FieldRef} {ns : List ℕ} → FieldsAre columns dims ns → AllByRecursion (λ p. slice_get (map tree_kind columns) p ≡ Some k_chars) ns
texts_there no_fields = tt
texts_there (more_fields {c = c} m e g) = (meant_kind m ∙ ap Some (text_is (tree_kind c) e), texts_there g)

text_kinds : {columns : List FieldTree} {dims : List FieldRef} {ns : List ℕ} → FieldsAre columns dims ns → map tree_kind (columns_at columns ns) ≡ replicate (length ns) k_chars
text_kinds no_fields = refl
text_kinds (more_fields {c = c} m e g) = rw (refers_at m) (λ i. text_is (tree_kind c) e i ∷ text_kinds g i)

fields_within : {columns : List FieldTree} {dims : List FieldRef} {ns : List ℕ} → FieldsAre columns dims ns → AllByRecursion (λ p. p < length columns) ns
fields_within no_fields = tt
fields_within {columns = columns} (more_fields {n = n} {c = c} m e g) = (slice_get_within columns n c (refers_at m), fields_within g)

as_many : {columns : List FieldTree} {dims : List FieldRef} {ns : List ℕ} → FieldsAre columns dims ns → length ns ≡ length dims
as_many no_fields = refl
as_many (more_fields m e g) = ap suc (as_many g)

each_once : (ns : List ℕ) → repeats ns ≡ false → AreDistinct ns
each_once [] e = tt
each_once (n ∷ ns) e = let parts = or_parts (is_in ns n) (repeats ns) e in (parts.0, each_once ns parts.1)

-- ---- the rows that the FOREACH makes are as wide as those that it takes

-- those of the numbers that are none of these
abbrev beside : List ℕ → List ℕ → List ℕ
beside ns = filter (λ p. not (is_in ns p))

above_none : (n : ℕ) (ns : List ℕ) (at count : ℕ) → n < at → beside (n ∷ ns) (range_with_len at count) ≡ beside ns (range_with_len at count)
above_none n ns at zero h = refl
above_none n ns at (suc count) h =
    rw (ne_eqb n at (λ e. omega (arith, e, h))) (ap (λ l. cond (not (is_in ns at)) (at ∷ l) l) (above_none n ns (at + 1) count (omega (arith, h))))

one_fewer : (n : ℕ) (ns : List ℕ) (at count : ℕ) → length (beside ns (range_with_len at count)) ≤ length (beside (n ∷ ns) (range_with_len at count)) + 1
one_fewer n ns at zero = omega (arith)
one_fewer n ns at (suc count) =
    by (n == at) refl (is_in ns at) (one_fewer n ns (at + 1) count) (λ e. ap length (above_none n ns (at + 1) count (omega (arith, e))))
  where
    by : (same : Bool) → (n == at) ≡ same → (b : Bool)
        → length (beside ns (range_with_len (at + 1) count)) ≤ length (beside (n ∷ ns) (range_with_len (at + 1) count)) + 1
        → (n ≡ at → length (beside (n ∷ ns) (range_with_len (at + 1) count)) ≡ length (beside ns (range_with_len (at + 1) count)))
        → length (cond (not b) (at ∷ beside ns (range_with_len (at + 1) count)) (beside ns (range_with_len (at + 1) count)))
        ≤ length (cond (not (same || b)) (at ∷ beside (n ∷ ns) (range_with_len (at + 1) count)) (beside (n ∷ ns) (range_with_len (at + 1) count))) + 1
    by false e false h same = omega (arith, h)
    by false e true h same = h
    by true e true h same = h
    by true e false h same = let equal = same (eqb-true n at e) in omega (arith, equal)

none_fewer : (at count : ℕ) → length (beside [] (range_with_len at count)) ≡ count
none_fewer at zero = refl
none_fewer at (suc count) = ap suc (none_fewer (at + 1) count)

all_counted : (ns : List ℕ) (at count : ℕ) → count ≤ length (beside ns (range_with_len at count)) + length ns
all_counted [] at count = let e = none_fewer at count in omega (arith, e)
all_counted (n ∷ ns) at count =
    let fewer : length (beside ns (range_with_len at count)) ≤ length (beside (n ∷ ns) (range_with_len at count)) + 1 = one_fewer n ns at count in
    let others : count ≤ length (beside ns (range_with_len at count)) + length ns = all_counted ns at count in
    omega (arith, fewer, others)

others_within : (ns : List ℕ) (at count : ℕ) → AllByRecursion (λ p. p < at + count) (beside ns (range_with_len at count))
others_within ns at zero = tt
others_within ns at (suc count) =
    by (is_in ns at) (let same : (at + 1) + count ≡ at + suc count = omega (arith) in subst (λ m. AllByRecursion (λ p. p < m) (beside ns (range_with_len (at + 1) count))) same (others_within ns (at + 1) count))
  where
    by : (b : Bool) → AllByRecursion (λ p. p < at + suc count) (beside ns (range_with_len (at + 1) count))
        → AllByRecursion (λ p. p < at + suc count) (cond (not b) (at ∷ beside ns (range_with_len (at + 1) count)) (beside ns (range_with_len (at + 1) count)))
    by true h = h
    by false h = (omega (arith), h)

each_there : (columns : List FieldTree) (ns : List ℕ) → AllByRecursion (λ p. p < length columns) ns → length (columns_at columns ns) ≡ length ns
each_there columns [] h = refl
each_there columns (n ∷ ns) h = rw (slice_get-get_or columns n (a_field None k_chars no_inner) h.0) (ap suc (each_there columns ns h.1))

add_up : (width n k a b both : ℕ) → both ≡ a + b → a ≡ n → b ≡ k → width ≤ k + n → width ≤ both
add_up width n k a b both e f g h = omega (arith, e, f, g, h)

as_wide : (columns : List FieldTree) (ns : List ℕ) → AllByRecursion (λ p. p < length columns) ns → length columns ≤ length (expanded_columns columns ns)
as_wide columns ns h =
    let width = length columns in
    let same : 0 + width ≡ width = omega (arith) in
    add_up width (length ns) (length (other_positions ns width)) _ _ _
    (length-append (columns_at columns ns) (columns_at columns (other_positions ns width))) (each_there columns ns h)
    (each_there columns (other_positions ns width) (subst (λ m. AllByRecursion (λ p. p < m) (beside ns (range_with_len 0 width))) same (others_within ns 0 width)))
    (all_counted ns 0 width)

not_wide : (b c : Bool) (columns kept : List FieldTree) → (if b then Err kind.TooWide else if c then Err kind.TooDeep else Ok columns) ≡ Ok kept → b ≡ false
not_wide false c columns kept e = refl
not_wide true c columns kept e = absurd (cc)

at_most : (n m : ℕ) → nat_lt 512 n ≡ false → n ≡ m → m ≤ 512
at_most n m e same = let most : n ≤ 512 = ltb-false 512 n e in omega (arith, most, same)

narrow_bag : (ds row kept : List FieldTree) → limited_row (cube_columns ds row) ≡ Ok kept → length row ≤ 512
unfolding limited_row
narrow_bag ds row kept e =
    let columns = cube_columns ds row in
    let key = tree_kind (group_column ds) in
    let fields = kinds_of (map tree_kind row) in
    let all = more_kinds key (more_kinds (k_bag fields) no_kinds) in
    let wide = not_wide (is_wide_row (row_kind columns)) (is_deep_row (row_kind columns)) columns kept e in
    let within = (or_parts (too_many_fields (k_tuple all)) (nat_lt (MOST_KINDS + 1) (width_of (k_tuple all))) wide).0 in
    let inside = (or_parts (too_many all) (any_too_many_fields all) within).1 in
    let behind = (or_parts (too_many_fields key) (any_too_many_fields (more_kinds (k_bag fields) no_kinds)) inside).1 in
    let bag = (or_parts (too_many_fields (k_bag fields)) (any_too_many_fields no_kinds) behind).0 in
    let few = (or_parts (too_many fields) (any_too_many_fields fields) bag).0 in
    at_most (length (kinds_list fields)) (length row) few (ap length (kinds_back (map tree_kind row)) ∙ length-map row tree_kind)

dimensions_are : {known : Aliases} {from : List ℕ} {dims : List FieldRef} {t : TypedCube} → Cubes known from dims t → AreDimensions t.dims t.width
dimensions_are (cubes {dims = dims} {r = r} {within = kept} e (are_dims {n = n} {ns = ns} fits fields apart) w) =
    let most : length dims ≤ 8 = leb-true (length dims) 8 fits in
    let many : length (n ∷ ns) ≡ length dims = as_many fields in
    let wide : length r.columns ≤ length (expanded_columns r.columns (n ∷ ns)) = as_wide r.columns (n ∷ ns) (fields_within fields) in
    let small : length (expanded_columns r.columns (n ∷ ns)) ≤ 512 = narrow_bag (columns_at r.columns (n ∷ ns)) (expanded_columns r.columns (n ∷ ns)) kept w in
    record {
      one = omega (arith);
      few = omega (arith, most, many);
      within = fields_within fields;
      distinct = each_once (n ∷ ns) apart;
      narrow = omega (arith, wide, small);
    }

-- so they are where the code tells a typing
pub dimensions_told : (known : Aliases) (from : List ℕ) (dims : List FieldRef) (t : TypedCube) → cube_of known from dims ≡ Ok t → AreDimensions t.dims t.width
dimensions_told known from dims t e = dimensions_are (subst (IsCubeTold known from dims) e (cube_told known from dims))

-- ---- the kinds of both nodes

expanded_are : {columns : List FieldTree} {dims : List FieldRef} {ns : List ℕ} → FieldsAre columns dims ns → map tree_kind (expanded_columns columns ns) ≡ expanded_kinds ns (map tree_kind columns)
expanded_are {columns = columns} {ns = ns} fields =
    map-append tree_kind (columns_at columns ns) (columns_at columns (other_positions ns (length columns)))
    ∙ (λ i. text_kinds fields i ++ kinds_of_columns columns (other_positions ns (length columns)) i)
    ∙ ap (λ width. replicate (length ns) k_chars ++ filter_map (slice_get (map tree_kind columns)) (other_positions ns width)) (sym (length-map columns tree_kind))

cube_of_kinds : {columns : List FieldTree} {dims : List FieldRef} {ns : List ℕ} → FieldsAre columns dims ns
    → cube_kinds ns (map tree_kind columns) ≡ map tree_kind (cube_columns (columns_at columns ns) (expanded_columns columns ns))
cube_of_kinds {columns = columns} {ns = ns} fields =
    (λ i. group_kind (sym (text_kinds fields) i) ∷ k_bag (kinds_of (sym (expanded_are fields) i)) ∷ [])
    ∙ sym (columns_kinds (columns_at columns ns) (expanded_columns columns ns))

-- ---- both nodes

module _ (statement : ℕ) (p : Plan) (r : RelationTree) (is : IsRelation (kinds_at p) r) (rollup : Bool) where
  module _ (dims : List FieldRef) (n : ℕ) (ns : List ℕ) (fields : FieldsAre r.columns dims (n ∷ ns)) where
    abbrev positions : List ℕ
    positions = n ∷ ns

    abbrev kinds : RowKinds
    kinds = map tree_kind r.columns

    abbrev given : List FieldTree
    given = (typed_cube r positions).columns

    abbrev first : PlanOp
    first = cube_foreach positions (length r.columns) rollup r.node

    abbrev second : PlanOp
    second = cube_group positions (length p)

    abbrev between : Plan
    between = p ++ node_of_statement statement first ∷ []

    first_may : MayAdd p first (Some (expanded_kinds positions kinds))
    first_may = record {
      gives = subst (λ width. node_gives (kinds_at p) (cube_foreach positions width rollup r.node) ≡ Some (Some (expanded_kinds positions kinds))) (length-map r.columns tree_kind)
          (foreach_kinds (kinds_at p) r.node positions rollup kinds (omega (arith)) (texts_there fields) is.rows);
      plain = foreach_writes_none positions (length r.columns) rollup r.node;
    }

    second_may : MayAdd between second (Some (map tree_kind given))
    second_may = record {
      gives = group_kinds_are positions kinds (omega (arith)) (kinds_at between) (length p) (last_gives p (node_of_statement statement first) (Some (expanded_kinds positions kinds)) first_may.gives)
          ∙ ap (λ row. Some (Some row)) (cube_of_kinds fields);
      plain = group_writes_none positions (length p);
    }

    nodes_fit : AllFit statement p (first ∷ second ∷ [])
    nodes_fit = (
      it_fits statement p first (Some (expanded_kinds positions kinds)) first_may (never_twins statement first (λ other. refl) p),
      (it_fits statement between second (Some (map tree_kind given)) second_may (never_twins statement second (λ other. refl) between), tt),
    )

    others_are : AreColumns (columns_at r.columns (other_positions positions (length r.columns)))
    others_are = columns_are r.columns (other_positions positions (length r.columns)) is.columns

    dims_are : AreColumns (columns_at r.columns positions)
    dims_are = columns_are r.columns positions is.columns

    relation_given : IsRelation (kinds_at (p ++ map (node_of_statement statement) (first ∷ second ∷ []))) (record { node = length p + 1; columns = given })
    relation_given = record {
      rows =
          ap (λ q. kinds_at q (length p + 1)) (sym (behind_all statement p first (second ∷ [])))
          ∙ ap (kinds_at (between ++ node_of_statement statement second ∷ [])) (sym (length-append p (node_of_statement statement first ∷ [])))
          ∙ last_gives between (node_of_statement statement second) (Some (map tree_kind given)) second_may.gives;
      columns = cube_are (columns_at r.columns positions) (expanded_columns r.columns positions) dims_are
          (columns_append (columns_at r.columns positions) (columns_at r.columns (other_positions positions (length r.columns))) dims_are others_are);
    }

-- ---- the whole

module _ (statement : ℕ) (p : Plan) (known : Aliases) (table : IsTable (kinds_at p) known) (alias : List ℕ) (rollup : Bool) where
  pub cube_fits : (from : List ℕ) (dims : List FieldRef) (t : TypedCube) → Cubes known from dims t → AllFit statement p (cubed (length p) alias rollup t).ops
  cube_fits from dims t (cubes {r = r} e (are_dims {n = n} {ns = ns} few fields apart) w) = nodes_fit statement p r (table from r e) rollup dims n ns fields

  pub cube_given : (from : List ℕ) (dims : List FieldRef) (t : TypedCube) → Cubes known from dims t
      → IsRelation (kinds_at (p ++ map (node_of_statement statement) (cubed (length p) alias rollup t).ops)) (record { node = length p + 1; columns = t.columns })
  cube_given from dims t (cubes {r = r} e (are_dims {n = n} {ns = ns} few fields apart) w) = relation_given statement p r (table from r e) rollup dims n ns fields
