-- What each typed operator gives over tables of aliases: rows of the kinds of its columns, each of which has inside it what is of its
-- kind.
use Rattle.std.proofs.Common.{◌≡◌, ◌∙◌, ℕ, List, [], ◌∷◌, ◌++◌, map, refl, sym, ap, subst, true}
use Rattle.std.specs.Prelude.{Option, Some, not}
use Rattle.std.specs.List.{AllByRecursion, flat_map, list_all}
use Rattle.pig_value.specs.Trees.{KindTree, kinds_of, k_bag}
use Rattle.pig_value.specs.declared.operators.Side.{Side}
use Rattle.pig_schema.specs.FieldTrees.{FieldTree, tree_kind, inner_of, AreInner, IsColumn}
use Rattle.pig_syntax.specs.declared.trees.JoinInput.{JoinInput}
use Rattle.pig_plan.specs.NodeKinds.{Before, keyed_bags, group_kind, node_gives}
use Rattle.pig_typing.specs.Columns.{AreColumns}
use Rattle.pig_typing.specs.Parts.{under_name}
use Rattle.pig_relations.specs.Aliases.{Aliases, IsTable}
use Rattle.pig_relations.specs.Keyed.{KeyedForm, TypedInput, Keyable, join_form, key_columns, keyed, types_input, TypesInputs, no_inputs, more_inputs, TypesKeyed, types_keyed}
use Rattle.pig_relations.specs.Operators.{TypedOp, Groups, groups, GroupsAll, groups_all, Joins, joins, bag_column, columns_under, cube_columns, group_column, group_columns, group_op, join_columns, join_op}
use Rattle.pig_relations.specs.Together.{of_kinds}
use Rattle.pig_relations.proofs.KeyedHold.{KeyedHold, HoldsColumns, given, inputs_count, keyed_hold, row_of}
use Rattle.pig_relations.proofs.TogetherHolds.{columns_given, kinds_given}

-- ---- columns of inputs

inner_all : (cs : List FieldTree) → AreColumns cs → AreInner (kinds_of (map tree_kind cs)) (inner_of cs)
inner_all [] h = refl
inner_all (c ∷ cs) h = (refl, h.0, inner_all cs h.1)

bags_kinds : (ks : List KindTree) (ts : List TypedInput) → keyed_bags (map (given ks) ts) ≡ map tree_kind (map (λ t. bag_column t.alias t.relation.columns) ts)
bags_kinds ks [] = refl
bags_kinds ks (t ∷ ts) = ap (λ more. k_bag (kinds_of (row_of t.relation)) ∷ more) (bags_kinds ks ts)

bags_are : (ts : List TypedInput) → AllByRecursion HoldsColumns ts → AreColumns (map (λ t. bag_column t.alias t.relation.columns) ts)
bags_are [] h = tt
bags_are (t ∷ ts) h = (inner_all t.relation.columns h.0.0, bags_are ts h.1)

-- ---- GROUP and COGROUP

group_column_kind : (cs : List FieldTree) → tree_kind (group_column cs) ≡ group_kind (map tree_kind cs)
group_column_kind [] = refl
group_column_kind (c ∷ []) = refl
group_column_kind (c ∷ d ∷ cs) = refl

group_column_is : (cs : List FieldTree) → AreColumns cs → IsColumn (group_column cs)
group_column_is [] h = refl
group_column_is (c ∷ []) h = h.0
group_column_is (c ∷ d ∷ cs) h = inner_all (c ∷ d ∷ cs) h

both : (k l : KindTree) (ks ls : List KindTree) → k ≡ l → ks ≡ ls → k ∷ ks ≡ l ∷ ls
both k l ks ls e w = cc

keyed_group : (before : Before) (ts : List TypedInput) (ks : List KindTree) (k : Keyable) → k ≡ record { inputs = ts; kinds = ks } → KeyedHold before k
    → (node_gives before (group_op k) ≡ Some (Some (map tree_kind (group_columns k)))) × AreColumns (group_columns k)
keyed_group before [] ks k e h = let none = subst (KeyedHold before) e h in let is = none.kinds in absurd (cc)
keyed_group before (t ∷ ts) ks k e h =
    let at : record { inputs = t ∷ ts; kinds = ks } ≡ k = sym e in
    subst (λ k. (node_gives before (group_op k) ≡ Some (Some (map tree_kind (group_columns k)))) × AreColumns (group_columns k)) at (gives (subst (KeyedHold before) e h))
  where
    gives : KeyedHold before (record { inputs = t ∷ ts; kinds = ks })
        → (node_gives before (group_op (record { inputs = t ∷ ts; kinds = ks })) ≡ Some (Some (map tree_kind (group_columns (record { inputs = t ∷ ts; kinds = ks })))))
        × AreColumns (group_columns (record { inputs = t ∷ ts; kinds = ks }))
    gives w =
        let fit = w.fit.0 in
        let columns = key_columns t in
        let first : group_kind ks ≡ tree_kind (group_column (of_kinds ks columns)) = ap group_kind (sym (kinds_given columns ks fit)) ∙ sym (group_column_kind (of_kinds ks columns)) in
        let bags = bags_kinds ks (t ∷ ts) in
        (rw (w.kinds) (ap (λ row. Some (Some row)) (both _ _ _ _ first bags)), (group_column_is (of_kinds ks columns) (columns_given columns ks fit w.columns.0.1), bags_are (t ∷ ts) w.columns))

pub group_gives : (before : Before) (aliases : Aliases) (is : List KeyedForm) (hint : Option (List ℕ)) (t : TypedOp) → IsTable before aliases → Groups aliases is hint t
    → (node_gives before t.op ≡ Some (Some (map tree_kind t.columns))) × AreColumns t.columns
group_gives before aliases is hint t table (groups {k = k} h e) = keyed_group before k.inputs k.kinds k refl (keyed_hold before aliases is k table h)

-- ---- CUBE

pub cube_kinds : (dims row : List FieldTree) → map tree_kind (cube_columns dims row) ≡ group_kind (map tree_kind dims) ∷ k_bag (kinds_of (map tree_kind row)) ∷ []
cube_kinds dims row = ap (λ k. k ∷ k_bag (kinds_of (map tree_kind row)) ∷ []) (group_column_kind dims)

pub cube_are : (dims row : List FieldTree) → AreColumns dims → AreColumns row → AreColumns (cube_columns dims row)
cube_are dims row h g = (group_column_is dims h, (inner_all row g, tt))

-- ---- GROUP ALL

pub group_all_gives : (before : Before) (aliases : Aliases) (alias : List ℕ) (hint : Option (List ℕ)) (t : TypedOp) → IsTable before aliases → GroupsAll aliases alias hint t
    → (node_gives before t.op ≡ Some (Some (map tree_kind t.columns))) × AreColumns t.columns
group_all_gives before aliases alias hint t table (groups_all {r = r} h e) =
    let is = table alias r h in
    (rw (is.rows) refl, (refl, (inner_all r.columns is.columns, tt)))

-- ---- JOIN

under_kinds : (alias : List ℕ) (cs : List FieldTree) → map tree_kind (map (under_name (Some alias)) cs) ≡ map tree_kind cs
under_kinds alias [] = refl
under_kinds alias (c ∷ cs) = ap (λ more. tree_kind c ∷ more) (under_kinds alias cs)

under_are : (alias : List ℕ) (cs : List FieldTree) → AreColumns cs → AreColumns (map (under_name (Some alias)) cs)
under_are alias [] h = tt
under_are alias (c ∷ cs) h = (h.0, under_are alias cs h.1)

kinds_append : (cs ds : List FieldTree) → map tree_kind (cs ++ ds) ≡ map tree_kind cs ++ map tree_kind ds
kinds_append [] ds = refl
kinds_append (c ∷ cs) ds = ap (λ more. tree_kind c ∷ more) (kinds_append cs ds)

pub columns_append : (cs ds : List FieldTree) → AreColumns cs → AreColumns ds → AreColumns (cs ++ ds)
columns_append [] ds h g = g
columns_append (c ∷ cs) ds h g = (h.0, columns_append cs ds h.1 g)

rows_joined : (ks : List KindTree) (ts : List TypedInput) → flat_map (λ input. input.row) (map (given ks) ts) ≡ map tree_kind (flat_map columns_under ts)
rows_joined ks [] = refl
rows_joined ks (t ∷ ts) =
    let first = sym (under_kinds t.alias t.relation.columns) in
    let rest = rows_joined ks ts in
    ap (λ row. row ++ flat_map (λ input. input.row) (map (given ks) ts)) first
    ∙ ap (λ more. map tree_kind (columns_under t) ++ more) rest
    ∙ sym (kinds_append (columns_under t) (flat_map columns_under ts))

joined_are : (ts : List TypedInput) → AllByRecursion HoldsColumns ts → AreColumns (flat_map columns_under ts)
joined_are [] h = tt
joined_are (t ∷ ts) h = columns_append (columns_under t) (flat_map columns_under ts) (under_are t.alias t.relation.columns h.0.0) (joined_are ts h.1)

-- no input of a JOIN is INNER
never_inner : (aliases : Aliases) (inputs : List JoinInput) (ts : List TypedInput) (ks : List KindTree) → TypesInputs aliases (map join_form inputs) ts
    → list_all (λ input. not input.inner) (map (keyed ks) ts) ≡ true
never_inner aliases [] ts ks no_inputs = refl
never_inner aliases (i ∷ inputs) ts ks (more_inputs {ts = more} (types_input e h) g) = never_inner aliases inputs more ks g

pub join_gives : (before : Before) (aliases : Aliases) (inputs : List JoinInput) (side : Side) (hint : Option (List ℕ)) (t : TypedOp) → IsTable before aliases
    → Joins aliases (map join_form inputs) side hint t → (node_gives before t.op ≡ Some (Some (map tree_kind t.columns))) × AreColumns t.columns
join_gives before aliases inputs side hint t table (joins {replicated = replicated} {k = k} j two h e) =
    let w = keyed_hold before aliases (map join_form inputs) k table h in
    by k h w
  where
    by : (k : Keyable) → TypesKeyed aliases (map join_form inputs) k → KeyedHold before k
        → (node_gives before (join_op side replicated k) ≡ Some (Some (map tree_kind (join_columns k)))) × AreColumns (join_columns k)
    by k (types_keyed {ts = ts} {ks = ks} g u) w =
        (rw (w.kinds, inputs_count aliases (map join_form inputs) ts ks g, two, never_inner aliases inputs ts ks g) (ap (λ row. Some (Some row)) (rows_joined ks ts)), joined_are ts w.columns)
