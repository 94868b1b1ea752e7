-- What the readers of GROUP, COGROUP, JOIN and UNION tell holds, and what holds is found, so there is one typing, or a refusal, and
-- never both.
use Rattle.std.proofs.Common.{◌≡◌, ℕ, List, [], ◌∷◌, map, length, refl, sym, subst, Bool, true, false}
use Rattle.std.specs.Prelude.{Option, Some, None, ◌&&◌, nat_le, if◌then◌else◌}
use Rattle.std.specs.Bool.{Decides}
use Rattle.std.specs.Str.{bytes_eq}
use Rattle.std.specs.declared.result.Result.TheVariants.{Ok, Err}
use Rattle.std.proofs.lemmas.Bool.{false≢true}
use Rattle.std.proofs.lemmas.Slice.Eq.{bytes_eq-Decides}
use Rattle.pig_value.specs.declared.operators.Side.{Side}
use Rattle.pig_schema.specs.FieldTrees.{FieldTree}
use Rattle.pig_plan.specs.NodeKinds.{is_join}
use Rattle.pig_plan.specs.Plans.{PlanOp, p_group_all}
use Rattle.pig_typing.specs.declared.faults.CheckKind.{CheckKind}
use Rattle.pig_typing.specs.declared.faults.CheckKind.TheVariants as kind
use Rattle.pig_typing.specs.Limits.{limited_row}
use Rattle.pig_typing.specs.Results.{Checked, due, ◌>>=◌}
use Rattle.pig_typing.proofs.Chains.{then_told, then_is, due_is}
use Rattle.pig_typing.proofs.References.{Fails, failed, fails_first, fails_next}
use Rattle.pig_relations.specs.Aliases.{Aliases, RelationTree, relation_at, relation_of}
use Rattle.pig_relations.specs.Keyed.{KeyedForm, keyed_of}
use Rattle.pig_relations.specs.Operators.{TypedOp, Groups, GroupsNot, groups, group_using, group_untyped, group_past_limits, GroupsAll, GroupsAllNot, groups_all, group_all_using, group_all_unknown, group_all_past_limits, JoinedBy, JoinedByNot, by_default, by_replicated, other_word, other_side, Joins, JoinsNot, joins, joined_by_none, join_of_side, join_untyped, join_past_limits, group_columns, group_op, group_all_columns, join_columns, join_op, joined_by, may_replicate, replicated_word, limited_op, sided, without, group_of, group_all_of, join_of}
use Rattle.pig_relations.specs.Together.{all_together}
use Rattle.pig_relations.specs.Unions.{TypedUnion, AllMeant, AllMeantNot, none_meant, more_meant, here_unknown, later_unknown, column_kinds, Unions, UnionsNot, unions, on_schema, of_one_input, of_unknown, of_other_columns, of_two, relations_of, agreed_union, union_of}
use Rattle.pig_relations.proofs.KeyedTold.{IsKeyedTold, keyed_told, keyed_found, keyed_fails}

-- an operator past its limits, or within them
limited_told : (K : Checked TypedOp → Type 0) (op : PlanOp) (columns : List FieldTree)
    → ((within : List FieldTree) → limited_row columns ≡ Ok within → K (Ok (record { op = op; columns = columns })))
    → ((f : CheckKind) → limited_row columns ≡ Err f → K (Err f)) → K (limited_op op columns)
unfolding limited_op
limited_told K op columns fine bad = then_is K _ (limited_row columns) fine bad

limited_found : (op : PlanOp) (columns within : List FieldTree) → limited_row columns ≡ Ok within → limited_op op columns ≡ Ok (record { op = op; columns = columns })
unfolding limited_op
limited_found op columns within e = rw (e) refl

limited_fails : (op : PlanOp) (columns : List FieldTree) (f : CheckKind) → limited_row columns ≡ Err f → Fails (limited_op op columns)
unfolding limited_op
limited_fails op columns f e = rw (e) failed

-- ---- GROUP and COGROUP

abbrev pub IsGroupTold : Aliases → List KeyedForm → Option (List ℕ) → Checked TypedOp → Type 0
IsGroupTold known is hint (Ok t) = Groups known is hint t
IsGroupTold known is hint (Err f) = GroupsNot known is hint f

pub group_told : (known : Aliases) (is : List KeyedForm) (hint : Option (List ℕ)) → IsGroupTold known is hint (group_of known is hint)
unfolding group_of without
group_told known is (Some word) = group_using
group_told known is None =
    then_told (IsKeyedTold known is) (IsGroupTold known is None) _ (keyed_of known is) (keyed_told known is)
    (λ k h. limited_told (IsGroupTold known is None) (group_op k) (group_columns k) (λ within e. groups h e) (λ f e. group_past_limits h e))
    (λ f h. group_untyped h)

pub group_found : {known : Aliases} {is : List KeyedForm} {hint : Option (List ℕ)} {t : TypedOp} → Groups known is hint t → group_of known is hint ≡ Ok t
unfolding group_of without
group_found (groups {k = k} h e) = rw (keyed_found h) (limited_found (group_op k) (group_columns k) _ e)

pub group_fails : {known : Aliases} {is : List KeyedForm} {hint : Option (List ℕ)} {f : CheckKind} → GroupsNot known is hint f → Fails (group_of known is hint)
unfolding group_of without
group_fails group_using = failed
group_fails (group_untyped {hint = hint} h) = fails_next _ (without hint) (λ done. fails_first _ (keyed_fails h))
group_fails (group_past_limits {hint = hint} {k = k} h e) = fails_next _ (without hint) (λ done. rw (keyed_found h) (limited_fails (group_op k) (group_columns k) _ e))

-- ---- GROUP ALL

abbrev pub IsGroupAllTold : Aliases → List ℕ → Option (List ℕ) → Checked TypedOp → Type 0
IsGroupAllTold known alias hint (Ok t) = GroupsAll known alias hint t
IsGroupAllTold known alias hint (Err f) = GroupsAllNot known alias hint f

pub group_all_told : (known : Aliases) (alias : List ℕ) (hint : Option (List ℕ)) → IsGroupAllTold known alias hint (group_all_of known alias hint)
unfolding group_all_of without relation_of
group_all_told known alias (Some word) = group_all_using
group_all_told known alias None =
    due_is (IsGroupAllTold known alias None) _ kind.UnknownAlias (relation_at alias known)
    (λ r h. limited_told (IsGroupAllTold known alias None) (p_group_all r.node) (group_all_columns alias r) (λ within e. groups_all h e) (λ f e. group_all_past_limits h e))
    (λ h. group_all_unknown h)

pub group_all_found : {known : Aliases} {alias : List ℕ} {hint : Option (List ℕ)} {t : TypedOp} → GroupsAll known alias hint t → group_all_of known alias hint ≡ Ok t
unfolding group_all_of without relation_of
group_all_found (groups_all {alias = alias} {r = r} h e) = rw (h) (limited_found (p_group_all r.node) (group_all_columns alias r) _ e)

pub group_all_fails : {known : Aliases} {alias : List ℕ} {hint : Option (List ℕ)} {f : CheckKind} → GroupsAllNot known alias hint f → Fails (group_all_of known alias hint)
unfolding group_all_of without relation_of
group_all_fails group_all_using = failed
group_all_fails (group_all_unknown {hint = hint} h) = fails_next _ (without hint) (λ done. rw (h) failed)
group_all_fails (group_all_past_limits {alias = alias} {hint = hint} {r = r} h e) =
    fails_next _ (without hint) (λ done. rw (h) (limited_fails (p_group_all r.node) (group_all_columns alias r) _ e))

-- ---- JOIN

abbrev IsJoinedTold : Side → Option (List ℕ) → Checked Bool → Type 0
IsJoinedTold side hint (Ok replicated) = JoinedBy side hint replicated
IsJoinedTold side hint (Err f) = JoinedByNot side hint f

joined_told : (side : Side) (hint : Option (List ℕ)) → IsJoinedTold side hint (joined_by side hint)
unfolding joined_by
joined_told side None = by_default
joined_told side (Some word) = by (bytes_eq word replicated_word) (bytes_eq-Decides word replicated_word) (may_replicate side) refl
  where
    by : (same : Bool) → Decides same (word ≡ replicated_word) → (may : Bool) → may_replicate side ≡ may
        → IsJoinedTold side (Some word) (if same && may then Ok true else Err kind.Unsupported)
    by true d true e = by_replicated (d.0 refl) e
    by true d false e = other_side e
    by false d may e = other_word (λ same. false≢true (d.1 same))

joined_found : {side : Side} {hint : Option (List ℕ)} {replicated : Bool} → JoinedBy side hint replicated → joined_by side hint ≡ Ok replicated
unfolding joined_by
joined_found by_default = refl
joined_found (by_replicated {word = word} same e) = rw ((bytes_eq-Decides word replicated_word).1 same, e) refl

joined_fails : {side : Side} {hint : Option (List ℕ)} {f : CheckKind} → JoinedByNot side hint f → Fails (joined_by side hint)
unfolding joined_by
joined_fails (other_word {side = side} {word = word} other) = by (bytes_eq word replicated_word) (bytes_eq-Decides word replicated_word)
  where
    by : (same : Bool) → Decides same (word ≡ replicated_word) → Fails (if same && may_replicate side then Ok true else Err kind.Unsupported)
    by true d = absurd (other (d.0 refl))
    by false d = failed
joined_fails (other_side {side = side} {word = word} e) = by (bytes_eq word replicated_word)
  where
    by : (same : Bool) → Fails (if same && may_replicate side then Ok true else Err kind.Unsupported)
    by true = rw (e) failed
    by false = failed

side_fails : (side : Side) (replicated : Bool) (count : ℕ) → is_join side replicated count ≡ false → Fails (sided side replicated count)
unfolding sided
side_fails side replicated count e = rw (e) failed

abbrev pub IsJoinTold : Aliases → List KeyedForm → Side → Option (List ℕ) → Checked TypedOp → Type 0
IsJoinTold known is side hint (Ok t) = Joins known is side hint t
IsJoinTold known is side hint (Err f) = JoinsNot known is side hint f

pub join_told : (known : Aliases) (is : List KeyedForm) (side : Side) (hint : Option (List ℕ)) → IsJoinTold known is side hint (join_of known is side hint)
unfolding join_of sided
join_told known is side hint =
    then_told (IsJoinedTold side hint) (IsJoinTold known is side hint) _ (joined_by side hint) (joined_told side hint)
    (λ replicated j. by replicated j (is_join side replicated (length is)) refl)
    (λ f h. joined_by_none h)
  where
    by : (replicated : Bool) → JoinedBy side hint replicated → (b : Bool) → is_join side replicated (length is) ≡ b
        → IsJoinTold known is side hint ((if b then Ok (tt {0}) else Err kind.Unsupported) >>= λ two. keyed_of known is >>= λ k. limited_op (join_op side replicated k) (join_columns k))
    by replicated j true e =
        then_told (IsKeyedTold known is) (IsJoinTold known is side hint) _ (keyed_of known is) (keyed_told known is)
        (λ k h. limited_told (IsJoinTold known is side hint) (join_op side replicated k) (join_columns k) (λ within w. joins j e h w) (λ f w. join_past_limits h w))
        (λ f h. join_untyped h)
    by replicated j false e = join_of_side j e

pub join_found : {known : Aliases} {is : List KeyedForm} {side : Side} {hint : Option (List ℕ)} {t : TypedOp} → Joins known is side hint t → join_of known is side hint ≡ Ok t
unfolding join_of sided
join_found (joins {side = side} {replicated = replicated} {k = k} j two h e) =
    rw (joined_found j, two, keyed_found h) (limited_found (join_op side replicated k) (join_columns k) _ e)

pub join_fails : {known : Aliases} {is : List KeyedForm} {side : Side} {hint : Option (List ℕ)} {f : CheckKind} → JoinsNot known is side hint f → Fails (join_of known is side hint)
unfolding join_of
join_fails (joined_by_none h) = fails_first _ (joined_fails h)
join_fails (join_of_side {is = is} {side = side} {replicated = replicated} j e) = rw (joined_found j) (fails_first _ (side_fails side replicated (length is) e))
join_fails (join_untyped {is = is} {side = side} {hint = hint} h) =
    fails_next _ (joined_by side hint) (λ replicated. fails_next _ (sided side replicated (length is)) (λ two. fails_first _ (keyed_fails h)))
join_fails (join_past_limits {is = is} {side = side} {hint = hint} {k = k} h e) =
    fails_next _ (joined_by side hint)
    (λ replicated. fails_next _ (sided side replicated (length is)) (λ two. rw (keyed_found h) (limited_fails (join_op side replicated k) (join_columns k) _ e)))

-- ---- UNION

abbrev AreMeantTold : Aliases → List (List ℕ) → Checked (List RelationTree) → Type 0
AreMeantTold known names (Ok rs) = AllMeant known names rs
AreMeantTold known names (Err f) = (f ≡ kind.UnknownAlias) × AllMeantNot known names

meant_told : (known : Aliases) (names : List (List ℕ)) → AreMeantTold known names (relations_of known names)
unfolding relations_of relation_of
meant_told known [] = none_meant
meant_told known (name ∷ names) =
    due_is (AreMeantTold known (name ∷ names)) _ kind.UnknownAlias (relation_at name known)
    (λ r e. then_told (AreMeantTold known names) (AreMeantTold known (name ∷ names)) _ (relations_of known names) (meant_told known names)
    (λ rs h. more_meant e h) (λ f h. (h.0, later_unknown h.1)))
    (λ e. (refl, here_unknown e))

meant_found : {known : Aliases} {names : List (List ℕ)} {rs : List RelationTree} → AllMeant known names rs → relations_of known names ≡ Ok rs
unfolding relations_of relation_of
meant_found none_meant = refl
meant_found (more_meant e h) = rw (e, meant_found h) refl

meant_fails : {known : Aliases} {names : List (List ℕ)} → AllMeantNot known names → Fails (relations_of known names)
unfolding relations_of relation_of
meant_fails (here_unknown e) = rw (e) failed
meant_fails {known = known} (later_unknown {name = name} h) = fails_next _ (due kind.UnknownAlias (relation_at name known)) (λ r. fails_first _ (meant_fails h))

schema_fails : (count : ℕ) → Fails (of_two true count)
unfolding of_two
schema_fails count = failed

one_fails : (onschema : Bool) (count : ℕ) → nat_le 2 count ≡ false → Fails (of_two onschema count)
unfolding of_two
one_fails true count e = failed
one_fails false count e = rw (e) failed

abbrev pub IsUnionTold : Aliases → Bool → List (List ℕ) → Checked TypedUnion → Type 0
IsUnionTold known onschema names (Ok u) = Unions known onschema names u
IsUnionTold known onschema names (Err f) = UnionsNot known onschema names f

pub union_told : (known : Aliases) (onschema : Bool) (names : List (List ℕ)) → IsUnionTold known onschema names (union_of known onschema names)
unfolding union_of of_two agreed_union
union_told known true names = on_schema
union_told known false names = by (nat_le 2 (length names)) refl
  where
    refused : (f : CheckKind) → (f ≡ kind.UnknownAlias) × AllMeantNot known names → UnionsNot known false names f
    refused f h = subst (UnionsNot known false names) (sym h.0) (of_unknown h.1)

    by : (b : Bool) → nat_le 2 (length names) ≡ b → IsUnionTold known false names ((if b then Ok (tt {0}) else Err kind.SchemaMismatch) >>= λ two. relations_of known names >>= λ rs. agreed_union rs)
    by true e =
        then_told (AreMeantTold known names) (IsUnionTold known false names) _ (relations_of known names) (meant_told known names)
        (λ rs h. due_is (IsUnionTold known false names) _ kind.SchemaMismatch (all_together (map column_kinds rs)) (λ ks w. unions e h w) (λ w. of_other_columns h w))
        refused
    by false e = of_one_input e

pub union_found : {known : Aliases} {onschema : Bool} {names : List (List ℕ)} {u : TypedUnion} → Unions known onschema names u → union_of known onschema names ≡ Ok u
unfolding union_of of_two agreed_union
union_found (unions two h e) = rw (two, meant_found h, e) refl

pub union_fails : {known : Aliases} {onschema : Bool} {names : List (List ℕ)} {f : CheckKind} → UnionsNot known onschema names f → Fails (union_of known onschema names)
unfolding union_of agreed_union
union_fails (on_schema {names = names}) = fails_first _ (schema_fails (length names))
union_fails (of_one_input {onschema = onschema} {names = names} e) = fails_first _ (one_fails onschema (length names) e)
union_fails (of_unknown {onschema = onschema} {names = names} h) = fails_next _ (of_two onschema (length names)) (λ two. fails_first _ (meant_fails h))
union_fails (of_other_columns {onschema = onschema} {names = names} h e) = fails_next _ (of_two onschema (length names)) (λ two. rw (meant_found h, e) failed)
