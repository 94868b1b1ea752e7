-- What the readers of items tell holds.
use Rattle.std.specs.Prelude.{◌≡◌, ℕ, Bool, true, false, List, [], ◌∷◌, Option, Some, None, refl, if◌then◌else◌}
use Rattle.std.specs.declared.result.Result.TheVariants.{Ok, Err}
use Rattle.pig_value.specs.Casts.{may_cast}
use Rattle.pig_value.specs.Kinds.{kind_eq}
use Rattle.pig_value.specs.Trees.{KindTree}
use Rattle.pig_schema.specs.FieldTrees.{FieldTree, tree_kind}
use Rattle.pig_syntax.specs.ExprTrees.{TypeForm, expr_form}
use Rattle.pig_syntax.specs.declared.trees.AsNames.{AsNames}
use Rattle.pig_syntax.specs.declared.trees.Expr.{Expr}
use Rattle.pig_syntax.specs.declared.trees.Item.{Item}
use Rattle.pig_syntax.specs.declared.trees.Item.TheVariants as item
use Rattle.pig_typed.specs.Typed.{x_cast}
use Rattle.pig_typing.specs.declared.faults.CheckKind.{CheckKind}
use Rattle.pig_typing.specs.declared.faults.CheckKind.TheVariants as kind
use Rattle.pig_typing.specs.Columns.{Place}
use Rattle.pig_items.specs.Items.{Generated, NameForm, one_column, name_forms, flattened_columns, Named, NamedNot, named_bare, named_cast, of_float, of_size, of_no_cast, Renamed, RenamedNot, renamed_bare, renamed_typed, of_float_field, of_field_size, of_other_field, AllRenamed, AllRenamedNot, OneRenamedNot, as_many, none_renamed, one_renamed, another_number, one_renamed_not, here_renamed_not, later_renamed_not, only_name, Plain, PlainNot, plain_bare, plain_named, not_one_name, not_named, Flat, FlatNot, flat_bare, flat_named, of_a_map, not_renamed, Generates, GeneratesNot, generates_all, generates_value, generates_flat, untyped_item, no_plain, no_flat, AllGenerate, AllGenerateNot, none_generate, more_generate, here_not, later_not, cast_named, named_of, same_named, renamed_of, each_renamed, all_renamed, plain_of, names_for, flat_of, item_value, item_of, items_of}
use Rattle.pig_typing.specs.Limits.{limited}
use Rattle.pig_typing.specs.Parts.{Typing, typed_of, typed_column, kind_in}
use Rattle.pig_typing.specs.Reader.{type_of, type_of_cast}
use Rattle.pig_typing.specs.Results.{Checked}
use Rattle.pig_typing.specs.Typing.{Types}
use Rattle.pig_typing.specs.Written.{with_name, written}
use Rattle.pig_typing.proofs.Chains.{then_told, passes, then_is, due_is}
use Rattle.pig_typing.proofs.Told.{IsTold, told}

-- ---- types

data SizedNot : TypeForm → CheckKind → Type 0 where
  no_type : {type : TypeForm} → written type ≡ None → SizedNot type kind.FloatType
  no_size : {type : TypeForm} {d : FieldTree} {f : CheckKind} → written type ≡ Some d → limited (tree_kind d) ≡ Err f → SizedNot type f

abbrev IsSized : TypeForm → Checked FieldTree → Type 0
IsSized type (Ok d) = (written type ≡ Some d) × ((k : KindTree) × (limited (tree_kind d) ≡ Ok k))
IsSized type (Err f) = SizedNot type f

sized_told : (type : TypeForm) → IsSized type (type_of_cast type)
unfolding type_of_cast
sized_told type =
    due_is (IsSized type) _ kind.FloatType (written type)
    (λ d e. then_is (IsSized type) _ (limited (tree_kind d)) (λ k within. (e, (k, within))) (λ f past. no_size e past))
    (λ e. no_type e)

-- ---- AS without FLATTEN

abbrev pub IsNamedTold : Typing → NameForm → Checked Generated → Type 0
IsNamedTold p f (Ok g) = Named p f g
IsNamedTold p f (Err r) = NamedNot p f r

named_not : (p : Typing) (name : List ℕ) (type : TypeForm) (r : CheckKind) → SizedNot type r → NamedNot p (name, Some type) r
named_not p name type r (no_type e) = of_float e
named_not p name type r (no_size e past) = of_size e past

cast_named_told : (p : Typing) (name : List ℕ) (type : TypeForm) (d : FieldTree) → IsSized type (Ok d) → IsNamedTold p (name, Some type) (cast_named p name d)
unfolding cast_named
cast_named_told p name type d w = by (may_cast (kind_in p) (tree_kind d)) refl
  where
    by : (b : Bool) → may_cast (kind_in p) (tree_kind d) ≡ b
        → IsNamedTold p (name, Some type) (if b then Ok (one_column (x_cast (tree_kind d) (typed_of p)) (with_name name d)) else Err kind.TypeMismatch)
    by true t = named_cast w.0 w.1.1 t
    by false t = of_no_cast w.0 t

pub named_told : (p : Typing) (f : NameForm) → IsNamedTold p f (named_of p f)
unfolding named_of
named_told p (name, None) = named_bare
named_told p (name, Some type) =
    then_told (IsSized type) (IsNamedTold p (name, Some type)) _ (type_of_cast type) (sized_told type) (λ d w. cast_named_told p name type d w) (λ r w. named_not p name type r w)

-- ---- AS with FLATTEN

abbrev pub IsRenamed : FieldTree → NameForm → Checked FieldTree → Type 0
IsRenamed c f (Ok d) = Renamed c f d
IsRenamed c f (Err r) = RenamedNot c f r

renamed_not : (c : FieldTree) (name : List ℕ) (type : TypeForm) (r : CheckKind) → SizedNot type r → RenamedNot c (name, Some type) r
renamed_not c name type r (no_type e) = of_float_field e
renamed_not c name type r (no_size e past) = of_field_size e past

same_named_told : (c : FieldTree) (name : List ℕ) (type : TypeForm) (d : FieldTree) → IsSized type (Ok d) → IsRenamed c (name, Some type) (same_named c name d)
unfolding same_named
same_named_told c name type d w = by (kind_eq (tree_kind d) (tree_kind c)) refl
  where
    by : (b : Bool) → kind_eq (tree_kind d) (tree_kind c) ≡ b → IsRenamed c (name, Some type) (if b then Ok (with_name name d) else Err kind.TypeMismatch)
    by true t = renamed_typed w.0 w.1.1 t
    by false t = of_other_field w.0 t

pub renamed_told : (c : FieldTree) (f : NameForm) → IsRenamed c f (renamed_of c f)
unfolding renamed_of
renamed_told c (name, None) = renamed_bare
renamed_told c (name, Some type) =
    then_told (IsSized type) (IsRenamed c (name, Some type)) _ (type_of_cast type) (sized_told type) (λ d w. same_named_told c name type d w) (λ r w. renamed_not c name type r w)

abbrev pub AreRenamed : List FieldTree → List NameForm → Checked (List FieldTree) → Type 0
AreRenamed cs fs (Ok ds) = AllRenamed cs fs ds
AreRenamed cs fs (Err r) = AllRenamedNot cs fs r

abbrev EachRenamed : List FieldTree → List NameForm → Checked (List FieldTree) → Type 0
EachRenamed cs fs (Ok ds) = AllRenamed cs fs ds
EachRenamed cs fs (Err r) = OneRenamedNot cs fs r

each_renamed_told : (cs : List FieldTree) (fs : List NameForm) → as_many cs fs ≡ true → EachRenamed cs fs (each_renamed cs fs)
unfolding each_renamed
each_renamed_told [] [] e = none_renamed
each_renamed_told [] (f ∷ fs) e = absurd (cc)
each_renamed_told (c ∷ cs) [] e = absurd (cc)
each_renamed_told (c ∷ cs) (f ∷ fs) e =
    then_told (IsRenamed c f) (EachRenamed (c ∷ cs) (f ∷ fs)) _ (renamed_of c f) (renamed_told c f)
    (λ d h. then_told (EachRenamed cs fs) (EachRenamed (c ∷ cs) (f ∷ fs)) _ (each_renamed cs fs) (each_renamed_told cs fs e) (λ ds g. one_renamed h g) (λ r g. later_renamed_not g))
    (λ r h. here_renamed_not h)

pub all_renamed_told : (cs : List FieldTree) (fs : List NameForm) → AreRenamed cs fs (all_renamed cs fs)
unfolding all_renamed
all_renamed_told cs fs = by (as_many cs fs) refl
  where
    by : (b : Bool) → as_many cs fs ≡ b → AreRenamed cs fs (if b then each_renamed cs fs else Err kind.SchemaMismatch)
    by true e = passes (EachRenamed cs fs) (AreRenamed cs fs) (each_renamed cs fs) (each_renamed_told cs fs e) (λ ds h. h) (λ r h. one_renamed_not e h)
    by false e = another_number e

-- ---- an item

abbrev pub IsPlainTold : Typing → Option AsNames → Checked Generated → Type 0
IsPlainTold p names (Ok g) = Plain p names g
IsPlainTold p names (Err r) = PlainNot p names r

pub plain_told : (p : Typing) (names : Option AsNames) → IsPlainTold p names (plain_of p names)
unfolding plain_of
plain_told p None = plain_bare
plain_told p (Some names) =
    due_is (IsPlainTold p (Some names)) _ kind.SchemaMismatch (only_name (name_forms names))
    (λ f e. passes (IsNamedTold p f) (IsPlainTold p (Some names)) (named_of p f) (named_told p f) (λ g h. plain_named e h) (λ r h. not_named e h))
    (λ e. not_one_name e)

abbrev pub IsFlatTold : Typing → Option AsNames → Checked Generated → Type 0
IsFlatTold p names (Ok g) = Flat p names g
IsFlatTold p names (Err r) = FlatNot p names r

pub flat_told : (p : Typing) (names : Option AsNames) → IsFlatTold p names (flat_of p names)
unfolding flat_of names_for
flat_told p None = due_is (IsFlatTold p None) _ kind.TypeMismatch (flattened_columns (typed_column p)) (λ columns e. flat_bare e) (λ e. of_a_map e)
flat_told p (Some names) =
    due_is (IsFlatTold p (Some names)) _ kind.TypeMismatch (flattened_columns (typed_column p))
    (λ columns e. then_told (AreRenamed columns (name_forms names)) (IsFlatTold p (Some names)) _ (all_renamed columns (name_forms names)) (all_renamed_told columns (name_forms names))
    (λ ds h. flat_named e h) (λ r h. not_renamed e h))
    (λ e. of_a_map e)

abbrev pub IsGenerated : Place → Item → Checked Generated → Type 0
IsGenerated s i (Ok g) = Generates s i g
IsGenerated s i (Err r) = GeneratesNot s i r

value_told : (s : Place) (value : Expr) (flatten : Bool) (names : Option AsNames) (p : Typing)
    → Types s (expr_form value) p → IsGenerated s (item.Value value flatten names) (item_value p flatten names)
value_told s value true names p h =
    passes (IsFlatTold p names) (IsGenerated s (item.Value value true names)) (flat_of p names) (flat_told p names) (λ g k. generates_flat h k) (λ r k. no_flat h k)
value_told s value false names p h =
    passes (IsPlainTold p names) (IsGenerated s (item.Value value false names)) (plain_of p names) (plain_told p names) (λ g k. generates_value h k) (λ r k. no_plain h k)

pub item_told : (s : Place) (i : Item) → IsGenerated s i (item_of s i)
unfolding item_of
item_told s item.All = generates_all
item_told s (item.Value value flatten names) =
    then_told (IsTold s (expr_form value)) (IsGenerated s (item.Value value flatten names)) _ (type_of s (expr_form value)) (told s (expr_form value))
    (λ p h. value_told s value flatten names p h)
    (λ r h. untyped_item h)

abbrev pub AreGenerated : Place → List Item → Checked Generated → Type 0
AreGenerated s is (Ok g) = AllGenerate s is g
AreGenerated s is (Err r) = AllGenerateNot s is r

pub items_told : (s : Place) (is : List Item) → AreGenerated s is (items_of s is)
unfolding items_of
items_told s [] = none_generate
items_told s (i ∷ is) =
    then_told (IsGenerated s i) (AreGenerated s (i ∷ is)) _ (item_of s i) (item_told s i)
    (λ g h. then_told (AreGenerated s is) (AreGenerated s (i ∷ is)) _ (items_of s is) (items_told s is) (λ k l. more_generate h l) (λ r l. later_not l))
    (λ r h. here_not h)
