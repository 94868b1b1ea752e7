-- What the readers of CUBE tell holds, and what holds is found, so there is one typing, or a refusal, and never both.
use Rattle.std.proofs.Common.{◌≡◌, ℕ, Bool, true, false, List, [], ◌∷◌, refl, subst, sym}
use Rattle.std.specs.Prelude.{if◌then◌else◌}
use Rattle.std.specs.declared.result.Result.TheVariants.{Ok, Err}
use Rattle.pig_schema.specs.FieldTrees.{FieldTree, tree_kind}
use Rattle.pig_syntax.specs.declared.trees.FieldRef.{FieldRef}
use Rattle.pig_typing.specs.declared.faults.CheckKind.{CheckKind}
use Rattle.pig_typing.specs.declared.faults.CheckKind.TheVariants as kind
use Rattle.pig_typing.specs.Columns.{RefersTo, refer}
use Rattle.pig_typing.specs.Limits.{limited_row}
use Rattle.pig_typing.specs.Results.{Checked, ◌>>=◌}
use Rattle.pig_typing.proofs.Chains.{then_told, then_is, due_is}
use Rattle.pig_typing.proofs.References.{Fails, IsReferred, failed, fails_first, fails_next, refer_fails, refer_is, referred}
use Rattle.pig_relations.specs.Aliases.{Aliases, relation_at, relation_of}
use Rattle.pig_check.specs.Cubes.{AreDims, AreDimsNot, Cubes, CubesNot, FieldsAre, FieldsAreNot, TypedCube, are_dims, are_few, as_dimension, cube_by_none, cube_of, cube_of_none, cube_past_limits, cubes, dims_of, few, field_at, fields_of, is_text, later_field, limited_cube, more_fields, no_dims, no_field, no_fields, no_fit, no_text, once, repeated, repeats, too_many, typed_cube}

-- ---- the fields

abbrev IsDimension : List FieldTree → FieldRef → Checked ℕ → Type 0
IsDimension columns r (Ok n) = (c : FieldTree) × RefersTo columns r n c × (is_text (tree_kind c) ≡ true)
IsDimension columns r (Err f) = (others : List FieldRef) → FieldsAreNot columns (r ∷ others) f

dimension_told : (columns : List FieldTree) (r : FieldRef) (p : ℕ × FieldTree) → RefersTo columns r p.0 p.1 → IsDimension columns r (as_dimension p)
unfolding as_dimension
dimension_told columns r p h = by (is_text (tree_kind p.1)) refl
  where
    by : (b : Bool) → is_text (tree_kind p.1) ≡ b → IsDimension columns r (if b then Ok p.0 else Err kind.BadKey)
    by true e = (p.1, h, e)
    by false e = λ others. no_text h e

field_told : (columns : List FieldTree) (r : FieldRef) → IsDimension columns r (field_at columns r)
unfolding field_at
field_told columns r =
    then_told (IsReferred columns r) (IsDimension columns r) _ (refer columns r) (referred columns r) (λ p h. dimension_told columns r p h) (λ f h others. no_field h)

abbrev AreFields : List FieldTree → List FieldRef → Checked (List ℕ) → Type 0
AreFields columns dims (Ok ns) = FieldsAre columns dims ns
AreFields columns dims (Err f) = FieldsAreNot columns dims f

fields_told : (columns : List FieldTree) (dims : List FieldRef) → AreFields columns dims (fields_of columns dims)
unfolding fields_of
fields_told columns [] = no_fields
fields_told columns (r ∷ others) =
    then_told (IsDimension columns r) (AreFields columns (r ∷ others)) _ (field_at columns r) (field_told columns r)
    (λ n w. then_told (AreFields columns others) (AreFields columns (r ∷ others)) _ (fields_of columns others) (fields_told columns others)
    (λ ns g. more_fields w.1 w.2 g) (λ f g. later_field g))
    (λ f w. w others)

fields_found : {columns : List FieldTree} {dims : List FieldRef} {ns : List ℕ} → FieldsAre columns dims ns → fields_of columns dims ≡ Ok ns
unfolding fields_of field_at as_dimension
fields_found no_fields = refl
fields_found (more_fields m e g) = rw (refer_is m, e, fields_found g) refl

fields_fail : {columns : List FieldTree} {dims : List FieldRef} {f : CheckKind} → FieldsAreNot columns dims f → Fails (fields_of columns dims)
unfolding fields_of field_at as_dimension
fields_fail (no_field m) = rw (refer_fails m) failed
fields_fail (no_text m e) = rw (refer_is m, e) failed
fields_fail {columns = columns} (later_field {r = r} g) = fails_next _ (field_at columns r) (λ n. fails_first _ (fields_fail g))

-- ---- the dimensions

abbrev DimsTold : List FieldTree → List FieldRef → Checked (List ℕ) → Type 0
DimsTold columns dims (Ok ns) = AreDims columns dims ns
DimsTold columns dims (Err f) = AreDimsNot columns dims f

none_meant : (columns : List FieldTree) (dims : List FieldRef) → FieldsAre columns dims [] → dims ≡ []
none_meant columns [] h = refl
none_meant columns (r ∷ others) h = elim h [ ]

once_told : (columns : List FieldTree) (dims : List FieldRef) (ns : List ℕ) → are_few dims ≡ true → FieldsAre columns dims ns → DimsTold columns dims (once ns)
unfolding once
once_told columns dims [] e h = no_dims (none_meant columns dims h)
once_told columns dims (n ∷ ns) e h = by (repeats (n ∷ ns)) refl
  where
    by : (b : Bool) → repeats (n ∷ ns) ≡ b → DimsTold columns dims (if b then Err kind.BadKey else Ok (n ∷ ns))
    by true g = repeated h g
    by false g = are_dims e h g

dims_told : (columns : List FieldTree) (dims : List FieldRef) → DimsTold columns dims (dims_of columns dims)
unfolding dims_of few
dims_told columns dims = by (are_few dims) refl
  where
    by : (b : Bool) → are_few dims ≡ b → DimsTold columns dims ((if b then Ok (tt {0}) else Err kind.Unsupported) >>= λ not_many. fields_of columns dims >>= λ ns. once ns)
    by true e =
        then_told (AreFields columns dims) (DimsTold columns dims) _ (fields_of columns dims) (fields_told columns dims) (λ ns h. once_told columns dims ns e h) (λ f h. no_fit h)
    by false e = too_many e

dims_found : {columns : List FieldTree} {dims : List FieldRef} {ns : List ℕ} → AreDims columns dims ns → dims_of columns dims ≡ Ok ns
unfolding dims_of few once
dims_found (are_dims e h g) = rw (e, fields_found h, g) refl

once_fails : (ns : List ℕ) → repeats ns ≡ true → Fails (once ns)
unfolding once
once_fails [] g = failed
once_fails (n ∷ ns) g = rw (g) failed

many_fail : (dims : List FieldRef) → are_few dims ≡ false → Fails (few dims)
unfolding few
many_fail dims e = rw (e) failed

none_fail : (columns : List FieldTree) → Fails (dims_of columns [])
unfolding dims_of few fields_of once
none_fail columns = failed

dims_fail : {columns : List FieldTree} {dims : List FieldRef} {f : CheckKind} → AreDimsNot columns dims f → Fails (dims_of columns dims)
unfolding dims_of
dims_fail {dims = dims} (too_many e) = fails_first _ (many_fail dims e)
dims_fail {columns = columns} (no_dims e) = subst (λ refs. Fails (dims_of columns refs)) (sym e) (none_fail columns)
dims_fail {dims = dims} (no_fit h) = fails_next _ (few dims) (λ not_many. fails_first _ (fields_fail h))
dims_fail {dims = dims} (repeated {ns = ns} h g) = fails_next _ (few dims) (λ not_many. rw (fields_found h) (once_fails ns g))

-- ---- the statement

abbrev pub IsCubeTold : Aliases → List ℕ → List FieldRef → Checked TypedCube → Type 0
IsCubeTold known from dims (Ok t) = Cubes known from dims t
IsCubeTold known from dims (Err f) = CubesNot known from dims f

pub cube_told : (known : Aliases) (from : List ℕ) (dims : List FieldRef) → IsCubeTold known from dims (cube_of known from dims)
unfolding cube_of limited_cube relation_of
cube_told known from dims =
    due_is (IsCubeTold known from dims) _ kind.UnknownAlias (relation_at from known)
    (λ r e. then_told (DimsTold r.columns dims) (IsCubeTold known from dims) _ (dims_of r.columns dims) (dims_told r.columns dims)
    (λ ns h. then_is (IsCubeTold known from dims) _ (limited_row (typed_cube r ns).columns) (λ within w. cubes e h w) (λ f w. cube_past_limits e h w))
    (λ f h. cube_by_none e h))
    (λ e. cube_of_none e)

pub cube_found : {known : Aliases} {from : List ℕ} {dims : List FieldRef} {t : TypedCube} → Cubes known from dims t → cube_of known from dims ≡ Ok t
unfolding cube_of limited_cube relation_of
cube_found (cubes e h w) = rw (e, dims_found h, w) refl

pub cube_fails : {known : Aliases} {from : List ℕ} {dims : List FieldRef} {f : CheckKind} → CubesNot known from dims f → Fails (cube_of known from dims)
unfolding cube_of limited_cube relation_of
cube_fails (cube_of_none e) = rw (e) failed
cube_fails (cube_by_none e h) = rw (e) (fails_first _ (dims_fail h))
cube_fails (cube_past_limits e h w) = rw (e, dims_found h, w) failed
