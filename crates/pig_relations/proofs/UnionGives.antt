-- What a UNION gives over tables of aliases: each input, or the FOREACH before it, gives rows of the kinds of its columns.
use Rattle.std.proofs.Common.{add-one, ◌≡◌, ◌∙◌, ℕ, suc, ◌+◌, List, [], ◌∷◌, map, length, refl, sym, ap, subst, Bool, true, false, arith}
use Rattle.std.specs.Prelude.{⊤, Some, None, nat_le, nat_lt, ◌||◌, slice_get, if◌then◌else◌}
use Rattle.std.specs.List.{AllByRecursion}
use Rattle.std.proofs.lemmas.Bool.{lt-ltb}
use Rattle.pig_value.specs.FieldReader.{all_of}
use Rattle.pig_value.specs.Trees.{KindTree, kinds_of}
use Rattle.pig_value.proofs.KindLaws.{kinds_itself}
use Rattle.pig_schema.specs.FieldTrees.{tree_kind}
use Rattle.pig_typed.specs.BlockKinds.{item_kinds, items_kinds}
use Rattle.pig_typed.specs.Typed.{x_field}
use Rattle.pig_plan.specs.NodeKinds.{Before, RowKinds, are_alike, node_gives, union_kinds}
use Rattle.pig_plan.specs.Plans.{p_union}
use Rattle.pig_typing.specs.Columns.{AreColumns}
use Rattle.pig_typing.specs.Parts.{plain_item}
use Rattle.pig_relations.specs.Aliases.{Aliases, RelationTree, IsTable}
use Rattle.pig_relations.specs.Together.{Fits, same, wider, AllFit, AllRowsFit, all_together, of_kinds, widens, widened}
use Rattle.pig_relations.specs.Unions.{TypedUnion, AllMeant, none_meant, more_meant, Unions, unions, any_widens, column_kinds, first_columns, union_input, widened_fields, widened_row, widening, GivesRows}
use Rattle.pig_relations.proofs.TogetherHolds.{columns_given, kinds_given, rows_fit, widened_kind}

-- ---- the block that widens

-- the fields of a row from a place on
abbrev StandFrom : List KindTree → ℕ → List KindTree → Type 0
StandFrom row n [] = ⊤
StandFrom row n (k ∷ ks) = (slice_get row n ≡ Some k) × StandFrom row (n + 1) ks

shifted : (k : KindTree) (row : List KindTree) (n : ℕ) (ks : List KindTree) → StandFrom row n ks → StandFrom (k ∷ row) (n + 1) ks
shifted k row n [] h = tt
shifted k row n (l ∷ ks) h = (subst (λ m. slice_get (k ∷ row) m ≡ Some l) (sym (add-one n)) h.0, shifted k row (n + 1) ks h.1)

stand : (row : List KindTree) → StandFrom row 0 row
stand [] = tt
stand (k ∷ row) = (refl, shifted k row 0 row (stand row))

field_holds : (row : List KindTree) (n : ℕ) (k j : KindTree) → slice_get row n ≡ Some k → Fits k j → item_kinds (plain_item (widened k j (x_field n))) row [] ≡ Some (j ∷ [])
field_holds row n k j e fit = rw (widened_kind row [] k j (x_field n) fit e) refl

fields_hold : (row : List KindTree) (n : ℕ) (ks js : List KindTree) → StandFrom row n ks → AllFit ks js → items_kinds (widened_fields n ks js) row [] ≡ Some js
fields_hold row n [] [] h fit = refl
fields_hold row n [] (j ∷ js) h fit = absurd fit
fields_hold row n (k ∷ ks) [] h fit = absurd fit
fields_hold row n (k ∷ ks) (j ∷ js) h fit = rw (field_holds row n k j h.0 fit.0, fields_hold row (n + 1) ks js h.1 fit.1) refl

or_neither : (a b : Bool) → (a || b) ≡ false → (a ≡ false) × (b ≡ false)
or_neither true b e = absurd (cc)
or_neither false b e = (refl, e)

unchanged : (k j : KindTree) → Fits k j → widens k j ≡ false → k ≡ j
unchanged k j same e = refl
unchanged k j wider e = absurd (cc)

none_widens : (ks js : List KindTree) → AllFit ks js → any_widens ks js ≡ false → ks ≡ js
none_widens [] [] fit e = refl
none_widens [] (j ∷ js) fit e = absurd fit
none_widens (k ∷ ks) [] fit e = absurd fit
none_widens (k ∷ ks) (j ∷ js) fit e =
    let both = or_neither (widens k j) (any_widens ks js) e in
    let first = unchanged k j fit.0 both.0 in
    let rest = none_widens ks js fit.1 both.1 in
    cc

row_widened : (ks js : List KindTree) → AllFit ks js → widened_row (widening ks js) ks ≡ Some js
row_widened ks js fit = by (any_widens ks js) refl
  where
    by : (b : Bool) → any_widens ks js ≡ b → widened_row (if b then Some (record { steps = []; items = widened_fields 0 ks js }) else None) ks ≡ Some js
    by true e = fields_hold ks 0 ks js (stand ks) fit
    by false e = ap Some (none_widens ks js fit e)

-- ---- the inputs

inputs_give : (before : Before) (aliases : Aliases) (names : List (List ℕ)) (rs : List RelationTree) (js : List KindTree)
    → IsTable before aliases → AllMeant aliases names rs → AllRowsFit (map column_kinds rs) js → AllByRecursion (GivesRows before js) (map (union_input js) rs)
inputs_give before aliases names rs js table none_meant fit = tt
inputs_give before aliases names rs js table (more_meant {name = name} {names = more} {r = r} {rs = others} e h) fit =
    (record { row = column_kinds r; rows = (table name r e).rows; widened = row_widened (column_kinds r) js fit.0 }, inputs_give before aliases more others js table h fit.1)

first_given : (before : Before) (aliases : Aliases) (names : List (List ℕ)) (rs : List RelationTree) (js : List KindTree)
    → IsTable before aliases → AllMeant aliases names rs → all_together (map column_kinds rs) ≡ Some js
    → (map tree_kind (of_kinds js (first_columns rs)) ≡ js) × AreColumns (of_kinds js (first_columns rs))
first_given before aliases names rs js table none_meant e = absurd (cc)
first_given before aliases names rs js table (more_meant {name = name} {r = r} {rs = others} e h) u =
    let fit = rows_fit (column_kinds r ∷ map column_kinds others) js u in
    (kinds_given r.columns js fit.0, columns_given r.columns js fit.0 (table name r e).columns)

pub union_columns : (before : Before) (aliases : Aliases) (onschema : Bool) (names : List (List ℕ)) (u : TypedUnion) → IsTable before aliases → Unions aliases onschema names u
    → AreColumns u.columns
union_columns before aliases onschema names u table (unions {rs = rs} {ks = ks} two h e) = (first_given before aliases names rs ks table h e).1

pub union_inputs : (before : Before) (aliases : Aliases) (onschema : Bool) (names : List (List ℕ)) (u : TypedUnion) → IsTable before aliases → Unions aliases onschema names u
    → AllByRecursion (GivesRows before (map tree_kind u.columns)) u.inputs
union_inputs before aliases onschema names u table (unions {rs = rs} {ks = ks} two h e) =
    subst (λ js. AllByRecursion (GivesRows before js) (map (union_input ks) rs)) (sym (first_given before aliases names rs ks table h e).0)
    (inputs_give before aliases names rs ks table h (rows_fit (map column_kinds rs) ks e))

-- ---- the node

all_give : (after : Before) (nodes : List ℕ) (row : RowKinds) → AllByRecursion (λ n. after n ≡ Some row) nodes → all_of after nodes ≡ Some (map (λ n. row) nodes)
all_give after [] row h = refl
all_give after (n ∷ nodes) row h = rw (h.0, all_give after nodes row h.1) refl

all_alike : (nodes : List ℕ) (row : RowKinds) → are_alike row (map (λ n. row) nodes) ≡ true
all_alike [] row = refl
all_alike (n ∷ nodes) row = rw (kinds_itself (kinds_of row), all_alike nodes row) refl

positive : (n : ℕ) → nat_lt 0 (suc n) ≡ true
positive n = lt-ltb 0 (suc n) (omega arith)

union_of_rows : (nodes : List ℕ) (row : RowKinds) → nat_le 2 (length nodes) ≡ true → union_kinds (map (λ n. row) nodes) ≡ Some row
union_of_rows [] row e = absurd (cc)
union_of_rows (n ∷ []) row e = absurd (cc)
union_of_rows (n ∷ m ∷ nodes) row e = rw (positive (length (map (λ n. row) nodes)), all_alike (m ∷ nodes) row) refl

rows_united : (after : Before) (nodes : List ℕ) (row : RowKinds) → nat_le 2 (length nodes) ≡ true → AllByRecursion (λ n. after n ≡ Some row) nodes
    → node_gives after (p_union nodes) ≡ Some (Some row)
rows_united after nodes row e h = rw (all_give after nodes row h, union_of_rows nodes row e) refl

meant_count : (aliases : Aliases) (names : List (List ℕ)) (rs : List RelationTree) (js : List KindTree) → AllMeant aliases names rs → length (map (union_input js) rs) ≡ length names
meant_count aliases names rs js none_meant = refl
meant_count aliases names rs js (more_meant {names = more} {rs = others} e h) = ap suc (meant_count aliases more others js h)

-- nodes that give rows of the columns' kinds, as many as the inputs
pub union_node : (aliases : Aliases) (onschema : Bool) (names : List (List ℕ)) (u : TypedUnion) → Unions aliases onschema names u
    → (after : Before) (nodes : List ℕ) → length nodes ≡ length u.inputs → AllByRecursion (λ n. after n ≡ Some (map tree_kind u.columns)) nodes
    → node_gives after (p_union nodes) ≡ Some (Some (map tree_kind u.columns))
union_node aliases onschema names u (unions {rs = rs} {ks = ks} two h e) after nodes count gives =
    rows_united after nodes (map tree_kind (of_kinds ks (first_columns rs))) (subst (λ n. nat_le 2 n ≡ true) (sym (count ∙ meant_count aliases names rs ks h)) two) gives
