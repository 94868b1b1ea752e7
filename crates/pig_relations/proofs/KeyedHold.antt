-- Inputs by key over tables of aliases: the keys of each have the kinds that all have together.
use Rattle.std.proofs.Common.{◌≡◌, suc, List, [], ◌∷◌, map, length, refl, ap, subst, true, false, arith}
use Rattle.std.specs.Prelude.{Option, Some, None}
use Rattle.std.specs.List.{AllByRecursion, list_all}
use Rattle.std.specs.Option.{option_and_then}
use Rattle.std.proofs.lemmas.Bool.{lt-ltb}
use Rattle.pig_value.specs.FieldReader.{all_of}
use Rattle.pig_value.specs.Kinds.{has_bag_or_map, kinds_eq}
use Rattle.pig_value.specs.Trees.{KindTree, kinds_of}
use Rattle.pig_value.proofs.KindLaws.{kinds_itself}
use Rattle.pig_schema.specs.FieldTrees.{tree_kind}
use Rattle.pig_syntax.specs.ExprTrees.{ExprForms}
use Rattle.pig_typed.specs.ExprKinds.{expr_kind}
use Rattle.pig_typed.specs.Typed.{Typed}
use Rattle.pig_plan.specs.NodeKinds.{Before, RowKinds, KeyedKinds, key_kind, keyed_kinds, keys_agree, all_keyed}
use Rattle.pig_plan.specs.NodeKinds as plan
use Rattle.pig_typing.specs.Columns.{AreColumns}
use Rattle.pig_typing.specs.Conditions.{Keys, no_keys, more_keys}
use Rattle.pig_typing.specs.Parts.{Typing, kind_in, typed_column, typed_of}
use Rattle.pig_typing.proofs.KindsHold.{holds}
use Rattle.pig_relations.specs.Aliases.{Aliases, RelationTree, IsTable}
use Rattle.pig_relations.specs.Keyed.{KeyedForm, TypedInput, Keyable, TypesInput, types_input, TypesInputs, no_inputs, more_inputs, TypesKeyed, types_keyed, rows_of, cast_keys, keyed, keys_kinds, key_kinds, if_some}
use Rattle.pig_relations.specs.Together.{Fits, AllFit, AllRowsFit, all_together, widened}
use Rattle.pig_relations.proofs.TogetherHolds.{rows_fit, simple_stays, widened_kind}

-- ---- the keys of one input

abbrev pub row_of : RelationTree → RowKinds
row_of r = map tree_kind r.columns

-- a key's kind, where it is widened and holds no bag and no map
key_holds : (row : RowKinds) (k j : KindTree) (t : Typed) → Fits k j → has_bag_or_map k ≡ false → expr_kind t row [] ≡ Some k → key_kind row (widened k j t) ≡ Some j
key_holds row k j t fit simple e = rw (widened_kind row [] k j t fit e, simple_stays k j fit simple) refl

keys_hold : (r : RelationTree) (es : ExprForms) (ps : List Typing) (js : List KindTree) → AreColumns r.columns → Keys (rows_of r) es ps → AllFit (map tree_kind (map typed_column ps)) js
    → all_of (key_kind (row_of r)) (cast_keys ps js) ≡ Some js
keys_hold r es ps [] w no_keys fit = refl
keys_hold r es ps (j ∷ js) w no_keys fit = absurd fit
keys_hold r es ps [] w (more_keys h e g) fit = absurd fit
keys_hold r es ps (j ∷ js) w (more_keys {a = a} {others = others} {p = p} {ps = more} h e g) fit =
    rw (key_holds (row_of r) (kind_in p) j (typed_of p) fit.0 e (holds (rows_of r) (w, tt) a p h).kind, keys_hold r others more js w g fit.1) refl

-- the column of each key has inside it what is of its kind
pub keys_columns : (r : RelationTree) (es : ExprForms) (ps : List Typing) → AreColumns r.columns → Keys (rows_of r) es ps → AreColumns (map typed_column ps)
keys_columns r es ps w no_keys = tt
keys_columns r es ps w (more_keys {a = a} {others = others} {p = p} {ps = more} h e g) = ((holds (rows_of r) (w, tt) a p h).field, keys_columns r others more w g)

-- ---- inputs

abbrev pub given : List KindTree → TypedInput → KeyedKinds
given js t = record { row = row_of t.relation; keys = js }

-- one key at least, as a plan asks
some_keys : (row : RowKinds) (es : List Typed) (j : KindTree) (js : List KindTree) → all_of (key_kind row) es ≡ Some (j ∷ js) → plan.key_kinds row es ≡ Some (j ∷ js)
some_keys row es j js e = rw (e, lt-ltb 0 (suc (length js)) (omega arith)) refl

pub input_holds : (before : Before) (aliases : Aliases) (i : KeyedForm) (t : TypedInput) (j : KindTree) (js : List KindTree) → IsTable before aliases → TypesInput aliases i t
    → AllFit (keys_kinds t) (j ∷ js) → keyed_kinds before (keyed (j ∷ js) t) ≡ Some (given (j ∷ js) t)
input_holds before aliases i t j js table (types_input {r = r} {ps = ps} e h) fit =
    let is = table i.alias r e in
    rw (is.rows, some_keys (row_of r) (cast_keys ps (j ∷ js)) j js (keys_hold r i.keys ps (j ∷ js) is.columns h fit)) refl

pub inputs_hold : (before : Before) (aliases : Aliases) (is : List KeyedForm) (ts : List TypedInput) (j : KindTree) (js : List KindTree) → IsTable before aliases → TypesInputs aliases is ts
    → AllRowsFit (map keys_kinds ts) (j ∷ js) → all_of (keyed_kinds before) (map (keyed (j ∷ js)) ts) ≡ Some (map (given (j ∷ js)) ts)
inputs_hold before aliases is ts j js table no_inputs fit = refl
inputs_hold before aliases is ts j js table (more_inputs {i = i} {is = others} {t = t} {ts = more} h g) fit =
    rw (input_holds before aliases i t j js table h fit.0, inputs_hold before aliases others more j js table g fit.1) refl

others_agree : (js : List KindTree) (ts : List TypedInput) → list_all (λ other. kinds_eq (kinds_of js) (kinds_of other.keys)) (map (given js) ts) ≡ true
others_agree js [] = refl
others_agree js (t ∷ ts) = rw (kinds_itself (kinds_of js), others_agree js ts) refl

-- the columns of each input's rows and keys have inside them what is of their kinds
abbrev pub HoldsColumns : TypedInput → Type 0
HoldsColumns t = AreColumns t.relation.columns × AreColumns (map typed_column t.keys)

inputs_columns : (before : Before) (aliases : Aliases) (is : List KeyedForm) (ts : List TypedInput) → IsTable before aliases → TypesInputs aliases is ts → AllByRecursion HoldsColumns ts
inputs_columns before aliases is ts table no_inputs = tt
inputs_columns before aliases is ts table (more_inputs {i = i} {is = others} {ts = more} (types_input {r = r} {ps = ps} e h) g) =
    let columns = (table i.alias r e).columns in
    ((columns, keys_columns r i.keys ps columns h), inputs_columns before aliases others more table g)

-- inputs whose keys stand together
pub record KeyedHold (before : Before) (k : Keyable) : Type 0 where
  pub kinds : all_keyed before (map (keyed k.kinds) k.inputs) ≡ Some (map (given k.kinds) k.inputs)
  pub fit : AllRowsFit (map keys_kinds k.inputs) k.kinds
  pub columns : AllByRecursion HoldsColumns k.inputs

agreeing : (before : Before) (ts : List TypedInput) (j : KindTree) (js : List KindTree) → all_together (map keys_kinds ts) ≡ Some (j ∷ js)
    → all_of (keyed_kinds before) (map (keyed (j ∷ js)) ts) ≡ Some (map (given (j ∷ js)) ts)
    → all_keyed before (map (keyed (j ∷ js)) ts) ≡ Some (map (given (j ∷ js)) ts)
agreeing before [] j js w e = absurd (cc)
agreeing before (t ∷ ts) j js w e = rw (e, others_agree (j ∷ js) ts) refl

inputs_keyed : (before : Before) (aliases : Aliases) (is : List KeyedForm) (ts : List TypedInput) (ks : List KindTree)
    → IsTable before aliases → TypesInputs aliases is ts → key_kinds ts ≡ Some ks → KeyedHold before (record { inputs = ts; kinds = ks })
inputs_keyed before aliases is ts ks table h e = by (all_together (map keys_kinds ts)) refl e
  where
    found : (ms : List KindTree) → all_together (map keys_kinds ts) ≡ Some ms → if_some ms ≡ Some ks → KeyedHold before (record { inputs = ts; kinds = ks })
    found [] w u = absurd (cc)
    found (j ∷ js) w u =
        let at : j ∷ js ≡ ks = cc in
        let fit = rows_fit (map keys_kinds ts) (j ∷ js) w in
        subst (λ all. KeyedHold before (record { inputs = ts; kinds = all })) at (record {
          kinds = agreeing before ts j js w (inputs_hold before aliases is ts j js table h fit);
          fit = fit;
          columns = inputs_columns before aliases is ts table h;
        })

    by : (o : Option (List KindTree)) → all_together (map keys_kinds ts) ≡ o → option_and_then if_some o ≡ Some ks → KeyedHold before (record { inputs = ts; kinds = ks })
    by (Some ms) w u = found ms w u
    by None w u = absurd (cc)

pub keyed_hold : (before : Before) (aliases : Aliases) (is : List KeyedForm) (k : Keyable) → IsTable before aliases → TypesKeyed aliases is k → KeyedHold before k
keyed_hold before aliases is k table (types_keyed {ts = ts} {ks = ks} h e) = inputs_keyed before aliases is ts ks table h e

pub inputs_count : (aliases : Aliases) (is : List KeyedForm) (ts : List TypedInput) (ks : List KindTree) → TypesInputs aliases is ts → length (map (given ks) ts) ≡ length is
inputs_count aliases is ts ks no_inputs = refl
inputs_count aliases is ts ks (more_inputs {is = others} {ts = more} h g) = ap suc (inputs_count aliases others more ks g)
