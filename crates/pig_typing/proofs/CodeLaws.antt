-- Lists that the code keeps, as the definitions see them.
use Rattle.std.proofs.Common.{◌≡◌, ◌∙◌, ◌+◌, ◌-◌, ◌<◌, ℕ, suc, List, [], ◌∷◌, ◌++◌, map, length, refl, sym, ap, subst, arith}
use Rattle.std.specs.Prelude.{Option, Some, None, slice_get}
use Rattle.std.proofs.lemmas.List.{append_assoc, length-append, length-map}
use Rattle.pig_value.specs.Trees.{KindTree, kind_tree}
use Rattle.pig_schema.specs.FieldTrees.{FieldTree, tree_name, tree_kind, tree_inner, inner_of, inner_list, name_of, kind_of, names_of, field_step, named_tree, schema_tree}
use Rattle.pig_schema.specs.declared.schema.Field.{Field, out-Field}
use Rattle.pig_schema.specs.declared.schema.Field.TheFolds.{fold_out-Field}
use Rattle.pig_value.specs.FunctionKinds.{function_kind}
use Rattle.pig_value.specs.declared.functions.Function.{Function}
use Rattle.pig_value.specs.declared.values.Kind.{Kind}
use Rattle.pig_typed.specs.ExprKinds.{args_kinds, expr_kind}
use Rattle.pig_typed.specs.Typed.{Typed, x_call, x_field, args_of}
use Rattle.std.specs.declared.result.Result.TheVariants.{Ok}
use Rattle.pig_typing.specs.Results.{Checked}
use Rattle.pig_typing.specs.declared.calls.Casting.{Casting}
use Rattle.pig_typing.specs.Calls.{cast_by, casting, fields_from, kind_after, sized}
use Rattle.pig_typing.specs.Parts.{Typing, kind_in}
use Rattle.pig_typing.specs.Typing.{call_kind, called, cast_kinds, kinds_as_given}
use Rattle.pig_typing.specs.Columns.{later_or}

-- the names and the kinds of fields are those of their trees
pub names_are : (fields : List Field) → names_of fields ≡ map tree_name (schema_tree fields)
names_are [] = refl
names_are (f ∷ fields) =
    let e : name_of f ≡ tree_name (named_tree f) = sym (ap tree_name (fold_out-Field FieldTree field_step f)) in
    let es = names_are fields in cc

pub kinds_are : (fields : List Field) → map kind_tree (map kind_of fields) ≡ map tree_kind (schema_tree fields)
kinds_are [] = refl
kinds_are (f ∷ fields) =
    let e : kind_tree (kind_of f) ≡ tree_kind (named_tree f) = sym (ap tree_kind (fold_out-Field FieldTree field_step f)) in
    let es = kinds_are fields in cc

-- the columns inside a field are those of its tree
pub inner_is : (f : Field) → inner_of (schema_tree (out-Field f).inner) ≡ tree_inner (named_tree f)
inner_is f = sym (ap tree_inner (fold_out-Field FieldTree field_step f))

pub inner_back : (columns : List FieldTree) → inner_list (inner_of columns) ≡ columns
inner_back [] = refl
inner_back (c ∷ columns) = ap (λ cs. c ∷ cs) (inner_back columns)

pub later_none : {A : Type 0} (a : Option A) → later_or a None ≡ a
later_none (Some x) = refl
later_none None = refl

-- a row's fields in turn have its kinds
fields_kinds_from : (before kinds : List KindTree) → args_kinds (args_of (fields_from (length before) (length kinds))) (before ++ kinds) [] ≡ Some kinds
fields_kinds_from before [] = refl
fields_kinds_from before (k ∷ kinds) =
    let here : slice_get (before ++ k ∷ kinds) (length before) ≡ Some k = at_end before k kinds in
    let longer = fields_kinds_from (before ++ k ∷ []) kinds in
    let rest : args_kinds (args_of (fields_from (length before + 1) (length kinds))) (before ++ k ∷ kinds) [] ≡ Some kinds =
    subst (λ n. args_kinds (args_of (fields_from n (length kinds))) (before ++ k ∷ kinds) [] ≡ Some kinds) (length-append before (k ∷ []))
    (subst (λ row. args_kinds (args_of (fields_from (length (before ++ k ∷ [])) (length kinds))) row [] ≡ Some kinds) (append_assoc before (k ∷ []) kinds) longer) in
    rw (here, rest) refl
  where
    at_end : (before : List KindTree) (k : KindTree) (kinds : List KindTree) → slice_get (before ++ k ∷ kinds) (length before) ≡ Some k
    at_end [] k kinds = refl
    at_end (b ∷ before) k kinds = at_end before k kinds

pub fields_kinds : (kinds : List KindTree) → args_kinds (args_of (fields_from 0 (length kinds))) kinds [] ≡ Some kinds
fields_kinds kinds = fields_kinds_from [] kinds

-- one field more
pub fields_step : (before : List Typed) (n count : ℕ) (all : List Typed)
    → n < count → before ++ fields_from n (count - n) ≡ all → (before ++ x_field n ∷ []) ++ fields_from (n + 1) (count - (n + 1)) ≡ all
fields_step before n count all w e =
    let one : count - n ≡ suc (count - (n + 1)) = omega arith in
    let front : before ++ fields_from n (suc (count - (n + 1))) ≡ all = subst (λ m. before ++ fields_from n m ≡ all) one e in
    append_assoc before (x_field n ∷ []) (fields_from (n + 1) (count - (n + 1))) ∙ front

-- so a call on them has the kind that the function gives of the kinds
pub row_call_kind : (f : Function) (ks locals : List Kind) (n : ℕ) (es : List Typed) (call : Typed) (found : Option KindTree)
    → n ≡ length ks → locals ≡ [] → ◌≡◌ {A = Checked (List Typed)} (Ok (fields_from 0 n)) (Ok es) → call ≡ x_call f (args_of es)
    → found ≡ expr_kind call (map kind_tree ks) (map kind_tree locals)
    → ◌≡◌ {A = Checked (Option KindTree)} (Ok (function_kind f (map kind_tree ks))) (Ok found)
row_call_kind f ks locals n es call found counted empty e made e' =
    let l : length (map kind_tree ks) ≡ length ks = length-map ks kind_tree in
    let is : es ≡ fields_from 0 (length (map kind_tree ks)) = cc in
    let whole : expr_kind (x_call f (args_of es)) (map kind_tree ks) [] ≡ function_kind f (map kind_tree ks) = rw (is, fields_kinds (map kind_tree ks)) refl in
    let same : found ≡ expr_kind (x_call f (args_of es)) (map kind_tree ks) [] =
    subst (λ c. found ≡ expr_kind c (map kind_tree ks) []) made (subst (λ ls. found ≡ expr_kind call (map kind_tree ks) (map kind_tree ls)) empty e') in
    ap (λ k. Ok k) (sym (same ∙ whole))

-- the kind of a call, by steps
pub call_kind_is : (f g : Function) (by : Casting) (ps : List Typing) (kinds : List KindTree) (found : Option KindTree)
    → by ≡ casting f (kinds_as_given ps) → ◌≡◌ {A = Checked Function} (Ok (sized f (kinds_as_given ps))) (Ok g)
    → kinds ≡ map (λ p. kind_after (cast_by by (kind_in p)) (kind_in p)) ps → ◌≡◌ {A = Checked (Option KindTree)} (Ok (function_kind g kinds)) (Ok found)
    → ◌≡◌ {A = Checked (Option KindTree)} (Ok (call_kind f ps)) (Ok found)
call_kind_is f g by ps kinds found e1 e2 e3 e4 =
    let as_cast : kinds ≡ cast_kinds f ps = e3 ∙ ap (λ b. map (λ p. kind_after (cast_by b (kind_in p)) (kind_in p)) ps) e1 in
    let named : called f ps ≡ g = cc in
    let is : function_kind (called f ps) (cast_kinds f ps) ≡ function_kind g kinds = cc in
    ap (λ k. Ok k) is ∙ e4
