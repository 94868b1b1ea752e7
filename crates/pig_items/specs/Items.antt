-- Items of GENERATE: the typed items that stand for them, and the columns that they give, with their names.
-- (Pig Latin Basics: "FOREACH", "Flatten Operator", "Schemas". The names that FLATTEN and GENERATE give are choices of this profile.)
use Rattle.std.specs.Prelude.{◌≡◌, ◌++◌, ℕ, Bool, true, false, List, [], ◌∷◌, map, length, Option, Some, None, if◌then◌else◌}
use Rattle.std.specs.declared.result.Result.TheVariants.{Ok, Err}
use Rattle.pig_value.specs.Casts.{may_cast}
use Rattle.pig_value.specs.Kinds.{kind_eq}
use Rattle.pig_value.specs.Trees.{KindTree, k_tuple, k_bag, k_map}
use Rattle.pig_schema.specs.FieldTrees.{FieldTree, inner_list, tree_name, tree_kind, tree_inner}
use Rattle.pig_syntax.specs.ExprTrees.{TypeForm, expr_form, field_form}
use Rattle.pig_syntax.specs.declared.trees.Expr.{Expr}
use Rattle.pig_syntax.specs.declared.trees.AsNames.{AsNames}
use Rattle.pig_syntax.specs.declared.trees.AsNames.TheVariants as names
use Rattle.pig_syntax.specs.declared.trees.Item.{Item}
use Rattle.pig_syntax.specs.declared.trees.Item.TheVariants as item
use Rattle.pig_typed.specs.Typed.{Typed, TypedItem, x_cast}
use Rattle.pig_typing.specs.declared.faults.CheckKind.{CheckKind}
use Rattle.pig_typing.specs.declared.faults.CheckKind.TheVariants as kind
use Rattle.pig_typing.specs.Calls.{fields_from}
use Rattle.pig_typing.specs.Columns.{Place}
use Rattle.pig_typing.specs.Faults.{Faults}
use Rattle.pig_typing.specs.Limits.{limited}
use Rattle.pig_typing.specs.Parts.{Typing, typed_of, typed_column, kind_in, plain_item, under_name}
use Rattle.pig_typing.specs.Reader.{type_of, type_of_cast}
use Rattle.pig_typing.specs.Results.{Checked, due, ◌>>=◌}
use Rattle.pig_typing.specs.Typing.{Types}
use Rattle.pig_typing.specs.Written.{with_name, written}

-- typed items, and the columns of all fields that they give
pub record Generated : Type 0 where
  pub items : List TypedItem
  pub columns : List FieldTree

abbrev pub flat_item : Typed → ℕ → TypedItem
flat_item t width = record { value = t; flatten = true; width = width }

abbrev pub one_column : Typed → FieldTree → Generated
one_column t c = record { items = plain_item t ∷ []; columns = c ∷ [] }

abbrev pub flat_columns : Typed → List FieldTree → Generated
flat_columns t columns = record { items = flat_item t (length columns) ∷ []; columns = columns }

abbrev pub both_items : Generated → Generated → Generated
both_items g h = record { items = g.items ++ h.items; columns = g.columns ++ h.columns }

-- `*`: all fields of the row
abbrev pub whole_row : List FieldTree → Generated
whole_row columns = record { items = map plain_item (fields_from 0 (length columns)); columns = columns }

-- ---- names

-- a name behind AS, with its type where one is written
abbrev pub NameForm : Type 0
NameForm = List ℕ × Option TypeForm

-- what is written behind AS, in parentheses or not
abbrev pub name_forms : AsNames → List NameForm
name_forms (names.One f) = field_form f ∷ []
name_forms (names.Several fs) = map field_form fs

-- the columns that FLATTEN gives: of a tuple or a bag those inside, of a map none, and of another kind the column itself
abbrev pub open_fields : KindTree → FieldTree → Option (List FieldTree)
open_fields (k_tuple ks) c = Some (map (under_name (tree_name c)) (inner_list (tree_inner c)))
open_fields (k_bag ks) c = Some (map (under_name (tree_name c)) (inner_list (tree_inner c)))
open_fields (k_map k) c = None
open_fields k c = Some (c ∷ [])

abbrev pub flattened_columns : FieldTree → Option (List FieldTree)
flattened_columns c = open_fields (tree_kind c) c

-- ---- AS without FLATTEN: the one field gets the name, and the type by a cast

pub data Named : Typing → NameForm → Generated → Type 0 where
  named_bare : {p : Typing} {name : List ℕ} → Named p (name, None) (one_column (typed_of p) (with_name name (typed_column p)))
  named_cast : {p : Typing} {name : List ℕ} {type : TypeForm} {d : FieldTree} {k : KindTree}
      → written type ≡ Some d → limited (tree_kind d) ≡ Ok k → may_cast (kind_in p) (tree_kind d) ≡ true
      → Named p (name, Some type) (one_column (x_cast (tree_kind d) (typed_of p)) (with_name name d))

pub data NamedNot : Typing → NameForm → CheckKind → Type 0 where
  of_float : {p : Typing} {name : List ℕ} {type : TypeForm} → written type ≡ None → NamedNot p (name, Some type) kind.FloatType
  of_size : {p : Typing} {name : List ℕ} {type : TypeForm} {d : FieldTree} {f : CheckKind} → written type ≡ Some d → limited (tree_kind d) ≡ Err f → NamedNot p (name, Some type) f
  of_no_cast : {p : Typing} {name : List ℕ} {type : TypeForm} {d : FieldTree}
      → written type ≡ Some d → may_cast (kind_in p) (tree_kind d) ≡ false → NamedNot p (name, Some type) kind.TypeMismatch

-- ---- AS with FLATTEN: each field gets its name, and its type is the one that it has

pub data Renamed : FieldTree → NameForm → FieldTree → Type 0 where
  renamed_bare : {c : FieldTree} {name : List ℕ} → Renamed c (name, None) (with_name name c)
  renamed_typed : {c d : FieldTree} {k : KindTree} {name : List ℕ} {type : TypeForm}
      → written type ≡ Some d → limited (tree_kind d) ≡ Ok k → kind_eq (tree_kind d) (tree_kind c) ≡ true → Renamed c (name, Some type) (with_name name d)

pub data RenamedNot : FieldTree → NameForm → CheckKind → Type 0 where
  of_float_field : {c : FieldTree} {name : List ℕ} {type : TypeForm} → written type ≡ None → RenamedNot c (name, Some type) kind.FloatType
  of_field_size : {c d : FieldTree} {name : List ℕ} {type : TypeForm} {f : CheckKind} → written type ≡ Some d → limited (tree_kind d) ≡ Err f → RenamedNot c (name, Some type) f
  of_other_field : {c d : FieldTree} {name : List ℕ} {type : TypeForm}
      → written type ≡ Some d → kind_eq (tree_kind d) (tree_kind c) ≡ false → RenamedNot c (name, Some type) kind.TypeMismatch

-- as many names as fields
abbrev pub as_many : List FieldTree → List NameForm → Bool
as_many [] [] = true
as_many (c ∷ cs) (f ∷ fs) = as_many cs fs
as_many cs fs = false

-- each field with its own name
pub data AllRenamed : List FieldTree → List NameForm → List FieldTree → Type 0 where
  none_renamed : AllRenamed [] [] []
  one_renamed : {c d : FieldTree} {cs ds : List FieldTree} {f : NameForm} {fs : List NameForm} → Renamed c f d → AllRenamed cs fs ds → AllRenamed (c ∷ cs) (f ∷ fs) (d ∷ ds)

-- one of them can't have its name
pub data OneRenamedNot : List FieldTree → List NameForm → CheckKind → Type 0 where
  here_renamed_not : {c : FieldTree} {cs : List FieldTree} {f : NameForm} {fs : List NameForm} {r : CheckKind} → RenamedNot c f r → OneRenamedNot (c ∷ cs) (f ∷ fs) r
  later_renamed_not : {c : FieldTree} {cs : List FieldTree} {f : NameForm} {fs : List NameForm} {r : CheckKind} → OneRenamedNot cs fs r → OneRenamedNot (c ∷ cs) (f ∷ fs) r

-- Another number of names than of fields is that alone: where no field has its name, no kinds are compared.
pub data AllRenamedNot (cs : List FieldTree) (fs : List NameForm) : CheckKind → Type 0 where
  another_number : as_many cs fs ≡ false → AllRenamedNot cs fs kind.SchemaMismatch
  one_renamed_not : {r : CheckKind} → as_many cs fs ≡ true → OneRenamedNot cs fs r → AllRenamedNot cs fs r

-- ---- an item

-- the one name, where there is one
abbrev pub only_name : List NameForm → Option NameForm
only_name (f ∷ []) = Some f
only_name fs = None

pub data Plain : Typing → Option AsNames → Generated → Type 0 where
  plain_bare : {p : Typing} → Plain p None (one_column (typed_of p) (typed_column p))
  plain_named : {p : Typing} {names : AsNames} {f : NameForm} {g : Generated} → only_name (name_forms names) ≡ Some f → Named p f g → Plain p (Some names) g

pub data PlainNot : Typing → Option AsNames → CheckKind → Type 0 where
  not_one_name : {p : Typing} {names : AsNames} → only_name (name_forms names) ≡ None → PlainNot p (Some names) kind.SchemaMismatch
  not_named : {p : Typing} {names : AsNames} {f : NameForm} {r : CheckKind} → only_name (name_forms names) ≡ Some f → NamedNot p f r → PlainNot p (Some names) r

pub data Flat : Typing → Option AsNames → Generated → Type 0 where
  flat_bare : {p : Typing} {columns : List FieldTree} → flattened_columns (typed_column p) ≡ Some columns → Flat p None (flat_columns (typed_of p) columns)
  flat_named : {p : Typing} {names : AsNames} {columns renamed : List FieldTree}
      → flattened_columns (typed_column p) ≡ Some columns → AllRenamed columns (name_forms names) renamed → Flat p (Some names) (flat_columns (typed_of p) renamed)

pub data FlatNot : Typing → Option AsNames → CheckKind → Type 0 where
  of_a_map : {p : Typing} {names : Option AsNames} → flattened_columns (typed_column p) ≡ None → FlatNot p names kind.TypeMismatch
  not_renamed : {p : Typing} {names : AsNames} {columns : List FieldTree} {r : CheckKind}
      → flattened_columns (typed_column p) ≡ Some columns → AllRenamedNot columns (name_forms names) r → FlatNot p (Some names) r

pub data Generates (s : Place) : Item → Generated → Type 0 where
  generates_all : Generates s item.All (whole_row s.columns)
  generates_value : {value : Expr} {names : Option AsNames} {p : Typing} {g : Generated}
      → Types s (expr_form value) p → Plain p names g → Generates s (item.Value value false names) g
  generates_flat : {value : Expr} {names : Option AsNames} {p : Typing} {g : Generated}
      → Types s (expr_form value) p → Flat p names g → Generates s (item.Value value true names) g

pub data GeneratesNot (s : Place) : Item → CheckKind → Type 0 where
  untyped_item : {value : Expr} {flatten : Bool} {names : Option AsNames} {r : CheckKind} → Faults s (expr_form value) r → GeneratesNot s (item.Value value flatten names) r
  no_plain : {value : Expr} {names : Option AsNames} {p : Typing} {r : CheckKind}
      → Types s (expr_form value) p → PlainNot p names r → GeneratesNot s (item.Value value false names) r
  no_flat : {value : Expr} {names : Option AsNames} {p : Typing} {r : CheckKind}
      → Types s (expr_form value) p → FlatNot p names r → GeneratesNot s (item.Value value true names) r

-- ---- items in turn

abbrev pub nothing_generated : Generated
nothing_generated = record { items = []; columns = [] }

pub data AllGenerate (s : Place) : List Item → Generated → Type 0 where
  none_generate : AllGenerate s [] nothing_generated
  more_generate : {i : Item} {is : List Item} {g h : Generated} → Generates s i g → AllGenerate s is h → AllGenerate s (i ∷ is) (both_items g h)

pub data AllGenerateNot (s : Place) : List Item → CheckKind → Type 0 where
  here_not : {i : Item} {is : List Item} {r : CheckKind} → GeneratesNot s i r → AllGenerateNot s (i ∷ is) r
  later_not : {i : Item} {is : List Item} {r : CheckKind} → AllGenerateNot s is r → AllGenerateNot s (i ∷ is) r

-- ---- the same as functions

unfoldable pub cast_named : Typing → List ℕ → FieldTree → Checked Generated
cast_named p name d = if may_cast (kind_in p) (tree_kind d) then Ok (one_column (x_cast (tree_kind d) (typed_of p)) (with_name name d)) else Err kind.TypeMismatch

unfoldable pub named_of : Typing → NameForm → Checked Generated
named_of p (name, None) = Ok (one_column (typed_of p) (with_name name (typed_column p)))
named_of p (name, Some type) = do
  d ← type_of_cast type
  cast_named p name d

unfoldable pub same_named : FieldTree → List ℕ → FieldTree → Checked FieldTree
same_named c name d = if kind_eq (tree_kind d) (tree_kind c) then Ok (with_name name d) else Err kind.TypeMismatch

unfoldable pub renamed_of : FieldTree → NameForm → Checked FieldTree
renamed_of c (name, None) = Ok (with_name name c)
renamed_of c (name, Some type) = do
  d ← type_of_cast type
  same_named c name d

-- as many names as fields
unfoldable pub each_renamed : List FieldTree → List NameForm → Checked (List FieldTree)
each_renamed (c ∷ cs) (f ∷ fs) = do
  d ← renamed_of c f
  ds ← each_renamed cs fs
  Ok (d ∷ ds)
each_renamed cs fs = Ok []

unfoldable pub all_renamed : List FieldTree → List NameForm → Checked (List FieldTree)
all_renamed cs fs = if as_many cs fs then each_renamed cs fs else Err kind.SchemaMismatch

unfoldable pub plain_of : Typing → Option AsNames → Checked Generated
plain_of p None = Ok (one_column (typed_of p) (typed_column p))
plain_of p (Some names) = do
  f ← due kind.SchemaMismatch (only_name (name_forms names))
  named_of p f

unfoldable pub names_for : List FieldTree → Option AsNames → Checked (List FieldTree)
names_for columns None = Ok columns
names_for columns (Some names) = all_renamed columns (name_forms names)

unfoldable pub flat_of : Typing → Option AsNames → Checked Generated
flat_of p names = do
  columns ← due kind.TypeMismatch (flattened_columns (typed_column p))
  named ← names_for columns names
  Ok (flat_columns (typed_of p) named)

abbrev pub item_value : Typing → Bool → Option AsNames → Checked Generated
item_value p true names = flat_of p names
item_value p false names = plain_of p names

unfoldable pub item_of : Place → Item → Checked Generated
item_of s item.All = Ok (whole_row s.columns)
item_of s (item.Value value flatten names) = do
  p ← type_of s (expr_form value)
  item_value p flatten names

unfoldable pub items_of : Place → List Item → Checked Generated
items_of s [] = Ok nothing_generated
items_of s (i ∷ is) = do
  g ← item_of s i
  h ← items_of s is
  Ok (both_items g h)
