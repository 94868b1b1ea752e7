-- Fields and schemas as trees, and when the inner fields of a field are those of its kind.
use Rattle.std.specs.Prelude.{◌≡◌, ℕ, List, [], ◌∷◌, map}
use Rattle.std.specs.declared.option.Option.{Option}
use Rattle.pig_value.specs.Trees.{KindTree, KindTrees, k_tuple, k_bag, k_map, no_kinds, more_kinds, kind_tree}
use Rattle.pig_value.specs.declared.values.Kind.{Kind}
use Rattle.pig_schema.specs.declared.schema.Field.{Field, out-Field}
use Rattle.pig_schema.specs.declared.schema.Field.TheOpen.{Field-F}
use Rattle.pig_schema.specs.declared.schema.Field.TheFolds.{fold-Field}

-- the name of a field, where it has one
abbrev pub name_of : Field → Option (List ℕ)
name_of field = (out-Field field).name

-- the kind of a field
abbrev pub kind_of : Field → Kind
kind_of field = (out-Field field).kind

-- the names of a schema's fields
abbrev pub names_of : List Field → List (Option (List ℕ))
names_of = map name_of

-- a field: its name, its kind, and the fields inside it
mutual
  pub data FieldTree : Type 0 where
    a_field : Option (List ℕ) → KindTree → FieldTrees → FieldTree

  pub data FieldTrees : Type 0 where
    no_inner : FieldTrees
    more_inner : FieldTree → FieldTrees → FieldTrees

abbrev pub inner_of : List FieldTree → FieldTrees
inner_of [] = no_inner
inner_of (f ∷ fs) = more_inner f (inner_of fs)

abbrev pub inner_list : FieldTrees → List FieldTree
inner_list no_inner = []
inner_list (more_inner f fs) = f ∷ inner_list fs

abbrev pub field_step : Field-F FieldTree → FieldTree
field_step f = a_field f.name (kind_tree f.kind) (inner_of f.inner)

-- a field and a schema as trees
abbrev pub named_tree : Field → FieldTree
named_tree = fold-Field FieldTree field_step

abbrev pub schema_tree : List Field → List FieldTree
schema_tree = map named_tree

-- what stands in the tree of a field
abbrev pub tree_name : FieldTree → Option (List ℕ)
tree_name (a_field name _ _) = name

abbrev pub tree_kind : FieldTree → KindTree
tree_kind (a_field _ kind _) = kind

abbrev pub tree_inner : FieldTree → FieldTrees
tree_inner (a_field _ _ inner) = inner

-- The fields inside a field are those of its kind: of a tuple, or of a bag's tuples, one for each field and of that
-- field's kind; of a map those of its values; of other kinds none.
abbrev mutual
  pub HasInner : KindTree → FieldTrees → Type 0
  HasInner (k_tuple ks) inner = AreInner ks inner
  HasInner (k_bag ks) inner = AreInner ks inner
  HasInner (k_map k) inner = HasInner k inner
  HasInner k inner = inner ≡ no_inner

  pub AreInner : KindTrees → FieldTrees → Type 0
  AreInner no_kinds inner = inner ≡ no_inner
  AreInner (more_kinds k ks) no_inner = ⊥
  AreInner (more_kinds k ks) (more_inner f fs) = (tree_kind f ≡ k) × HasInner k (tree_inner f) × AreInner ks fs

-- the inner fields of a field, and of each field of a schema, are those of its kind
abbrev pub IsColumn : FieldTree → Type 0
IsColumn f = HasInner (tree_kind f) (tree_inner f)
