-- The keys of an ORDER: the fields that rows are sorted by, each with its place and its direction.
-- (Pig Latin Basics: "ORDER BY". That a key holds no bag and no map, and that a field of tuple kind may be one, are choices of this profile.)
use Rattle.std.specs.Prelude.{◌≡◌, ◌+◌, ℕ, zero, suc, true, false, List, [], ◌∷◌, length, if◌then◌else◌}
use Rattle.std.specs.declared.result.Result.TheVariants.{Ok, Err}
use Rattle.pig_value.specs.Kinds.{has_bag_or_map}
use Rattle.pig_value.specs.declared.operators.Dir.{Dir}
use Rattle.pig_schema.specs.FieldTrees.{FieldTree, tree_kind}
use Rattle.pig_syntax.specs.declared.trees.FieldRef.{FieldRef}
use Rattle.pig_syntax.specs.declared.trees.FieldRef.TheVariants as ref
use Rattle.pig_syntax.specs.declared.trees.OrderField.{OrderField}
use Rattle.pig_syntax.specs.declared.trees.OrderKeys.{OrderKeys}
use Rattle.pig_syntax.specs.declared.trees.OrderKeys.TheVariants as keys
use Rattle.pig_typed.specs.declared.blocks.SortKey.{SortKey}
use Rattle.pig_typing.specs.declared.faults.CheckKind.{CheckKind}
use Rattle.pig_typing.specs.declared.faults.CheckKind.TheVariants as kind
use Rattle.pig_typing.specs.Columns.{RefersTo, RefersToNone, refer}
use Rattle.pig_typing.specs.Results.{Checked, ◌>>=◌}

-- ---- the fields that are meant

-- so many fields from a place on, each in the same direction
abbrev pub fields_in : Dir → ℕ → ℕ → List OrderField
fields_in d place zero = []
fields_in d place (suc count) = record { field = ref.Position place; dir = d } ∷ fields_in d (place + 1) count

-- `*` means all fields in its direction
abbrev pub fields_meant : List FieldTree → OrderKeys → List OrderField
fields_meant columns (keys.All d) = fields_in d 0 (length columns)
fields_meant columns (keys.Fields fields) = fields

-- ---- keys

abbrev pub sort_key : ℕ → Dir → SortKey
sort_key place d = record { position = place; dir = d }

pub data KeysAre (columns : List FieldTree) : List OrderField → List SortKey → Type 0 where
  no_keys : KeysAre columns [] []
  more_keys : {o : OrderField} {others : List OrderField} {n : ℕ} {c : FieldTree} {ks : List SortKey}
      → RefersTo columns o.field n c → has_bag_or_map (tree_kind c) ≡ false → KeysAre columns others ks
      → KeysAre columns (o ∷ others) (sort_key n o.dir ∷ ks)

-- one of them means no field, or a field that is no key
pub data KeysAreNot (columns : List FieldTree) : List OrderField → CheckKind → Type 0 where
  no_field : {o : OrderField} {others : List OrderField} {f : CheckKind} → RefersToNone columns o.field f → KeysAreNot columns (o ∷ others) f
  bad_key : {o : OrderField} {others : List OrderField} {n : ℕ} {c : FieldTree}
      → RefersTo columns o.field n c → has_bag_or_map (tree_kind c) ≡ true → KeysAreNot columns (o ∷ others) kind.BadKey
  later_key : {o : OrderField} {others : List OrderField} {f : CheckKind} → KeysAreNot columns others f → KeysAreNot columns (o ∷ others) f

-- one key at least
pub data SortsBy (columns : List FieldTree) (order : OrderKeys) : List SortKey → Type 0 where
  sorts_by : {k : SortKey} {ks : List SortKey} → KeysAre columns (fields_meant columns order) (k ∷ ks) → SortsBy columns order (k ∷ ks)

pub data SortsByNot (columns : List FieldTree) (order : OrderKeys) : CheckKind → Type 0 where
  by_no_field : fields_meant columns order ≡ [] → SortsByNot columns order kind.BadKey
  by_no_key : {f : CheckKind} → KeysAreNot columns (fields_meant columns order) f → SortsByNot columns order f

-- ---- the same as functions

unfoldable pub as_key : ℕ × FieldTree → Dir → Checked SortKey
as_key p d = if has_bag_or_map (tree_kind p.1) then Err kind.BadKey else Ok (sort_key p.0 d)

unfoldable pub key_of : List FieldTree → FieldRef → Dir → Checked SortKey
key_of columns r d = do
  p ← refer columns r
  as_key p d

unfoldable pub keys_of : List FieldTree → List OrderField → Checked (List SortKey)
keys_of columns [] = Ok []
keys_of columns (o ∷ others) = do
  k ← key_of columns o.field o.dir
  ks ← keys_of columns others
  Ok (k ∷ ks)

abbrev pub some_keys : List SortKey → Checked (List SortKey)
some_keys [] = Err kind.BadKey
some_keys (k ∷ ks) = Ok (k ∷ ks)

unfoldable pub sorted_by : List FieldTree → OrderKeys → Checked (List SortKey)
sorted_by columns order = do
  ks ← keys_of columns (fields_meant columns order)
  some_keys ks
