-- What is read as a type, at any depth of brackets, stands by its rule; a type in a cast too.
use Rattle.std.proofs.Common.{ℕ, zero, suc, List, ◌∷◌}
use Rattle.pig_syntax.specs.declared.tokens.Keyword.TheVariants as k
use Rattle.pig_syntax.specs.declared.tokens.Symbol.TheVariants as s
use Rattle.pig_syntax.specs.declared.tokens.TokenForm.TheVariants as f
use Rattle.pig_syntax.specs.declared.trees.FieldTree.{FieldTree}
use Rattle.pig_syntax.specs.declared.trees.TypeTree.{TypeTree}
use Rattle.pig_exprs.specs.Grammar.{Forms, Listed, scalar_of, IsType, IsTuple, IsBag, IsMap, IsSchema, AreSchemaFields, IsSchemaField, IsCastType}
use Rattle.pig_exprs.specs.Reader.{FoundPart, field_at, schema_at, tuple_at, bag_rows_at, bag_at, map_at, cast_type_with, type_with, type_at}
use Rattle.pig_exprs.proofs.Options.{Holds, itself, holds_then, holds_map, holds_weaken}
use Rattle.pig_exprs.proofs.ListSound.{Upholds, listed_upholds, symbol_stands}

-- a list of fields
pub are_fields : {ts rest : Forms} {fields : List FieldTree} → Listed IsSchemaField ts fields rest → AreSchemaFields ts fields rest
are_fields (Listed.last field) = AreSchemaFields.fields_last field
are_fields (Listed.more field fields) = AreSchemaFields.fields_more field (are_fields fields)

-- each type of a cast is a type
pub cast_is_type : {ts rest : Forms} {type : TypeTree} → IsCastType ts type rest → IsType ts type rest
cast_is_type (IsCastType.cast_scalar e) = IsType.type_scalar e
cast_is_type (IsCastType.cast_tuple fields) = IsType.type_tuple (IsTuple.tuple_word fields)
cast_is_type (IsCastType.cast_bag fields) = IsType.type_bag_word fields
cast_is_type (IsCastType.cast_map values) = IsType.type_map_word values

-- by the types inside
module _ (inner : Forms → FoundPart TypeTree) (inside : Upholds inner IsType) where
  pub field_upholds : Upholds (field_at inner) IsSchemaField
  unfolding field_at
  field_upholds (f.Ident name ∷ f.Symbol s.Colon ∷ ts) = holds_map _ (inside ts) (λ p type. IsSchemaField.field_typed type)
  field_upholds (f.Ident name ∷ ts) = Holds.just IsSchemaField.field_bare
  field_upholds _ = Holds.nothing

  pub schema_upholds : Upholds (schema_at inner) IsSchema
  unfolding schema_at
  schema_upholds (f.Symbol s.OpenParen ∷ ts) =
      holds_then _ (listed_upholds (field_at inner) IsSchemaField field_upholds ts) (λ fields l.
      holds_then _ (symbol_stands s.CloseParen (Listed IsSchemaField ts fields.0) fields.1 l) (λ rest l. Holds.just (IsSchema.schema (are_fields l))))
  schema_upholds _ = Holds.nothing

  pub tuple_upholds : Upholds (tuple_at inner) IsTuple
  unfolding tuple_at
  tuple_upholds (f.Keyword k.Tuple ∷ ts) = holds_weaken (schema_upholds ts) (λ p fields. IsTuple.tuple_word fields)
  tuple_upholds ts = holds_weaken (schema_upholds ts) (λ p fields. IsTuple.tuple_bare fields)

  bag_rows_close : (ts : Forms) → Holds (λ p. IsTuple ts p.0 (f.Symbol s.CloseBrace ∷ p.1)) (bag_rows_at inner ts)
  unfolding bag_rows_at
  bag_rows_close ts =
      holds_then _ (tuple_upholds ts) (λ fields rows.
      holds_then _ (symbol_stands s.CloseBrace (IsTuple ts fields.0) fields.1 rows) (λ rest rows. Holds.just rows))

  pub bag_upholds : Upholds (bag_at inner) IsBag
  unfolding bag_at
  bag_upholds (f.Symbol s.OpenBrace ∷ f.Ident name ∷ f.Symbol s.Colon ∷ ts) = holds_weaken (bag_rows_close ts) (λ p rows. IsBag.bag_named rows)
  bag_upholds (f.Symbol s.OpenBrace ∷ ts) = holds_weaken (bag_rows_close ts) (λ p rows. IsBag.bag_bare rows)
  bag_upholds _ = Holds.nothing

  pub map_upholds : Upholds (map_at inner) IsMap
  unfolding map_at
  map_upholds (f.Symbol s.OpenBracket ∷ f.Symbol s.CloseBracket ∷ ts) = Holds.just IsMap.map_bare
  map_upholds (f.Symbol s.OpenBracket ∷ ts) =
      holds_then _ (inside ts) (λ values type.
      holds_then _ (symbol_stands s.CloseBracket (IsType ts values.0) values.1 type) (λ rest type. Holds.just (IsMap.map_typed type)))
  map_upholds _ = Holds.nothing

  pub cast_type_upholds : Upholds (cast_type_with inner) IsCastType
  unfolding cast_type_with
  cast_type_upholds (f.Keyword k.Tuple ∷ ts) = holds_map _ (schema_upholds ts) (λ p fields. IsCastType.cast_tuple fields)
  cast_type_upholds (f.Keyword k.Bag ∷ ts) = holds_map _ (bag_upholds ts) (λ p fields. IsCastType.cast_bag fields)
  cast_type_upholds (f.Keyword k.Map ∷ ts) = holds_map _ (map_upholds ts) (λ p values. IsCastType.cast_map values)
  cast_type_upholds (f.Keyword word ∷ ts) = holds_map _ (itself (scalar_of word)) (λ scalar e. IsCastType.cast_scalar e)
  cast_type_upholds _ = Holds.nothing

  pub type_with_upholds : Upholds (type_with inner) IsType
  unfolding type_with
  type_with_upholds (f.Symbol s.OpenParen ∷ ts) = holds_map _ (schema_upholds (f.Symbol s.OpenParen ∷ ts)) (λ p fields. IsType.type_tuple (IsTuple.tuple_bare fields))
  type_with_upholds (f.Symbol s.OpenBrace ∷ ts) = holds_map _ (bag_upholds (f.Symbol s.OpenBrace ∷ ts)) (λ p fields. IsType.type_bag fields)
  type_with_upholds (f.Symbol s.OpenBracket ∷ ts) = holds_map _ (map_upholds (f.Symbol s.OpenBracket ∷ ts)) (λ p values. IsType.type_map values)
  type_with_upholds ts = holds_weaken (cast_type_upholds ts) (λ p type. cast_is_type type)

pub type_upholds : (depth : ℕ) → Upholds (type_at depth) IsType
unfolding type_at
type_upholds zero ts = Holds.nothing
type_upholds (suc depth) ts = type_with_upholds (type_at depth) (type_upholds depth) ts
