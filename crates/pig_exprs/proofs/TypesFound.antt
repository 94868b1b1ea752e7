-- Types and schemas are found where they stand.
use Rattle.std.proofs.Common.{◌≡◌, ℕ, zero, suc, ◌<◌, ◌≤◌, refl, ◌∙◌, ap, List, ◌∷◌, arith}
use Rattle.std.specs.Prelude.{Option, Some, None}
use Rattle.std.specs.Option.{option_map, option_and_then}
use Rattle.pig_syntax.specs.declared.tokens.Keyword.{Keyword}
use Rattle.pig_syntax.specs.declared.tokens.Keyword.TheVariants as k
use Rattle.pig_syntax.specs.declared.tokens.Symbol.TheVariants as s
use Rattle.pig_syntax.specs.declared.tokens.TokenForm.TheVariants as f
use Rattle.pig_syntax.specs.declared.trees.FieldTree.{FieldTree}
use Rattle.pig_syntax.specs.declared.trees.TypeTree.{TypeTree}
use Rattle.pig_syntax.specs.declared.trees.TypeTree.TheVariants as type
use Rattle.pig_exprs.specs.Grammar.{Forms, scalar_of, IsType, type_scalar, type_tuple, type_bag, type_bag_word, type_map, type_map_word, IsTuple, tuple_bare, tuple_word, IsBag, bag_bare, bag_named, IsMap, map_bare, map_typed, IsSchema, schema, AreSchemaFields, fields_last, fields_more, IsSchemaField, field_bare, field_typed, IsCastType, cast_scalar, cast_tuple, cast_bag, cast_map}
use Rattle.pig_exprs.specs.Reader.{FoundPart, comma_turn, after_symbol, field_at, schema_at, tuple_at, bag_rows_at, bag_at, map_at, cast_type_with, type_with, type_at}
use Rattle.pig_exprs.proofs.Fits.{Fits}
use Rattle.pig_exprs.proofs.Finds.{Finds, FindsAll, finds_map, finds_last, finds_more, finds_listed}

-- ---- which rule a reader takes

-- a word alone
scalar_found : (inner : Forms → FoundPart TypeTree) (word : Keyword) (type : TypeTree) (ts : Forms) → scalar_of word ≡ Some type → cast_type_with inner (f.Keyword word ∷ ts) ≡ Some (type, ts)
unfolding cast_type_with
scalar_found inner k.Tuple type ts h = absurd (cc)
scalar_found inner k.Bag type ts h = absurd (cc)
scalar_found inner k.Map type ts h = absurd (cc)
scalar_found inner word type ts h = ap (option_map (λ scalar. (scalar, ts))) h

scalar_fits : (word : Keyword) (type : TypeTree) (ts : Forms) (d : ℕ) → scalar_of word ≡ Some type → Fits (f.Keyword word ∷ ts) d → Fits ts d
unfolding Fits
scalar_fits k.Case type ts d h fits = absurd (cc)
scalar_fits k.End type ts d h fits = absurd (cc)
scalar_fits word type ts d h fits = fits

bare_field : (inner : Forms → FoundPart TypeTree) (text : List ℕ) (rest : Forms) → after_symbol s.Colon rest ≡ None → field_at inner (f.Ident text ∷ rest) ≡ Some (record { name = text; kind = None }, rest)
unfolding after_symbol field_at
bare_field inner text (f.Symbol s.Colon ∷ ts) h = absurd (cc)
bare_field inner text rest h = refl

-- the tuple's fields, with no word in front
tuple_of_schema : (inner : Forms → FoundPart TypeTree) {ts rest : Forms} {fields : List FieldTree} → IsSchema ts fields rest → tuple_at inner ts ≡ schema_at inner ts
unfolding tuple_at
tuple_of_schema inner (schema h) = refl

type_of_tuple : (inner : Forms → FoundPart TypeTree) {ts rest : Forms} {fields : List FieldTree} → IsTuple ts fields rest → type_with inner ts ≡ option_map (λ p. (type.Tuple p.0, p.1)) (tuple_at inner ts)
unfolding tuple_at type_with cast_type_with
type_of_tuple inner (tuple_bare (schema h)) = refl
type_of_tuple inner (tuple_word h) = refl

type_of_bag : (inner : Forms → FoundPart TypeTree) {ts rest : Forms} {fields : List FieldTree} → IsBag ts fields rest → type_with inner ts ≡ option_map (λ p. (type.Bag p.0, p.1)) (bag_at inner ts)
unfolding type_with
type_of_bag inner (bag_bare h) = refl
type_of_bag inner (bag_named h) = refl

type_of_map : (inner : Forms → FoundPart TypeTree) {ts rest : Forms} {values : Option TypeTree} → IsMap ts values rest → type_with inner ts ≡ option_map (λ p. (type.Map p.0, p.1)) (map_at inner ts)
unfolding type_with
type_of_map inner map_bare = refl
type_of_map inner (map_typed h) = refl

-- no name stands before the rows of a bag
bag_of_tuple : (inner : Forms → FoundPart TypeTree) {ts rest : Forms} {fields : List FieldTree} → IsTuple ts fields rest → bag_at inner (f.Symbol s.OpenBrace ∷ ts) ≡ bag_rows_at inner ts
unfolding bag_at
bag_of_tuple inner (tuple_bare (schema h)) = refl
bag_of_tuple inner (tuple_word h) = refl

-- a map with a type of its values
map_of_type : (inner : Forms → FoundPart TypeTree) {ts rest : Forms} {type : TypeTree} → IsType ts type rest
    → map_at inner (f.Symbol s.OpenBracket ∷ ts) ≡ option_and_then (λ values. option_and_then (λ rest. Some (Some values.0, rest)) (after_symbol s.CloseBracket values.1)) (inner ts)
unfolding map_at
map_of_type inner (type_scalar h) = refl
map_of_type inner (type_tuple (tuple_bare (schema h))) = refl
map_of_type inner (type_tuple (tuple_word h)) = refl
map_of_type inner (type_bag (bag_bare h)) = refl
map_of_type inner (type_bag (bag_named h)) = refl
map_of_type inner (type_bag_word h) = refl
map_of_type inner (type_map map_bare) = refl
map_of_type inner (type_map (map_typed h)) = refl
map_of_type inner (type_map_word h) = refl

-- a type inside one bracket more
deeper : {ts rest : Forms} {type : TypeTree} (n d : ℕ) → d < n → ((m : ℕ) → d ≤ m → Finds (type_with (type_at m)) ts type rest d) → Finds (type_at n) ts type rest d
unfolding type_at
deeper zero d low given = absurd (omega (arith, low))
deeper (suc m) d low given =
    let found = given m (omega (arith, low)) in
    record { finds = found.finds; fits = found.fits; shorter = found.shorter }

-- ---- types

mutual
  unfolding Fits tuple_at bag_rows_at bag_at map_at schema_at field_at type_with cast_type_with after_symbol comma_turn

  pub type_found : {ts rest : Forms} {type : TypeTree} → IsType ts type rest → (d n : ℕ) → Fits ts d → d < n → Finds (type_at n) ts type rest d
  type_found (type_scalar {ts = ts} {word = word} {type = type} h) d n fits low =
      deeper n d low (λ m below. record { finds = scalar_found (type_at m) word type ts h; fits = scalar_fits word type ts d h fits; shorter = omega arith })
  type_found (type_tuple h) d n fits low = deeper n d low (λ m below. finds_map (tuple_found h d m fits below) (type_with (type_at m)) _ type.Tuple (type_of_tuple (type_at m) h) (omega arith))
  type_found (type_bag h) d n fits low = deeper n d low (λ m below. finds_map (bag_found h d m fits below) (type_with (type_at m)) _ type.Bag (type_of_bag (type_at m) h) (omega arith))
  type_found (type_bag_word h) d n fits low = deeper n d low (λ m below. finds_map (bag_found h d m fits below) (type_with (type_at m)) _ type.Bag refl (omega arith))
  type_found (type_map h) d n fits low = deeper n d low (λ m below. finds_map (map_found h d m fits below) (type_with (type_at m)) _ type.Map (type_of_map (type_at m) h) (omega arith))
  type_found (type_map_word h) d n fits low = deeper n d low (λ m below. finds_map (map_found h d m fits below) (type_with (type_at m)) _ type.Map refl (omega arith))

  tuple_found : {ts rest : Forms} {fields : List FieldTree} → IsTuple ts fields rest → (d n : ℕ) → Fits ts d → d ≤ n → Finds (tuple_at (type_at n)) ts fields rest d
  tuple_found (tuple_bare h) d n fits low =
      let found = schema_found h d n fits low in
      record { finds = tuple_of_schema (type_at n) h ∙ found.finds; fits = found.fits; shorter = found.shorter }
  tuple_found (tuple_word h) d n fits low =
      let found = schema_found h d n fits low in
      record { finds = found.finds; fits = found.fits; shorter = omega (arith, found.shorter) }

  bag_found : {ts rest : Forms} {fields : List FieldTree} → IsBag ts fields rest → (d n : ℕ) → Fits ts d → d ≤ n → Finds (bag_at (type_at n)) ts fields rest d
  bag_found (bag_bare h) zero n fits low = absurd fits
  bag_found (bag_bare {ts = ts} {fields = fields} h) (suc d) n fits low =
      let found = tuple_found h d n fits (omega (arith, low)) in
      record { finds = bag_of_tuple (type_at n) h ∙ rw found.finds refl; fits = found.fits; shorter = omega (arith, found.shorter) }
  bag_found (bag_named h) zero n fits low = absurd fits
  bag_found (bag_named h) (suc d) n fits low =
      let found = tuple_found h d n fits (omega (arith, low)) in
      record { finds = rw found.finds refl; fits = found.fits; shorter = omega (arith, found.shorter) }

  map_found : {ts rest : Forms} {values : Option TypeTree} → IsMap ts values rest → (d n : ℕ) → Fits ts d → d ≤ n → Finds (map_at (type_at n)) ts values rest d
  map_found map_bare zero n fits low = absurd fits
  map_found map_bare (suc d) n fits low = record { finds = refl; fits = fits; shorter = omega arith }
  map_found (map_typed h) zero n fits low = absurd fits
  map_found (map_typed h) (suc d) n fits low =
      let found = type_found h d n fits (omega (arith, low)) in
      record { finds = map_of_type (type_at n) h ∙ rw found.finds refl; fits = found.fits; shorter = omega (arith, found.shorter) }

  pub schema_found : {ts rest : Forms} {fields : List FieldTree} → IsSchema ts fields rest → (d n : ℕ) → Fits ts d → d ≤ n → Finds (schema_at (type_at n)) ts fields rest d
  schema_found (schema h) zero n fits low = absurd fits
  schema_found (schema h) (suc d) n fits low =
      let found = finds_listed (fields_found h d n fits (omega (arith, low)) refl refl) in
      record { finds = rw found.finds refl; fits = found.fits; shorter = omega (arith, found.shorter) }

  fields_found : {ts rest : Forms} {fields : List FieldTree} → AreSchemaFields ts fields rest → (d n : ℕ) → Fits ts d → d < n → after_symbol s.Colon rest ≡ None → comma_turn (field_at (type_at n)) rest ≡ Some None
      → FindsAll (field_at (type_at n)) ts fields rest d
  fields_found (fields_last h) d n fits low bare ends = finds_last (field_found h d n fits low bare) ends
  fields_found (fields_more h later) d n fits low bare ends =
      let first = field_found h d n fits low refl in
      finds_more first (fields_found later d n first.fits low bare ends)

  pub field_found : {ts rest : Forms} {field : FieldTree} → IsSchemaField ts field rest → (d n : ℕ) → Fits ts d → d < n → after_symbol s.Colon rest ≡ None → Finds (field_at (type_at n)) ts field rest d
  field_found (field_bare {ts = ts} {text = text}) d n fits low bare = record { finds = bare_field (type_at n) text ts bare; fits = fits; shorter = omega arith }
  field_found (field_typed h) d n fits low bare =
      let found = type_found h d n fits low in
      record { finds = rw found.finds refl; fits = found.fits; shorter = omega (arith, found.shorter) }

pub cast_type_found : {ts rest : Forms} {type : TypeTree} → IsCastType ts type rest → (d n : ℕ) → Fits ts d → d ≤ n → Finds (cast_type_with (type_at n)) ts type rest d
unfolding Fits cast_type_with
cast_type_found (cast_scalar {ts = ts} {word = word} {type = type} h) d n fits low = record { finds = scalar_found (type_at n) word type ts h; fits = scalar_fits word type ts d h fits; shorter = omega arith }
cast_type_found (cast_tuple h) d n fits low = finds_map (schema_found h d n fits low) (cast_type_with (type_at n)) _ type.Tuple refl (omega arith)
cast_type_found (cast_bag h) d n fits low = finds_map (bag_found h d n fits low) (cast_type_with (type_at n)) _ type.Bag refl (omega arith)
cast_type_found (cast_map h) d n fits low = finds_map (map_found h d n fits low) (cast_type_with (type_at n)) _ type.Map refl (omega arith)
