-- What a reader finds at the front of some tokens, and what it leaves; nothing where its part does not stand there. The grammar is in
-- `Grammar` and `Statements`; these readers are how the code finds its trees.
use Rattle.std.specs.Prelude.{◌≡◌, ℕ, zero, suc, Bool, true, false, if◌then◌else◌, codes, List, [], ◌∷◌, ◌++◌, length, map, Option, Some, None, Result, Ok, Err}
use Rattle.std.specs.Option.{option_map, option_and_then, option_map_or}
use Rattle.std.specs.Borrow.{Bor}
use denote.Enum.Bare.{sameb}
use Rattle.pig_syntax.specs.contracts.tokens.Keyword.{the_type as keywords}
use Rattle.pig_syntax.specs.contracts.tokens.Symbol.{the_type as symbols}
use Rattle.pig_syntax.specs.declared.tokens.Keyword.{Keyword}
use Rattle.pig_syntax.specs.declared.tokens.Symbol.{Symbol}
use Rattle.pig_syntax.specs.declared.tokens.Symbol.TheVariants as s
use Rattle.pig_syntax.specs.declared.tokens.Token.{Token}
use Rattle.pig_syntax.specs.declared.tokens.TokenForm.{TokenForm}
use Rattle.pig_syntax.specs.declared.tokens.TokenForm.TheVariants as f
use Rattle.pig_exprs.specs.declared.reading.ParseFault.{ParseFault}
use Rattle.pig_exprs.specs.declared.reading.ParseFault.TheVariants as fault
use Rattle.pig_syntax.specs.declared.tokens.Keyword.TheVariants as k
use Rattle.pig_syntax.specs.declared.trees.FieldRef.{FieldRef}
use Rattle.pig_syntax.specs.declared.trees.FieldRef.TheVariants as ref
use Rattle.pig_syntax.specs.declared.trees.FieldTree.{FieldTree}
use Rattle.pig_syntax.specs.declared.trees.PostStep.{PostStep}
use Rattle.pig_syntax.specs.declared.trees.PostStep.TheVariants as step
use Rattle.pig_syntax.specs.declared.trees.TypeTree.{TypeTree}
use Rattle.pig_syntax.specs.declared.trees.TypeTree.TheVariants as type
use Rattle.pig_exprs.specs.Grammar.{Forms, part_of, scalar_of}
use Rattle.pig_value.specs.Results.{◌>>=◌}

-- what is read, and the tokens that are left
abbrev pub FoundPart : Type 0 → Type 0
FoundPart A = Option (A × Forms)

-- what a turn of a list finds: nothing off the grammar, none where the list ends, and otherwise its next element
abbrev pub Turn : Type 0 → Type 0
Turn A = Option (Option (A × Forms))

-- the forms of the tokens
abbrev pub forms : List Token → Forms
forms ts = map (λ t. t.form) ts

-- the code gives what the reader finds
abbrev pub Gives : {A : Type 0} → FoundPart A → Result (A × Bor (List Token)) ParseFault → Type 0
Gives found (Ok r) = found ≡ Some (r.0, forms r.1.now)
Gives found (Err fault.Off) = found ≡ None
Gives found (Err fault.OutOfMemory) = Unit {0}

-- the code gives what is kept, and beside it what the reader finds
abbrev pub GivesBeside : {A B : Type 0} → A → FoundPart B
    → Result ((A × B) × Bor (List Token)) ParseFault → Type 0
GivesBeside kept found (Ok r) = (r.0.0 ≡ kept) × (found ≡ Some (r.0.1, forms r.1.now))
GivesBeside kept found (Err fault.Off) = found ≡ None
GivesBeside kept found (Err fault.OutOfMemory) = Unit {0}

-- the code gives what is kept, and behind it the tokens that are left
abbrev pub GivesBehind : {A : Type 0} → A → Option Forms
    → Result (A × Bor (List Token)) ParseFault → Type 0
GivesBehind kept left (Ok r) = (r.0 ≡ kept) × (left ≡ Some (forms r.1.now))
GivesBehind kept left (Err fault.Off) = left ≡ None
GivesBehind kept left (Err fault.OutOfMemory) = ⊥

-- the code gives what the turn finds
abbrev pub Turns : {A : Type 0} → Turn A → Result (Option (A × Bor (List Token))) ParseFault → Type 0
Turns turn (Ok r) = turn ≡ Some (option_map (λ p. (p.0, forms p.1.now)) r)
Turns turn (Err fault.Off) = turn ≡ None
Turns turn (Err fault.OutOfMemory) = Unit {0}

-- the elements that a turn finds one after the other, behind those that are read, at most so many
unfoldable pub repeat : {A : Type 0} → (Forms → Turn A) → ℕ → List A → Forms → FoundPart (List A)
repeat turn zero found ts = Some (found, ts)
repeat turn (suc most) found ts = option_and_then (λ next. option_map_or (λ p. repeat turn most (found ++ p.0 ∷ []) p.1) next (Some (found, ts))) (turn ts)

-- X { ',' X }
unfoldable pub comma_turn : {A : Type 0} → (Forms → FoundPart A) → Forms → Turn A
comma_turn member (f.Symbol s.Comma ∷ ts) = option_map Some (member ts)
comma_turn member ts = Some None

unfoldable pub listed : {A : Type 0} → (Forms → FoundPart A) → Forms → FoundPart (List A)
listed member ts = option_and_then (λ p. repeat (comma_turn member) (length p.1) (p.0 ∷ []) p.1) (member ts)

-- whether a token is the symbol
abbrev pub is_symbol : Symbol → TokenForm → Bool
is_symbol symbol (f.Symbol found) = sameb symbols symbol found
is_symbol symbol _ = false

-- whether a token is the keyword
abbrev pub is_word : Keyword → TokenForm → Bool
is_word word (f.Keyword found) = sameb keywords word found
is_word word _ = false

-- the tokens behind the symbol
unfoldable pub after_symbol : Symbol → Forms → Option Forms
after_symbol symbol [] = None
after_symbol symbol (t ∷ ts) = if is_symbol symbol t then Some ts else None

-- the tokens behind the keyword
unfoldable pub after_word : Keyword → Forms → Option Forms
after_word word [] = None
after_word word (t ∷ ts) = if is_word word t then Some ts else None

-- the tokens behind a `)`
abbrev pub close_paren : Forms → Option Forms
close_paren ts = after_symbol s.CloseParen ts

-- the code gives the tokens that are left
abbrev pub GivesRest : Option Forms → Result (Bor (List Token)) ParseFault → Type 0
GivesRest left (Ok r) = left ≡ Some (forms r.now)
GivesRest left (Err fault.Off) = left ≡ None
GivesRest left (Err fault.OutOfMemory) = ⊥

-- ---- names

-- one more part of a name
unfoldable pub part_turn : Forms → Turn (List ℕ)
part_turn (f.Symbol s.DoubleColon ∷ t ∷ ts) = option_map (λ part. Some (part, ts)) (part_of t)
part_turn ts = Some None

-- the name of the parts
unfoldable pub joined_name : List ℕ → List (List ℕ) → List ℕ
joined_name name [] = name
joined_name name (part ∷ parts) = joined_name (name ++ codes "::" ++ part) parts

unfoldable pub name_at : Forms → FoundPart (List ℕ)
name_at [] = None
name_at (t ∷ ts) = do
  part ← part_of t
  parts ← repeat part_turn (length ts) [] ts
  Some (joined_name part parts.0, parts.1)

unfoldable pub field_ref_at : Forms → FoundPart FieldRef
field_ref_at (f.Position n ∷ ts) = Some (ref.Position n, ts)
field_ref_at ts = option_map (λ p. (ref.Name p.0, p.1)) (name_at ts)

unfoldable pub selection_at : Forms → FoundPart PostStep
selection_at (f.Symbol s.OpenParen ∷ ts) = do
  fields ← listed field_ref_at ts
  rest ← close_paren fields.1
  Some (step.Project fields.0 false, rest)
selection_at ts = option_map (λ p. (step.Project (p.0 ∷ []) true, p.1)) (field_ref_at ts)

-- ---- types, by the reader of the types inside them

unfoldable pub field_at : (Forms → FoundPart TypeTree) → Forms → FoundPart FieldTree
field_at inner (f.Ident name ∷ f.Symbol s.Colon ∷ ts) = option_map (λ p. (record { name = name; kind = Some p.0 }, p.1)) (inner ts)
field_at inner (f.Ident name ∷ ts) = Some (record { name = name; kind = None }, ts)
field_at inner _ = None

unfoldable pub schema_at : (Forms → FoundPart TypeTree) → Forms → FoundPart (List FieldTree)
schema_at inner (f.Symbol s.OpenParen ∷ ts) = do
  fields ← listed (field_at inner) ts
  rest ← close_paren fields.1
  Some (fields.0, rest)
schema_at inner _ = None

unfoldable pub tuple_at : (Forms → FoundPart TypeTree) → Forms → FoundPart (List FieldTree)
tuple_at inner (f.Keyword k.Tuple ∷ ts) = schema_at inner ts
tuple_at inner ts = schema_at inner ts

unfoldable pub bag_rows_at : (Forms → FoundPart TypeTree) → Forms → FoundPart (List FieldTree)
bag_rows_at inner ts = do
  fields ← tuple_at inner ts
  rest ← after_symbol s.CloseBrace fields.1
  Some (fields.0, rest)

unfoldable pub bag_at : (Forms → FoundPart TypeTree) → Forms → FoundPart (List FieldTree)
bag_at inner (f.Symbol s.OpenBrace ∷ f.Ident name ∷ f.Symbol s.Colon ∷ ts) = bag_rows_at inner ts
bag_at inner (f.Symbol s.OpenBrace ∷ ts) = bag_rows_at inner ts
bag_at inner _ = None

unfoldable pub map_at : (Forms → FoundPart TypeTree) → Forms → FoundPart (Option TypeTree)
map_at inner (f.Symbol s.OpenBracket ∷ f.Symbol s.CloseBracket ∷ ts) = Some (None, ts)
map_at inner (f.Symbol s.OpenBracket ∷ ts) = do
  values ← inner ts
  rest ← after_symbol s.CloseBracket values.1
  Some (Some values.0, rest)
map_at inner _ = None

unfoldable pub cast_type_with : (Forms → FoundPart TypeTree) → Forms → FoundPart TypeTree
cast_type_with inner (f.Keyword k.Tuple ∷ ts) = option_map (λ p. (type.Tuple p.0, p.1)) (schema_at inner ts)
cast_type_with inner (f.Keyword k.Bag ∷ ts) = option_map (λ p. (type.Bag p.0, p.1)) (bag_at inner ts)
cast_type_with inner (f.Keyword k.Map ∷ ts) = option_map (λ p. (type.Map p.0, p.1)) (map_at inner ts)
cast_type_with inner (f.Keyword word ∷ ts) = option_map (λ scalar. (scalar, ts)) (scalar_of word)
cast_type_with inner _ = None

unfoldable pub type_with : (Forms → FoundPart TypeTree) → Forms → FoundPart TypeTree
type_with inner (f.Symbol s.OpenParen ∷ ts) = option_map (λ p. (type.Tuple p.0, p.1)) (schema_at inner (f.Symbol s.OpenParen ∷ ts))
type_with inner (f.Symbol s.OpenBrace ∷ ts) = option_map (λ p. (type.Bag p.0, p.1)) (bag_at inner (f.Symbol s.OpenBrace ∷ ts))
type_with inner (f.Symbol s.OpenBracket ∷ ts) = option_map (λ p. (type.Map p.0, p.1)) (map_at inner (f.Symbol s.OpenBracket ∷ ts))
type_with inner ts = cast_type_with inner ts

-- a type whose brackets nest less deep than this
unfoldable pub type_at : ℕ → Forms → FoundPart TypeTree
type_at zero ts = None
type_at (suc depth) ts = type_with (type_at depth) ts
