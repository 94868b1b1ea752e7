-- What is read as a name, as a reference to a field and as a selection stands by its rule.
use Rattle.std.proofs.Common.{◌≡◌, ℕ, refl, sym, ap, ◌∙◌, subst, List, [], ◌∷◌, ◌++◌, length, append_assoc, codes}
use Rattle.std.specs.Prelude.{Some}
use Rattle.pig_syntax.specs.declared.tokens.Symbol.TheVariants as s
use Rattle.pig_syntax.specs.declared.tokens.TokenForm.{TokenForm}
use Rattle.pig_syntax.specs.declared.tokens.TokenForm.TheVariants as f
use Rattle.pig_exprs.specs.Grammar.{Forms, Listed, part_of, IsName, IsFieldRef, IsSelection}
use Rattle.pig_exprs.specs.Reader.{part_turn, joined_name, name_at, field_ref_at, selection_at}
use Rattle.pig_exprs.proofs.Options.{Holds, itself, holds_then, holds_map}
use Rattle.pig_exprs.proofs.ListSound.{Upholds, TurnsLead, repeat_runs, listed_upholds, symbol_stands}

-- parts behind a text go on what stands behind it
joined_behind : (text name : List ℕ) (parts : List (List ℕ)) → joined_name (text ++ name) parts ≡ text ++ joined_name name parts
unfolding joined_name
joined_behind text name [] = refl
joined_behind text name (part ∷ parts) =
    ap (λ n. joined_name (n ++ part) parts) (append_assoc text name (codes "::")) ∙ ap (λ n. joined_name n parts) (append_assoc text (name ++ codes "::") part)
    ∙ joined_behind text (name ++ codes "::" ++ part) parts

-- further parts, which go on any part before them
abbrev MoreParts : Forms → List (List ℕ) → Forms → Type 0
MoreParts ts parts rest = (t : TokenForm) (text : List ℕ) → part_of t ≡ Some text → IsName (t ∷ ts) (joined_name text parts) rest

parts_lead : TurnsLead part_turn MoreParts
unfolding part_turn joined_name
parts_lead (f.Symbol s.DoubleColon ∷ t ∷ ts) =
    holds_map _ (itself (part_of t)) (λ part is_part. Holds.just (λ parts rest more before text is_text.
    subst (λ name. IsName (before ∷ f.Symbol s.DoubleColon ∷ t ∷ ts) name rest) (sym (joined_behind (text ++ codes "::") part parts)) (IsName.parts is_text (more t part is_part))))
parts_lead ts = Holds.just Holds.nothing

no_more_parts : (ts : Forms) → MoreParts ts [] ts
unfolding joined_name
no_more_parts ts t text is_text = IsName.part is_text

pub name_upholds : Upholds name_at IsName
unfolding name_at
name_upholds [] = Holds.nothing
name_upholds (t ∷ ts) =
    holds_then _ (itself (part_of t)) (λ text is_text.
    holds_then _ (repeat_runs part_turn MoreParts no_more_parts parts_lead (length ts) ts) (λ parts more.
    Holds.just (more t text is_text)))

pub field_ref_upholds : Upholds field_ref_at IsFieldRef
unfolding field_ref_at
field_ref_upholds (f.Position n ∷ ts) = Holds.just IsFieldRef.position
field_ref_upholds ts = holds_map _ (name_upholds ts) (λ p n. IsFieldRef.name n)

pub selection_upholds : Upholds selection_at IsSelection
unfolding selection_at
selection_upholds (f.Symbol s.OpenParen ∷ ts) =
    holds_then _ (listed_upholds field_ref_at IsFieldRef field_ref_upholds ts) (λ fields rs.
    holds_then _ (symbol_stands s.CloseParen (Listed IsFieldRef ts fields.0) fields.1 rs) (λ rest rs. Holds.just (IsSelection.several rs)))
selection_upholds ts = holds_map _ (field_ref_upholds ts) (λ p r. IsSelection.one r)
