-- Names, fields and selections are found where they stand.
use Rattle.std.proofs.Common.{◌≡◌, ℕ, zero, suc, ◌≤◌, refl, ◌∙◌, ap, true, List, [], ◌∷◌, ◌++◌, length, codes, append_assoc, arith}
use Rattle.std.specs.Prelude.{Some, None}
use Rattle.std.specs.Option.{option_map}
use Rattle.pig_syntax.specs.declared.tokens.Keyword.TheVariants as k
use Rattle.pig_syntax.specs.declared.tokens.Symbol.TheVariants as s
use Rattle.pig_syntax.specs.declared.tokens.TokenForm.{TokenForm}
use Rattle.pig_syntax.specs.declared.tokens.TokenForm.TheVariants as f
use Rattle.pig_syntax.specs.declared.trees.FieldRef.{FieldRef}
use Rattle.pig_syntax.specs.declared.trees.FieldRef.TheVariants as ref
use Rattle.pig_syntax.specs.declared.trees.PostStep.{PostStep}
use Rattle.pig_syntax.specs.declared.trees.PostStep.TheVariants as step
use Rattle.pig_exprs.specs.Grammar.{Forms, part_of, IsName, part, parts, IsFieldRef, name as by_name, position as by_position, IsSelection, one, several}
use Rattle.pig_exprs.specs.Reader.{comma_turn, after_symbol, part_turn, joined_name, name_at, field_ref_at, selection_at}
use Rattle.pig_exprs.proofs.Fits.{Fits}
use Rattle.pig_exprs.proofs.Finds.{Finds, Run, stops, goes, repeat_run, finds_listed, listed_finds}

-- no further part of a name stands ahead
abbrev pub NameEnds : Forms → Type 0
NameEnds rest = part_turn rest ≡ Some None

-- ---- names

-- a part is no bracket
part_fits : (t : TokenForm) (ts : Forms) (text : List ℕ) (d : ℕ) → part_of t ≡ Some text → Fits (t ∷ ts) d → Fits ts d
unfolding Fits
part_fits (f.Ident name) ts text d h fits = fits
part_fits (f.Keyword k.Group) ts text d h fits = fits
part_fits (f.Keyword k.Cube) ts text d h fits = fits
part_fits t ts text d h fits = absurd (cc)

joined_front : (front name : List ℕ) (others : List (List ℕ)) → joined_name (front ++ name) others ≡ front ++ joined_name name others
unfolding joined_name
joined_front front name [] = refl
joined_front front name (p ∷ ps) =
    ap (λ v. joined_name (v ++ p) ps) (append_assoc front name (codes "::")) ∙ ap (λ v. joined_name v ps) (append_assoc front (name ++ codes "::") p) ∙ joined_front front (name ++ codes "::" ++ p) ps

-- the parts of a name
record Parts (ts : Forms) (whole : List ℕ) (rest : Forms) (d : ℕ) : Type 0 where
  first : List ℕ
  others : List (List ℕ)
  token : TokenForm
  behind : Forms
  begins : ts ≡ token ∷ behind
  is : part_of token ≡ Some first
  run : Run part_turn behind others rest
  joins : joined_name first others ≡ whole
  fits : Fits rest d
  shorter : length rest ≤ length behind

parts_turn : (ts behind : Forms) (token : TokenForm) (text : List ℕ) → ts ≡ token ∷ behind → part_of token ≡ Some text → part_turn (f.Symbol s.DoubleColon ∷ ts) ≡ Some (Some (text, behind))
unfolding part_turn
parts_turn ts behind token text begins is = rw (begins, is) refl

parts_found : {ts rest : Forms} {text : List ℕ} → IsName ts text rest → (d : ℕ) → Fits ts d → NameEnds rest → Parts ts text rest d
unfolding Fits joined_name
parts_found {rest = rest} (part {t = t} {text = text} is) d fits ends = record {
  first = text;
  others = [];
  token = t;
  behind = rest;
  begins = refl;
  is = is;
  run = stops ends;
  joins = refl;
  fits = part_fits t rest text d is fits;
  shorter = omega arith;
}
parts_found {rest = rest} (parts {t = t} {ts = ts} {text = text} {name = name} is later) d fits ends =
    let next = parts_found later d (part_fits t (f.Symbol s.DoubleColon ∷ ts) text d is fits) ends in
    let size : length ts ≡ suc (length next.behind) = ap length next.begins in
    record {
      first = text;
      others = next.first ∷ next.others;
      token = t;
      behind = f.Symbol s.DoubleColon ∷ ts;
      begins = refl;
      is = is;
      run = goes (parts_turn ts next.behind next.token next.first next.begins next.is) (omega (arith, size)) next.run;
      joins = joined_front (text ++ codes "::") next.first next.others ∙ ap (λ v. text ++ codes "::" ++ v) next.joins;
      fits = next.fits;
      shorter = omega (arith, size, next.shorter);
    }

name_of : (ts rest behind : Forms) (text first : List ℕ) (others : List (List ℕ)) (token : TokenForm) → ts ≡ token ∷ behind → part_of token ≡ Some first → Run part_turn behind others rest
    → joined_name first others ≡ text → name_at ts ≡ Some (text, rest)
unfolding name_at
name_of ts rest behind text first others token begins is run joins = rw (begins, is, repeat_run run (length behind) [] (omega arith), joins) refl

pub name_found : {ts rest : Forms} {text : List ℕ} → IsName ts text rest → (d : ℕ) → Fits ts d → NameEnds rest → Finds name_at ts text rest d
name_found {ts = ts} {rest = rest} {text = text} h d fits ends =
    let p = parts_found h d fits ends in
    let size : length ts ≡ suc (length p.behind) = ap length p.begins in
    record { finds = name_of ts rest p.behind text p.first p.others p.token p.begins p.is p.run p.joins; fits = p.fits; shorter = omega (arith, size, p.shorter) }

-- ---- fields

field_of_name : (token : TokenForm) (ts : Forms) (text : List ℕ) → part_of token ≡ Some text → field_ref_at (token ∷ ts) ≡ option_map (λ p. (ref.Name p.0, p.1)) (name_at (token ∷ ts))
unfolding field_ref_at
field_of_name (f.Position n) ts text h = absurd (cc)
field_of_name token ts text h = refl

named_field : {ts rest : Forms} {text : List ℕ} → IsName ts text rest → field_ref_at ts ≡ option_map (λ p. (ref.Name p.0, p.1)) (name_at ts)
named_field {ts = t ∷ ts} (part {text = text} is) = field_of_name t ts text is
named_field (parts {t = t} {ts = ts} {text = text} is later) = field_of_name t (f.Symbol s.DoubleColon ∷ ts) text is

pub field_ref_found : {ts rest : Forms} {r : FieldRef} → IsFieldRef ts r rest → (d : ℕ) → Fits ts d → NameEnds rest → Finds field_ref_at ts r rest d
unfolding Fits field_ref_at
field_ref_found (by_name h) d fits ends =
    let found = name_found h d fits ends in
    record { finds = named_field h ∙ rw found.finds refl; fits = found.fits; shorter = found.shorter }
field_ref_found (by_position {ts = ts}) d fits ends = record { finds = refl; fits = fits; shorter = omega arith }

-- ---- selections

selection_of_part : (token : TokenForm) (ts : Forms) (text : List ℕ) → part_of token ≡ Some text → selection_at (token ∷ ts) ≡ option_map (λ p. (step.Project (p.0 ∷ []) true, p.1)) (field_ref_at (token ∷ ts))
unfolding selection_at
selection_of_part (f.Symbol s.OpenParen) ts text h = absurd (cc)
selection_of_part token ts text h = refl

selection_of_field : {ts rest : Forms} {r : FieldRef} → IsFieldRef ts r rest → selection_at ts ≡ option_map (λ p. (step.Project (p.0 ∷ []) true, p.1)) (field_ref_at ts)
unfolding selection_at
selection_of_field (by_name (part {t = t} {ts = ts} {text = text} is)) = selection_of_part t ts text is
selection_of_field (by_name (parts {t = t} {ts = ts} {text = text} is later)) = selection_of_part t (f.Symbol s.DoubleColon ∷ ts) text is
selection_of_field by_position = refl

pub selection_found : {ts rest : Forms} {p : PostStep} → IsSelection ts p rest → (d : ℕ) → Fits ts d → NameEnds rest → Finds selection_at ts p rest d
unfolding Fits selection_at after_symbol comma_turn part_turn
selection_found (one h) d fits ends =
    let found = field_ref_found h d fits ends in
    record { finds = selection_of_field h ∙ rw found.finds refl; fits = found.fits; shorter = found.shorter }
selection_found (several h) zero fits ends = absurd fits
selection_found (several h) (suc d) fits ends =
    let found = finds_listed (listed_finds h field_ref_at d NameEnds (λ ts rest r is room may. field_ref_found is d room may) (λ mid. refl) fits refl refl) in
    record { finds = rw found.finds refl; fits = found.fits; shorter = omega (arith, found.shorter) }
