-- The lines of a script, one after the other: those above, what is known behind them, and what is left.
use Rattle.std.proofs.Common.{map, ap₂, ◌≡◌, ◌∙◌, ℕ, ◌+◌, Bool, true, false, cond, List, [], ◌∷◌, ◌++◌, length, Option, Some, None, refl, sym, ap, subst}
use Rattle.std.specs.List.{slice_split, onto_first}
use Rattle.std.specs.declared.result.Result.TheVariants.{Ok}
use Rattle.std.proofs.lemmas.List.Sums.{sum_by_push}
use Rattle.pig_params.specs.Cuts.{cut_at, is_byte}
use Rattle.pig_params.specs.Directives.{line_of}
use Rattle.pig_params.specs.Known.{AreValues, Passes, value_in}
use Rattle.pig_params.specs.Making.{IsCause, Puts, PutsOutcome}
use Rattle.pig_params.specs.Substitution.{Named, Outcome, both, joined_by_lf, line_put, put_line, start_behind, substituted, with_above}
use Rattle.pig_params.specs.declared.faults.ParamFault.{ParamFault}
use Rattle.pig_params.specs.declared.known.Known.{Known}
use Rattle.pig_params.specs.declared.making.Made.{Made}
use Rattle.pig_params.proofs.Going.{Going, cause_of_last, cause_of_part, going_ends, going_on}
use Rattle.pig_params.proofs.Looking.{known_value}
use Rattle.pig_params.proofs.Parts.{going_at}
use Rattle.pig_params.proofs.Splitting.{IsCut, cut, uncut}

-- the lines of what is left, below others
abbrev pub lines_put : List Named → List (List ℕ) → List ℕ → Outcome
lines_put given above bs = joined_by_lf (map (line_put given) (with_above above (slice_split (is_byte 10) bs)))

-- some lines are put, and stand above what is left
pub record GoingOn (given : List Named) (script : List ℕ) (at : ℕ) (left : List ℕ) (k : Known) (old new : Made) : Type 0 where
  pub above : List (List ℕ)
  pub start : at ≡ start_behind above
  pub values : AreValues given above k
  pub going : Going (substituted given script) (lines_put given above left) old new

-- a list of parts is not empty
pub split_some : (c : ℕ) (bs : List ℕ) → (first : List ℕ) × (more : List (List ℕ)) × (slice_split (is_byte c) bs ≡ first ∷ more)
split_some c [] = ([], [], refl)
split_some c (b ∷ bs) = by (is_byte c b) (slice_split (is_byte c) bs)
  where
    by : (t : Bool) (parts : List (List ℕ)) → (first : List ℕ) × (more : List (List ℕ)) × (cond t ([] ∷ parts) (onto_first b parts) ≡ first ∷ more)
    by true parts = ([], parts, refl)
    by false [] = (b ∷ [], [], refl)
    by false (part ∷ parts) = (b ∷ part, parts, refl)

module _ (given : List Named) (above : List (List ℕ)) where
  -- a line, the LF behind it, and the lines behind that
  pub lines_first : (bs line behind : List ℕ) → IsCut 10 bs line behind
      → lines_put given above bs ≡ both (line_put given (above, line)) (both (Ok (10 ∷ [])) (lines_put given (above ++ line ∷ []) behind))
  lines_first bs line behind is =
      let some = split_some 10 behind in
      ap (λ parts. joined_by_lf (map (line_put given) (with_above above parts))) (is.parts ∙ ap (λ parts. line ∷ parts) some.2)
      ∙ ap (λ parts. both (line_put given (above, line)) (both (Ok (10 ∷ [])) (joined_by_lf (map (line_put given) (with_above (above ++ line ∷ []) parts))))) (sym some.2)

  pub lines_last : (bs : List ℕ) → ◌≡◌ {A = Option (List ℕ × List ℕ)} None (cut_at 10 bs) → lines_put given above bs ≡ line_put given (above, bs)
  lines_last bs none = ap (λ parts. joined_by_lf (map (line_put given) (with_above above parts))) (uncut 10 bs none)

-- what is put for a line by what is known there
abbrev pub line_by : Known → ℕ → List ℕ → Outcome
line_by k at line = put_line (value_in k) at line (line_of line)

same_line : (given : List Named) (above : List (List ℕ)) (k : Known) (at : ℕ) (line : List ℕ) → at ≡ start_behind above → AreValues given above k
    → line_by k at line ≡ line_put given (above, line)
same_line given above k at line start values = ap₂ (λ v n. put_line v n line (line_of line)) (known_value given above k values) start

lf_put : (mid new : Made) → Puts (10 ∷ []) mid new → PutsOutcome (Ok (10 ∷ [])) mid new
lf_put mid new puts = record { text = 10 ∷ []; is = refl; puts = puts }

-- one line more
pub line_more : (given : List Named) (script bs line behind : List ℕ) (at : ℕ) (k next : Known) (old mid last new : Made)
    → ◌≡◌ {A = Option (List ℕ × List ℕ)} (Some (line, behind)) (cut_at 10 bs) → GoingOn given script at bs k old mid
    → PutsOutcome (line_by k at line) mid last → Puts (10 ∷ []) last new → Passes line k next
    → GoingOn given script (at + (length line + 1)) behind next old new
line_more given script bs line behind at k next old mid last new found on put lf passes =
    let is : IsCut 10 bs line behind = cut 10 bs line behind found in
    let put_here : PutsOutcome (line_put given (on.above, line)) mid last = subst (λ o. PutsOutcome o mid last) (same_line given on.above k at line on.start on.values) put in
    record {
      above = on.above ++ line ∷ [];
      start = ap (λ n. n + (length line + 1)) on.start ∙ sym (sum_by_push (λ l. length l + 1) on.above line);
      values = passes given on.above on.values;
      going = going_on (substituted given script) (Ok (10 ∷ [])) (lines_put given (on.above ++ line ∷ []) behind) old last new
          (going_on (substituted given script) (line_put given (on.above, line)) (both (Ok (10 ∷ [])) (lines_put given (on.above ++ line ∷ []) behind)) old mid last
          (going_at (substituted given script) (lines_put given on.above bs) _ old mid (lines_first given on.above bs line behind is) on.going) put_here)
          (lf_put last new lf);
    }

pub line_refused : (given : List Named) (script bs line behind : List ℕ) (at : ℕ) (k : Known) (old mid : Made) (f : ParamFault)
    → ◌≡◌ {A = Option (List ℕ × List ℕ)} (Some (line, behind)) (cut_at 10 bs) → GoingOn given script at bs k old mid
    → IsCause (line_by k at line) f → IsCause (substituted given script) f
line_refused given script bs line behind at k old mid f found on cause =
    let is : IsCut 10 bs line behind = cut 10 bs line behind found in
    cause_of_part (substituted given script) (line_put given (on.above, line)) (both (Ok (10 ∷ [])) (lines_put given (on.above ++ line ∷ []) behind)) old mid
    (going_at (substituted given script) (lines_put given on.above bs) _ old mid (lines_first given on.above bs line behind is) on.going)
    f (subst (λ o. IsCause o f) (same_line given on.above k at line on.start on.values) cause)

-- the last line
pub line_ends : (given : List Named) (script bs : List ℕ) (at : ℕ) (k : Known) (old mid new : Made)
    → ◌≡◌ {A = Option (List ℕ × List ℕ)} None (cut_at 10 bs) → GoingOn given script at bs k old mid → PutsOutcome (line_by k at bs) mid new → PutsOutcome (substituted given script) old new
line_ends given script bs at k old mid new none on put =
    going_ends (substituted given script) (line_put given (on.above, bs)) old mid new
    (going_at (substituted given script) (lines_put given on.above bs) _ old mid (lines_last given on.above bs none) on.going)
    (subst (λ o. PutsOutcome o mid new) (same_line given on.above k at bs on.start on.values) put)

pub last_refused : (given : List Named) (script bs : List ℕ) (at : ℕ) (k : Known) (old mid : Made) (f : ParamFault)
    → ◌≡◌ {A = Option (List ℕ × List ℕ)} None (cut_at 10 bs) → GoingOn given script at bs k old mid → IsCause (line_by k at bs) f → IsCause (substituted given script) f
last_refused given script bs at k old mid f none on cause =
    cause_of_last (substituted given script) (line_put given (on.above, bs)) old mid
    (going_at (substituted given script) (lines_put given on.above bs) _ old mid (lines_last given on.above bs none) on.going)
    f (subst (λ o. IsCause o f) (same_line given on.above k at bs on.start on.values) cause)
