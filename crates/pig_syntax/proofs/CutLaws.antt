-- The statements of tokens are one list, within the tokens; a depth is one number.
use Rattle.std.proofs.Common.{◌≡◌, ◌<◌, ◌≤◌, ◌+◌, ℕ, List, [], length, inl, inr, refl, sym, subst, arith}
use Rattle.std.specs.List.{All}
use Rattle.std.proofs.lemmas.List.Elements.{All-nil, All-cons}
use Rattle.std.proofs.lemmas.Bool.{cases_lt}
use Rattle.std.proofs.lemmas.Option.{slice_get_cases}
use Rattle.pig_syntax.specs.declared.cutting.Piece.{Piece}
use Rattle.pig_syntax.specs.declared.tokens.Token.{Token}
use Rattle.pig_syntax.specs.Cutting.{IsCut, NoCut, Statements, none, last, next, IsWithin}

-- a cut stands at a token
pub cut_within : (ts : List Token) (start at : ℕ) → IsCut ts start at → at < length ts
cut_within ts start at cut =
    elim ((slice_get_cases ts at).1) [ inl h ↦ h.1 | inr h ↦ absurd (let e = rw h.1 at cut.mark in cc) ]

-- a place before which the statement is not cut is not behind its cut
pub uncut_before : (ts : List Token) (start to at : ℕ) → NoCut ts start to → IsCut ts start at → to ≤ at
unfolding NoCut
uncut_before ts start to at uncut cut =
    elim (cases_lt at to) [ inl h ↦ absurd (uncut at h cut) | inr h ↦ h ]

-- a statement has one cut
pub one_cut : (ts : List Token) (start a b : ℕ) → IsCut ts start a → NoCut ts start a → IsCut ts start b → NoCut ts start b → a ≡ b
one_cut ts start a b cut_a uncut_a cut_b uncut_b =
    let h : a ≤ b = uncut_before ts start a b uncut_a cut_b in
    let k : b ≤ a = uncut_before ts start b a uncut_b cut_a in
    omega arith

-- a statement that is not cut up to the end has no cut
pub no_cut : (ts : List Token) (start at : ℕ) → NoCut ts start (length ts) → IsCut ts start at → ⊥
no_cut ts start at uncut cut =
    let h = cut_within ts start at cut in
    let k = uncut_before ts start (length ts) at uncut cut in
    omega arith

-- a statement that starts at the end has no cut
pub no_cut_at_end : (ts : List Token) (start at : ℕ) → start ≡ length ts → IsCut ts start at → ⊥
no_cut_at_end ts start at e cut =
    let h = cut_within ts start at cut in
    omega (arith, cut.behind)

pub same_statements : (ts : List Token) {start : ℕ} {ps qs : List Piece} → Statements ts start ps → Statements ts start qs → ps ≡ qs
same_statements ts (none e) (none _) = refl
same_statements ts (none e) (last h _) = absurd (omega arith)
same_statements ts (none e) (next cut _ _) = absurd (no_cut_at_end ts _ _ e cut)
same_statements ts (last h _) (none e) = absurd (omega arith)
same_statements ts (last _ _) (last _ _) = refl
same_statements ts (last _ uncut) (next cut _ _) = absurd (no_cut ts _ _ uncut cut)
same_statements ts (next cut _ _) (none e) = absurd (no_cut_at_end ts _ _ e cut)
same_statements ts (next cut _ _) (last _ uncut) = absurd (no_cut ts _ _ uncut cut)
same_statements ts (next {at = a} {ps = ps} cut uncut more) (next {at = b} {ps = qs} cut' uncut' more') =
    let e : a ≡ b = one_cut ts _ a b cut uncut cut' uncut' in
    let P : ℕ → Type 0 = λ n. Statements ts (n + 1) qs in
    let same : ps ≡ qs = same_statements ts more (subst P (sym e) more') in
    cc

pub all_within : (ts : List Token) {start : ℕ} {ps : List Piece} → Statements ts start ps → All (IsWithin ts) ps
all_within ts (none e) = All-nil (IsWithin ts)
all_within ts (last h _) = All-cons (IsWithin ts) _ [] (record { ordered = omega arith; ends = omega arith }) (All-nil (IsWithin ts))
all_within ts (next {at = a} {ps = ps} cut _ more) =
    let h = cut_within ts _ a cut in
    All-cons (IsWithin ts) _ ps (record { ordered = cut.behind; ends = omega arith }) (all_within ts more)

pub count_within : (ts : List Token) {start : ℕ} {ps : List Piece} → Statements ts start ps → length ps + start ≤ length ts
count_within ts (none e) = omega arith
count_within ts (last h _) = omega arith
count_within ts (next {at = a} cut _ more) =
    let h = cut_within ts _ a cut in
    omega (arith, count_within ts more, cut.behind)
