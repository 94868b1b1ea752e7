-- Every script has its tokens or a first place where none begins; all tokens have statements, and each statement has a depth.
use Rattle.std.proofs.Common.{◌≡◌, ◌<◌, ◌≤◌, ◌+◌, ◌-◌, ℕ, zero, suc, Bool, true, false, List, [], ◌∷◌, length, take, refl, subst, arith, ap, ◌∙◌, cond, inl, inr, ◌⊎◌, max}
use Rattle.std.specs.Prelude.{Option, Some, None, slice_get, codes, option_and_then, take_while, drop}
use Rattle.std.specs.Option.{option_map_or}
use Rattle.std.proofs.lemmas.List.{length-append, length-drop}
use Rattle.std.specs.List.{slice_range}
use Rattle.std.specs.Option.{option_map}
use Rattle.std.proofs.lemmas.Bool.{cases_lt}
use Rattle.pig_syntax.specs.declared.cutting.Piece.{Piece}
use Rattle.pig_syntax.specs.declared.tokens.Token.{Token}
use Rattle.pig_syntax.specs.declared.tokens.TokenForm.{TokenForm}
use Rattle.pig_syntax.specs.Cutting.{is_semicolon, open_braces, close_braces, opened, closed, IsCut, NoCut, Statements, none, last, next, IsDepth}
use Rattle.pig_syntax.specs.Scanner.{token_at}
use Rattle.pig_syntax.specs.Tokens.{AreTokens, Begins, IsBadAt, Reads, Stops, here, skips, takes, after_close, after_comment, after_gap, from_lf, is_in_line, is_space, strip}
use Rattle.pig_syntax.proofs.CutSteps.{IsDeepest, deepest_more, uncut_more}
use Rattle.pig_syntax.proofs.Prefixes.{strip_split}
use Rattle.pig_syntax.proofs.Recognised.{nothing_begins, token_begins}
use Rattle.pig_syntax.proofs.Streams.{token_shorter}

-- ---- white space and comments

strip_shorter : (p bs rest : List ℕ) → strip p bs ≡ Some rest → length bs ≡ length p + length rest
strip_shorter p bs rest h = ap length (strip_split p bs rest h) ∙ length-append p rest

close_shorter : (bs rest : List ℕ) → after_close bs ≡ Some rest → length rest < length bs
unfolding after_close
close_shorter [] rest h = absurd (cc)
close_shorter (b ∷ bs) rest h = by_mark (λ k. close_shorter bs rest k) (strip (codes "*/") (b ∷ bs)) refl h
  where
    by_mark : (after_close bs ≡ Some rest → length rest < length bs) → (o : Option (List ℕ)) → strip (codes "*/") (b ∷ bs) ≡ o → option_map_or Some o (after_close bs) ≡ Some rest → length rest < length (b ∷ bs)
    by_mark later None e k = omega (arith, later k)
    by_mark later (Some left) e k = let same : left ≡ rest = cc in omega (arith, strip_shorter (codes "*/") (b ∷ bs) left e, ap length same)

comment_shorter : (bs rest : List ℕ) → after_comment bs ≡ Some rest → length rest < length bs
unfolding after_comment from_lf
comment_shorter bs rest h = by_line (strip (codes "--") bs) refl h
  where
    by_block : (o : Option (List ℕ)) → strip (codes "/*") bs ≡ o → option_and_then after_close o ≡ Some rest → length rest < length bs
    by_block None e k = absurd (cc)
    by_block (Some left) e k = omega (arith, strip_shorter (codes "/*") bs left e, close_shorter left rest k)

    by_line : (o : Option (List ℕ)) → strip (codes "--") bs ≡ o → option_map_or (λ line. Some (drop (length (take_while is_in_line line)) line)) o (option_and_then after_close (strip (codes "/*") bs)) ≡ Some rest → length rest < length bs
    by_line None e k = by_block (strip (codes "/*") bs) refl k
    by_line (Some line) e k =
        let same : drop (length (take_while is_in_line line)) line ≡ rest = cc in
        omega (arith, strip_shorter (codes "--") bs line e, ap length same, length-drop (length (take_while is_in_line line)) line)

gap_shorter : (bs rest : List ℕ) → after_gap bs ≡ Some rest → length rest < length bs
unfolding after_gap
gap_shorter [] rest h = absurd (cc)
gap_shorter (b ∷ bs) rest h = by_space (is_space b) h
  where
    by_space : (t : Bool) → cond t (Some bs) (after_comment (b ∷ bs)) ≡ Some rest → length rest < length (b ∷ bs)
    by_space true e = let same : bs ≡ rest = cc in omega (arith, ap length same)
    by_space false e = comment_shorter (b ∷ bs) rest e

-- ---- tokens

-- the tokens up to the end, or to a place where none begins
record ReadOn (total : ℕ) (bs : List ℕ) : Type 0 where
  tokens : List Token
  rest : List ℕ
  reads : Reads total bs tokens rest
  ends : (rest ≡ []) ⊎ ((0 < length rest) × Stops rest)

gap_read : (total : ℕ) (bs mid : List ℕ) → after_gap bs ≡ Some mid → ReadOn total mid → ReadOn total bs
gap_read total bs mid h r = record { tokens = r.tokens; rest = r.rest; reads = skips h r.reads; ends = r.ends }

token_read : (total : ℕ) (bs mid : List ℕ) (form : TokenForm) → Begins bs form mid → ReadOn total mid → ReadOn total bs
token_read total bs mid form h r = record { tokens = record { form = form; «from» = total - length bs } ∷ r.tokens; rest = r.rest; reads = takes h r.reads; ends = r.ends }

read_on : (total n : ℕ) (bs : List ℕ) → length bs ≤ n → ReadOn total bs
read_on total n [] h = record { tokens = []; rest = []; reads = here; ends = inl refl }
read_on total zero (b ∷ bs) h = absurd (omega (arith, h))
read_on total (suc n) (b ∷ bs) h = by_gap (λ mid short. read_on total n mid (omega (arith, h, short))) (after_gap (b ∷ bs)) refl
  where
    by_token : after_gap (b ∷ bs) ≡ None → (o : Option (TokenForm × List ℕ)) → token_at (b ∷ bs) ≡ o → ((mid : List ℕ) → length mid < length (b ∷ bs) → ReadOn total mid) → ReadOn total (b ∷ bs)
    by_token no_gap None e later = record { tokens = []; rest = b ∷ bs; reads = here; ends = inr (omega arith, nothing_begins (b ∷ bs) no_gap e) }
    by_token no_gap (Some p) e later =
        let begins = token_begins (b ∷ bs) p.1 p.0 no_gap e in
        token_read total (b ∷ bs) p.1 p.0 begins (later p.1 (token_shorter (b ∷ bs) p.1 p.0 begins))

    by_gap : ((mid : List ℕ) → length mid < length (b ∷ bs) → ReadOn total mid) → (o : Option (List ℕ)) → after_gap (b ∷ bs) ≡ o → ReadOn total (b ∷ bs)
    by_gap later None e = by_token e (token_at (b ∷ bs)) refl later
    by_gap later (Some mid) e = gap_read total (b ∷ bs) mid e (later mid (gap_shorter (b ∷ bs) mid e))

pub tokens_or_bad : (script : List ℕ) → ((ts : List Token) × AreTokens script ts) ⊎ ((offset : ℕ) × IsBadAt script offset)
tokens_or_bad script = by_end (read_on (length script) (length script) script (omega arith))
  where
    by_end : ReadOn (length script) script → ((ts : List Token) × AreTokens script ts) ⊎ ((offset : ℕ) × IsBadAt script offset)
    by_end r = elim r.ends [
      | inl e ↦ inl (r.tokens, subst (Reads (length script) script r.tokens) e r.reads)
      | inr h ↦ inr (length script - length r.rest, record { tokens = r.tokens; rest = r.rest; reads = r.reads; more = h.0; stops = h.1; place = refl })
    ]

-- each token takes a byte at least
reads_few : (total : ℕ) (bs : List ℕ) (ts : List Token) (rest : List ℕ) → Reads total bs ts rest → length ts + length rest ≤ length bs
reads_few total bs ts rest here = omega arith
reads_few total bs ts rest (skips {mid = mid} h r) = omega (arith, gap_shorter bs mid h, reads_few total mid ts rest r)
reads_few total bs _ rest (takes {mid = mid} {ts = ts} {form = form} h r) = omega (arith, token_shorter bs mid form h, reads_few total mid ts rest r)

pub tokens_few : (script : List ℕ) (ts : List Token) → AreTokens script ts → length ts ≤ length script
tokens_few script ts h = omega (arith, reads_few (length script) script ts [] h)

-- ---- statements

mark_decided : (o : Option Bool) → (o ≡ Some true) ⊎ (o ≡ Some true → ⊥)
mark_decided None = inr (λ e. cc)
mark_decided (Some true) = inl refl
mark_decided (Some false) = inr (λ e. cc)

cut_decided : (ts : List Token) (start at : ℕ) → IsCut ts start at ⊎ (IsCut ts start at → ⊥)
cut_decided ts start at = elim (cases_lt at start) [
  | inl before ↦ inr (λ cut. omega (arith, before, cut.behind))
  | inr behind ↦ elim (mark_decided (option_map (λ t. is_semicolon t.form) (slice_get ts at))) [
    | inr other ↦ inr (λ cut. other cut.mark)
    | inl mark ↦ elim (cases_lt (close_braces (slice_range ts start at)) (open_braces (slice_range ts start at))) [
      | inl more ↦ inr (λ cut. omega (arith, more, cut.closed))
      | inr closed ↦ inl (record { behind = behind; mark = mark; closed = closed })
    ]
  ]
]

-- the first cut before a place, or that there is none
record FirstCut (ts : List Token) (start to : ℕ) : Type 0 where
  at : ℕ
  before : at < to
  cut : IsCut ts start at
  uncut : NoCut ts start at

uncut_zero : (ts : List Token) (start : ℕ) → NoCut ts start 0
unfolding NoCut
uncut_zero ts start at h cut = omega (arith, h)

first_cut : (ts : List Token) (start to : ℕ) → FirstCut ts start to ⊎ NoCut ts start to
first_cut ts start zero = inr (uncut_zero ts start)
first_cut ts start (suc to) = elim (first_cut ts start to) [
  | inl found ↦ inl (record { at = found.at; before = omega (arith, found.before); cut = found.cut; uncut = found.uncut })
  | inr uncut ↦ elim (cut_decided ts start to) [
    | inl cut ↦ inl (record { at = to; before = omega arith; cut = cut; uncut = uncut })
    | inr other ↦ inr (let more = uncut_more ts start to uncut other in let e : to + 1 ≡ suc to = omega arith in subst (NoCut ts start) e more)
  ]
]

by_cut : (ts : List Token) (n start : ℕ) → length ts - start ≤ suc n → start < length ts → ((at : ℕ) → at ≤ length ts → length ts - at ≤ n → (ps : List Piece) × Statements ts at ps)
    → FirstCut ts start (length ts) ⊎ NoCut ts start (length ts) → (ps : List Piece) × Statements ts start ps
by_cut ts n start few more later (inr uncut) = (record { «from» = start; to = length ts } ∷ [], last more uncut)
by_cut ts n start few more later (inl found) =
    let rest = later (found.at + 1) (omega (arith, found.before)) (omega (arith, few, found.before, found.cut.behind)) in
    (record { «from» = start; to = found.at } ∷ rest.0, next found.cut found.uncut rest.1)

statements_from : (ts : List Token) (n start : ℕ) → start ≤ length ts → length ts - start ≤ n → (ps : List Piece) × Statements ts start ps
statements_from ts zero start within few = ([], none (omega (arith, within, few)))
statements_from ts (suc n) start within few = elim (cases_lt start (length ts)) [
  | inr ended ↦ ([], none (omega (arith, within, ended)))
  | inl more ↦ by_cut ts n start few more (λ at h k. statements_from ts n at h k) (first_cut ts start (length ts))
]

pub statements_some : (ts : List Token) → (ps : List Piece) × Statements ts 0 ps
statements_some ts = statements_from ts (length ts) 0 (omega arith) (omega arith)

-- ---- depth

deepest_some : (ts : List Token) (n : ℕ) → (depth : ℕ) × IsDeepest ts n depth
deepest_some ts zero = (0, record { most = λ k h. nothing k h; place = 0; within = omega arith; reached = refl })
  where
    nothing : (k : ℕ) → k ≤ 0 → opened (take k ts) ≤ 0 + closed (take k ts)
    nothing zero h = omega arith
    nothing (suc k) h = absurd (omega (arith, h))
deepest_some ts (suc n) =
    let before = deepest_some ts n in
    let more = opened (take (n + 1) ts) - closed (take (n + 1) ts) in
    let e : n + 1 ≡ suc n = omega arith in
    (max before.0 more, subst (λ m. IsDeepest ts m (max before.0 more)) e (deepest_more ts n before.0 more before.1 refl))

pub depth_some : (ts : List Token) → (depth : ℕ) × IsDepth ts depth
depth_some ts =
    let deepest = deepest_some ts (length ts) in
    (deepest.0, record { most = deepest.1.most; place = deepest.1.place; within = deepest.1.within; reached = deepest.1.reached })
