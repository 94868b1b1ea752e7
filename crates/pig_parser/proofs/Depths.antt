-- A statement whose brackets nest so deep fits that budget.
use Rattle.std.proofs.Common.{◌≡◌, ◌≤◌, ◌+◌, ℕ, zero, suc, Bool, true, false, List, [], ◌∷◌, length, take, refl, arith}
use Rattle.std.specs.Prelude.{cond}
use Rattle.std.proofs.lemmas.List.Sums.{sum_by-cons}
use Rattle.pig_syntax.specs.declared.tokens.Keyword.TheVariants as k
use Rattle.pig_syntax.specs.declared.tokens.Symbol.TheVariants as s
use Rattle.pig_syntax.specs.declared.tokens.Token.{Token}
use Rattle.pig_syntax.specs.declared.tokens.TokenForm.{TokenForm}
use Rattle.pig_syntax.specs.declared.tokens.TokenForm.TheVariants as f
use Rattle.pig_syntax.specs.Cutting.{opens_bracket, closes_bracket, opened, closed, IsDepth}
use Rattle.pig_exprs.specs.Reader.{forms}
use Rattle.pig_exprs.proofs.Fits.{Fits, FitsBehind}

-- 1 where it is so, and 0 where it isn't
abbrev count : Bool → ℕ
count b = cond b 1 0

-- no form opens a bracket and closes one
one_of_both : (t : TokenForm) → opens_bracket t ≡ true → closes_bracket t ≡ false
one_of_both (f.Symbol s.OpenParen) h = refl
one_of_both (f.Symbol s.OpenBrace) h = refl
one_of_both (f.Symbol s.OpenBracket) h = refl
one_of_both (f.Keyword k.Case) h = refl
one_of_both t h = absurd (cc)

-- the first token of some that fit
first_fits : (opens closes : Bool) → (opens ≡ true → closes ≡ false) → (behind : ℕ → Type 0) (d : ℕ) → count opens ≤ d + count closes
    → ((e : ℕ) → count opens + e ≡ d + count closes → behind e) → FitsBehind opens closes behind d
first_fits true true apart behind d h later = absurd (let e = apart refl in cc)
first_fits true false apart behind zero h later = absurd (omega (arith, h))
first_fits true false apart behind (suc d) h later = later d (omega arith)
first_fits false true apart behind d h later = later (suc d) (omega arith)
first_fits false false apart behind d h later = later d (omega arith)

opened_more : (t : Token) (ts : List Token) → opened (t ∷ ts) ≡ count (opens_bracket t.form) + opened ts
opened_more t ts = sum_by-cons (λ (x : Token). count (opens_bracket x.form)) t ts

closed_more : (t : Token) (ts : List Token) → closed (t ∷ ts) ≡ count (closes_bracket t.form) + closed ts
closed_more t ts = sum_by-cons (λ (x : Token). count (closes_bracket x.form)) t ts

-- brackets that nest so deep at each prefix fit that budget
fits_prefixes : (ts : List Token) (d : ℕ) → ((n : ℕ) → n ≤ length ts → opened (take n ts) ≤ d + closed (take n ts)) → Fits (forms ts) d
unfolding Fits
fits_prefixes [] d most = tt
fits_prefixes (t ∷ ts) d most =
    first_fits (opens_bracket t.form) (closes_bracket t.form) (one_of_both t.form) (Fits (forms ts)) d
    (let one : opened (t ∷ []) ≤ d + closed (t ∷ []) = most 1 (omega arith) in omega (arith, one, opened_more t [], closed_more t []))
    (λ e h. fits_prefixes ts e (λ n within.
    let more : opened (t ∷ take n ts) ≤ d + closed (t ∷ take n ts) = most (suc n) (omega arith) in
    omega (arith, more, h, opened_more t (take n ts), closed_more t (take n ts))))

pub fits_depth : (ts : List Token) (depth most : ℕ) → IsDepth ts depth → depth ≤ most → Fits (forms ts) most
fits_depth ts depth most deep bound = fits_prefixes ts most (λ n within. omega (arith, bound, deep.most n within))
