-- Whether the brackets of some tokens nest within a budget.
use Rattle.std.proofs.Common.{ℕ, zero, suc, ◌≤◌, Bool, true, false, [], ◌∷◌, length, arith}
use Rattle.pig_syntax.specs.Cutting.{opens_bracket, closes_bracket}
use Rattle.pig_exprs.specs.Grammar.{Forms}

-- a token that opens a bracket takes one from the budget of what follows, and one that closes a bracket gives one back
abbrev pub FitsBehind : Bool → Bool → (ℕ → Type 0) → ℕ → Type 0
FitsBehind true closes behind zero = ⊥
FitsBehind true closes behind (suc d) = behind d
FitsBehind false true behind d = behind (suc d)
FitsBehind false false behind d = behind d

-- at no place have the tokens opened more brackets than they closed and the budget has
unfoldable pub Fits : Forms → ℕ → Type 0
Fits [] d = Unit {0}
Fits (t ∷ ts) d = FitsBehind (opens_bracket t) (closes_bracket t) (Fits ts) d

fits_behind : (opens closes : Bool) (behind : ℕ → Type 0) (n d : ℕ) → ((d : ℕ) → n ≤ d → behind d) → suc n ≤ d → FitsBehind opens closes behind d
fits_behind true closes behind n zero later h = absurd (omega (arith, h))
fits_behind true closes behind n (suc d) later h = later d (omega (arith, h))
fits_behind false true behind n d later h = later (suc d) (omega (arith, h))
fits_behind false false behind n d later h = later d (omega (arith, h))

-- any tokens fit a budget of their number
pub fits_length : (ts : Forms) (d : ℕ) → length ts ≤ d → Fits ts d
unfolding Fits
fits_length [] d h = tt
fits_length (t ∷ ts) d h = fits_behind (opens_bracket t) (closes_bracket t) (Fits ts) (length ts) d (λ n i. fits_length ts n i) h
