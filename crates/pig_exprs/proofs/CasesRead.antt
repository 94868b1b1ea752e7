-- The parts of a CASE, read one after the other.
use Rattle.std.proofs.Common.{◌≡◌, ℕ, suc, refl, ap, subst, List, [], ◌∷◌, length}
use Rattle.std.specs.Prelude.{Some, Err}
use Rattle.pig_syntax.specs.declared.tokens.Token.{Token}
use Rattle.pig_syntax.specs.declared.trees.Expr.{Expr}
use Rattle.pig_exprs.specs.Grammar.{Forms}
use Rattle.pig_exprs.specs.Reader.{FoundPart, forms, Gives, GivesBeside, repeat}
use Rattle.pig_exprs.specs.ExprReader.{first_when, when_turn, last_at, cases_at}
use Rattle.pig_exprs.specs.declared.reading.ParseFault.{ParseFault}
use Rattle.pig_exprs.specs.declared.reading.ParseFault.TheVariants as at

-- as many forms as tokens
pub length_forms : (ts : List Token) → length ts ≡ length (forms ts)
length_forms [] = refl
length_forms (t ∷ ts) = ap suc (length_forms ts)

-- the WHENs are read
pub record AreRead (inner : Forms → FoundPart Expr) (ts mid behind : Forms) (first : Expr × Expr) (others : List (Expr × Expr)) (most : ℕ) : Type 0 where
  pub first_is : first_when inner ts ≡ Some (first, mid)
  pub most_is : most ≡ length mid
  pub others_are : repeat (when_turn inner) most [] mid ≡ Some (others, behind)

pub cases_made : (inner : Forms → FoundPart Expr) {ts mid behind rest : Forms} {first again : Expr × Expr} {others : List (Expr × Expr)} {whens : (Expr × Expr) × List (Expr × Expr)} {default : Expr} {most : ℕ}
    → AreRead inner ts mid behind first others most → again ≡ first → whens ≡ (again, others) → last_at inner behind ≡ Some (default, rest) → cases_at inner ts ≡ Some ((whens, default), rest)
unfolding cases_at
cases_made inner {mid = mid} {behind = behind} {others = others} are same whens_are last =
    let turns = subst (λ n. repeat (when_turn inner) n [] mid ≡ Some (others, behind)) are.most_is are.others_are in
    rw (are.first_is, turns, last, whens_are, same) refl

pub cases_fail : (inner : Forms → FoundPart Expr) {ts mid behind : Forms} {first : Expr × Expr} {others : List (Expr × Expr)} {most : ℕ} (kept : (Expr × Expr) × List (Expr × Expr)) (fault : ParseFault)
    → AreRead inner ts mid behind first others most → GivesBeside kept (last_at inner behind) (Err fault) → Gives (cases_at inner ts) (Err fault)
unfolding cases_at
cases_fail inner {mid = mid} {behind = behind} {others = others} kept at.Off are last =
    let turns = subst (λ n. repeat (when_turn inner) n [] mid ≡ Some (others, behind)) are.most_is are.others_are in
    rw (are.first_is, turns, last) refl
cases_fail inner kept at.OutOfMemory are last = tt
