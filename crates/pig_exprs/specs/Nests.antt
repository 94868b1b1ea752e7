-- What a function value that reads what stands inside brackets is to find.
use Rattle.std.specs.Prelude.{ℕ, List, Result}
use Rattle.std.specs.Borrow.{Bor}
use Rattle.std.specs.declared.alloc.Global.{Global}
use Rattle.pig_syntax.specs.declared.tokens.Token.{Token}
use Rattle.pig_exprs.specs.declared.limits.Limits.{Limits}
use Rattle.pig_exprs.specs.declared.reading.ParseFault.{ParseFault}
use Rattle.pig_exprs.specs.Grammar.{Forms}
use Rattle.pig_exprs.specs.Reader.{FoundPart, Gives, forms}

-- a function value that reads, to any depth, what the reader of that depth finds
pub record Nests {A : Type 0} (reader : ℕ → Forms → FoundPart A) (depth : ℕ) (pre : Global → Bor (List Token) → ℕ → Type 0)
    (post : Global → Bor (List Token) → ℕ → Result (A × Bor (List Token)) ParseFault → Type 0) : Type 0 where
  pub callable : (alloc : Global) (ts : Bor (List Token)) → pre alloc ts depth
  pub reads : (alloc : Global) (ts : Bor (List Token)) (r : Result (A × Bor (List Token)) ParseFault) → post alloc ts depth r → Gives (reader depth (forms ts.now)) r

-- the same of one that counts what no bracket bounds
pub record NestsWithin {A : Type 0} (reader : ℕ → Forms → FoundPart A) (depth : ℕ) (pre : Global → Bor Limits → Bor (List Token) → ℕ → Type 0)
    (post : Global → Bor Limits → Bor (List Token) → ℕ → Result (A × Bor (List Token)) ParseFault → Type 0) : Type 0 where
  pub callable : (alloc : Global) (limits : Bor Limits) (ts : Bor (List Token)) → pre alloc limits ts depth
  pub reads : (alloc : Global) (limits : Bor Limits) (ts : Bor (List Token)) (r : Result (A × Bor (List Token)) ParseFault) → post alloc limits ts depth r → Gives (reader depth (forms ts.now)) r
