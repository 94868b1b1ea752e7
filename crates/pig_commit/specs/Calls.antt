-- What a commit asks of the depot, in order.
use Rattle.std.specs.Prelude.{◌≡◌, ◌<◌, ◌++◌, ℕ, List, [], ◌∷◌, length, map, Option, None, Result, IfErr, IfOk}
use Rattle.std.specs.Option.{option_map}
use Rattle.pig_outside.specs.Calls.{DepotCall}
use Rattle.pig_outside.specs.declared.failing.Method.{Method}
use Rattle.pig_outside.specs.declared.failing.Method.TheVariants as method
use Rattle.pig_commit.specs.declared.parts.StorePart.{StorePart}

abbrev pub call : Method → List ℕ → DepotCall
call of dir = record { method = of; path = dir; most = None }

-- a call for each part
abbrev pub put_calls : List ℕ → List (List ℕ) → List DepotCall
put_calls dir parts = map (λ part. call method.Put dir) parts

-- the directory is made, each part is put, the directory is marked
abbrev pub calls_of : List ℕ → List (List ℕ) → List DepotCall
calls_of dir parts = call method.Create dir ∷ (put_calls dir parts ++ call method.Finish dir ∷ [])

abbrev pub store_calls : StorePart → List DepotCall
store_calls store = calls_of store.dir store.parts

-- these calls were made behind those before, in this order, and no other
abbrev pub Asked : List DepotCall → Option (List DepotCall) → Option (List DepotCall) → Type 0
Asked calls old new = new ≡ option_map (λ before. before ++ calls) old

-- the first of these calls were made: all where it ended well, and one at least where it did not
pub record AskedFor {T E : Type 0} (calls : List DepotCall) (result : Result T E) (old new : Option (List DepotCall)) : Type 0 where
  pub made : List DepotCall
  pub left : List DepotCall
  pub asked : Asked made old new
  pub first : made ++ left ≡ calls
  pub all : IfOk result (λ _. left ≡ [])
  pub some : IfErr result (λ _. 0 < length made)
