-- Pieces by their numbers.
use Rattle.std.specs.Prelude.{◌≡◌, ℕ, List, Some, slice_get, option_and_then}
use Rattle.std.proofs.Common.{ap}
use Rattle.pig_value.specs.declared.inputs.Input.{Input}
use Rattle.pig_outside.specs.Shelf.{pieces_of, piece_of}

-- A piece of an input is found by its number.
pub piece_at : (path : List ℕ) (k : ℕ) (pieces : List (List ℕ)) (inputs : List Input) → pieces_of path inputs ≡ Some pieces → piece_of path k inputs ≡ slice_get pieces k
piece_at path k pieces inputs is = ap (λ found. option_and_then (λ ps. slice_get ps k) found) is
