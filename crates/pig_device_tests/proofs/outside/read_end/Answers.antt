use Rattle.std.proofs.Common.{◌≡◌, ◌∙◌, ◌∷◌, [], List, Some, refl, sym, ap, subst, arith}
use Rattle.pig_value.specs.declared.inputs.Input.{Input}
use Rattle.pig_outside.specs.Shelf.{HasRange}
use Rattle.pig_device_tests.specs.OneInput.{one_input}
use Rattle.pig_device_tests.proofs.outside.read_end.Goals as goal

-- The last two bytes of the input are there.
in_range : (inputs : List Input) → Some one_input ≡ Some inputs → HasRange (105 ∷ 110 ∷ []) 0 1 2 inputs
in_range inputs told =
    let same : one_input ≡ inputs = cc in
    subst (HasRange (105 ∷ 110 ∷ []) 0 1 2) same (record { bytes = 120 ∷ 121 ∷ 122 ∷ []; there = refl; within = omega arith })

pub read-requires : goal.read-requires
read-requires c inputs told =
    in_range inputs (ap (λ (i : List Input). Some i) (sym c.requires) ∙ told)
