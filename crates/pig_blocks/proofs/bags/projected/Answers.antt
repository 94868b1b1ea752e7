use Rattle.std.proofs.Common.{◌≡◌, [], ◌∷◌, rules, subst, sym}
use Rattle.std.specs.declared.result.Result.TheVariants.{Err}
use Rattle.pig_typing.specs.Columns.{place_of}
use Rattle.pig_typing.specs.Parts.{step_of, steps_of}
use Rattle.pig_typing.specs.Reader.{reference_of, type_of}
use Rattle.pig_typing.specs.Results.{Tells}
use Rattle.pig_typing.specs.Views.{typed_tree}
use Rattle.pig_blocks.proofs.CodeSteps.{alone, passes_fault}
use Rattle.pig_blocks.proofs.bags.projected.Goals as goal

pub returns-in_err-typed : goal.returns-in_err-typed
unfolding type_of
returns-in_err-typed c =
    let fault = c.in_err-typed.field-0.0 in
    let is : c.from_residual.result ≡ Err fault = search rules in
    rw (is) (passes_fault typed_tree typed_tree (reference_of (place_of c.args.scope.now) c.args.field.now) (λ p. steps_of p (c.args.step.now ∷ [])) fault c.in_err-typed.ensures)

pub returns : goal.returns
unfolding type_of steps_of
returns c =
    let t = typed_tree c.in_ok-typed.typed in
    rw (c.in_ok-typed.ensures) (subst (λ r. Tells typed_tree r c.type_step.result) (sym (alone (step_of t c.args.step.now))) c.type_step.ensures)
