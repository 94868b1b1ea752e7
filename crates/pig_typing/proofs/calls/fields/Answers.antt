use Rattle.std.proofs.Common.{◌≡◌, ◌+◌, ◌++◌, ◌-◌, [], ◌∷◌, map, subst, sym}
use Rattle.pig_typed.specs.Typed.{typed, x_field}
use Rattle.pig_typing.specs.Calls.{fields_from}
use Rattle.pig_typing.proofs.CodeLaws.{fields_step}
use Rattle.pig_typing.proofs.calls.fields.Goals as goal

pub loop-place-preserved : goal.loop-place-preserved
loop-place-preserved c =
    let n = c.loop-place.place in
    let count = c.args.count in
    let before = map typed c.loop-place.fields in
    let same : n ≡ c.in_ok-field.field = cc (c.in_ok-field.ensures) in
    let pushed : map typed c.one_more.new.fields ≡ before ++ x_field n ∷ [] = cc (c.in_ok-one_more.ensures) in
    let step = fields_step before n count _ c.loop-place-test.true c.loop-place.invariant in
    subst (λ more. more ++ fields_from (n + 1) (count - (n + 1)) ≡ fields_from 0 count) (sym pushed) step
