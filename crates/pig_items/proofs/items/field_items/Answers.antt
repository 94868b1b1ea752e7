use Rattle.std.proofs.Common.{◌≡◌, ◌+◌, ◌++◌, ◌-◌, [], ◌∷◌, map, subst, sym}
use Rattle.pig_typed.specs.Typed.{item_typed, x_field}
use Rattle.pig_typing.specs.Calls.{fields_from}
use Rattle.pig_typing.specs.Parts.{plain_item}
use Rattle.pig_items.proofs.CodeLaws.{items_step}
use Rattle.pig_items.proofs.items.field_items.Goals as goal

pub loop-place-preserved : goal.loop-place-preserved
loop-place-preserved c =
    let n = c.loop-place.place in
    let count = c.args.count in
    let before = map item_typed c.loop-place.items in
    let same : n ≡ c.in_ok-field.field = cc (c.in_ok-field.ensures) in
    let pushed : map item_typed c.one_more.new.items ≡ before ++ plain_item (x_field n) ∷ [] = cc (c.in_ok-one_more.ensures) in
    let step = items_step before n count _ c.loop-place-test.true c.loop-place.invariant in
    subst (λ more. more ++ map plain_item (fields_from (n + 1) (count - (n + 1))) ≡ map plain_item (fields_from 0 count)) (sym pushed) step
