use Rattle.std.proofs.Common.{◌≡◌, arith, length, map, subst, sym}
use Rattle.std.specs.List.{AllByRecursion}
use Rattle.pig_value.specs.Trees.{row_tree}
use Rattle.pig_keycode.specs.Keys.{IsKey}
use Rattle.pig_typed.specs.Typed.{typed}
use Rattle.pig_plan.specs.ByKey.{key_of}
use Rattle.pig_plan.specs.Operators.{keys_of}
use Rattle.pig_shuffle.specs.Held.{dirs_in}
use Rattle.pig_shuffle.proofs.Places.{one_element}
use Rattle.pig_shuffle.proofs.keying.add_by_values.Goals as goal

pub add_by_one-requires-clause-fits : goal.add_by_one-requires-clause-fits
add_by_one-requires-clause-fits c =
    let some = c.in-len1.len_at_least in
    let few = c.in-len1.len_below in
    let one : length c.args.keys.now ≡ 1 = omega (arith, some, few) in
    subst (λ ks. AllByRecursion (λ ds. IsKey ds (key_of (keys_of (map typed ks) (row_tree c.args.row.now)))) (dirs_in c.args.parts.now.runs.items))
    (one_element c.args.keys.now c.key-item.result one c.key-item.is) c.requires.fits

pub add-requires-clause-fits : goal.add-requires-clause-fits
add-requires-clause-fits c =
    subst (λ k. AllByRecursion (λ ds. IsKey ds k) (dirs_in c.args.parts.now.runs.items)) (sym c.in_ok-key.ensures) c.requires.fits
