use Rattle.std.proofs.Common.{rules, ◌≡◌, ◌==◌, ◌≤◌, ℕ, arith, length, true}
use Rattle.std.specs.Prelude.{Some, slice_get}
use Rattle.std.specs.List.{list_any}
use Rattle.std.proofs.lemmas.Option.{slice_get_within}
use Rattle.pig_moves.specs.Pushed.{place_in}
use Rattle.pig_moves.proofs.Unites.{one_number_more}
use Rattle.pig_push.proofs.uniting.are_once.Goals as goal

pub loop-index-preserved : goal.loop-index-preserved
loop-index-preserved c = λ j n below at.
    let is : c.is_once.result ≡ true = search rules in
    one_number_more (λ i. (m : ℕ) → slice_get c.args.each.now i ≡ Some m → (place_in c.args.each.now m ≡ i) × (list_any (λ l. l == m) c.args.inputs.now ≡ true)) c.loop-index.index
    (λ i less m there. c.loop-index.invariant i m less there) (c.is_once.ensures is) j below n at

pub returns : goal.returns
returns c = λ yes j n at.
    let whole : length c.args.each.now ≤ c.loop-index.index = search rules in
    let within = slice_get_within c.args.each.now j n at in
    c.loop-index.invariant j n (omega (arith, whole, within)) at
