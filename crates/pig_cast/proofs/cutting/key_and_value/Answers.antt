use Rattle.std.proofs.Common.{◌+◌, ◌-◌, length, take, drop}
use Rattle.std.proofs.lemmas.List.{take_rest}
use Rattle.pig_cast.proofs.Items.{cut_found, cut_nowhere}
use Rattle.pig_cast.proofs.cutting.key_and_value.Goals as goal

pub returns-in-Some : goal.returns-in-Some
returns-in-Some c =
    let item = c.args.item.now in
    let next = c.in-Some.at + 1 in
    cut_found 35 item c.in-Some.at (take (length item - next) (drop next item)) (take_rest item next) c.in-Some.ensures.0 c.in-Some.ensures.1

pub returns-in-None : goal.returns-in-None
returns-in-None c = cut_nowhere 35 c.args.item.now c.in-None.ensures
