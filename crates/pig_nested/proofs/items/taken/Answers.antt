use Rattle.std.proofs.Common.{◌≡◌, ◌<◌, ◌≤◌, length, slice_index_or, rules, arith}
use Rattle.pig_nested.proofs.Forms.{past_is_null, taken_is}
use Rattle.pig_nested.proofs.items.taken.Goals as goal

pub returns-then-place-len : goal.returns-then-place-len
returns-then-place-len c =
    let past : length c.args.row ≤ c.args.place = search (rules, arith) in
    past_is_null c.args.row c.args.place past

pub returns : goal.returns
returns c =
    let within : c.args.place < length c.args.row = search (rules, arith) in
    let is : c.swap_remove.result ≡ slice_index_or c.args.row c.args.place c.swap_remove.result = search rules in
    taken_is c.args.row c.args.place c.swap_remove.result within is
