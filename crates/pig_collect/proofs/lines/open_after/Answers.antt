use Rattle.std.proofs.Common.{rules, ◌≡◌, ◌-◌, length}
use Rattle.std.specs.Prelude.{Some, slice_get}
use Rattle.pig_collect.proofs.Endings.{last_tells}
use Rattle.pig_collect.proofs.lines.open_after.Goals as goal

pub returns-in-Some : goal.returns-in-Some
returns-in-Some c =
    let at : slice_get c.args.bytes.now (length c.args.bytes.now - 1) ≡ Some c.in-Some.last.now = search rules in
    last_tells c.args.was_open c.args.bytes.now c.in-Some.last.now at
