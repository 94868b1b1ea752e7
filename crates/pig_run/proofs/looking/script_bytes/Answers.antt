use Rattle.std.proofs.Common.{rules, ◌≡◌, ◌+◌, ◌++◌, [], true, take}
use Rattle.std.specs.Option.{is_some, unwrap_or}
use Rattle.pig_outside.specs.Shelf.{script_of}
use Rattle.pig_run.proofs.Scripts.{is_read}
use Rattle.pig_run.proofs.looking.script_bytes.Goals as goal

pub returns-in-Ok-true-clause-told : goal.returns-in-Ok-true-clause-told
returns-in-Ok-true-clause-told g c s told =
    let there : true ≡ is_some (script_of c.args.path.now s) = search rules in
    let read : c.script.new.into.items ≡ [] ++ take (1048576 + 1) (unwrap_or (script_of c.args.path.now s) []) = search rules in
    is_read 1048576 (script_of c.args.path.now s) c.script.new.into.items there read
