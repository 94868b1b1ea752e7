use Rattle.std.proofs.Common.{ap, length, refl}
use Rattle.std.proofs.lemmas.Option.{slice_get_read}
use Rattle.pig_schema.specs.FieldTrees.{named_tree}
use Rattle.pig_check.proofs.CubeSteps.{column_more, no_column}
use Rattle.pig_check.proofs.cubes.with_column.Goals as goal

pub returns-in_ok-push-in-Some : goal.returns-in_ok-push-in-Some
returns-in_ok-push-in-Some c =
    let columns = c.args.columns.now in
    let found = slice_get_read columns (length columns) c.args.position c.in-Some.column.now refl c.in-Some.ensures.lookup.3.0 c.in-Some.ensures.lookup.1 in
    column_more columns c.args.made c.push.new.self c.args.position c.in-Some.column.now c.in_ok-copy_field-in-Some.field-0 found
    (ap named_tree c.in_ok-copy_field-in-Some.ensures) c.in_ok-push-in-Some.ensures.ok

pub returns-in-None : goal.returns-in-None
returns-in-None c = no_column c.args.columns.now c.args.made c.args.position c.in-None.ensures.lookup.3
